-- What becomes of one cell leaves the others as they are.
use Rattle.std.proofs.Common.{◌≡◌, refl, sym, ap, subst, ◌∙◌, arith, ℕ, ◌<◌, ◌≤◌, inl, inr, ◌⊎◌, List, [], ◌∷◌, ◌++◌}
use Rattle.nim_types.specs.Forms.{Form}
use Rattle.nim_meaning.specs.Values.{Value, part, put_part, Base, InBlock, Location}
use Rattle.nim_meaning.specs.Marks.{Member, Distinct}
use Rattle.nim_meaning.specs.State.{World, whole_at}
use Rattle.holders.specs.Owned.{IsBase, Apart, MayBecome, Lies, Keeps}
use Rattle.holders.specs.Becoming.{taken_in, Strange, times, BecomesWith}
use Rattle.holders.specs.Beside.{OtherPart, other_base, other_way}
use Rattle.holders.specs.Territory.{Owner, Cells, no_cells, a_cell, OtherThan, LieApart, ClearOf, Territory, StandsAt, NoBaseOf, Moves, Among}
use Rattle.holders.specs.Territory.{first_owner, later_owner, Owns, IsUnder, LeaveRow, MovesWith}
use Rattle.holders.proofs.RowsLeft.{row_left}
use Rattle.holders.proofs.Bases.{whole_is}
use Rattle.holders.proofs.Staying.{stays_same, stays_then}
use Rattle.holders.proofs.PathLemmas.{ways_back}
use Rattle.holders.proofs.Letters.{may_beside, beside_is, may_put, stands_then}
use Rattle.holders.proofs.Owning.{in_first, in_second, distinct_second, distinct_apart, has_stays}
use Rattle.holders.proofs.Ending.{same_number}
use Rattle.holders.proofs.Copying.{base_below, has_below, either_block}
use Rattle.holders.proofs.Outward.{assoc, middle_distinct}
use Rattle.holders.proofs.Ledger.{times_middle}

-- ---- one location beside another

pub other_back : {to from : Location} → OtherPart to from → OtherPart from to
other_back (other_base d) = other_base (λ e. d (sym e))
other_back (other_way e w) = other_way (sym e) (ways_back w)

pub becomes_beside : {goes : ℕ → ℕ} {f : Form} {to l : Location} {w v : Value} {given old : List ℕ} {world after : World} → Lies world to w →
    BecomesWith goes f to w given old world after → OtherPart to l → Apart l.base old → StandsAt world l v → StandsAt after l v
becomes_beside {l = l} at b (other_base d) far s = record {
  whole = s.whole;
  at = record { base = b.elsewhere l.base s.whole s.at.base d far; part = s.at.part; may = s.at.may };
  is = s.is;
}
becomes_beside {to = to} {l = l} {w = w} {world = world} {after = after} at b (other_way e ways) far s =
    let same : s.whole ≡ w = sym (whole_is world l.base s.whole s.at.base) ∙ ap (λ x. whole_at world x) e ∙ whole_is world to.base w at.base in
    record {
      whole = put_part w to.path b.now;
      at = record {
        base = subst (λ x. IsBase after x (put_part w to.path b.now)) (sym e) b.is;
        part = may_beside b.now at.part ways (subst (λ x. MayBecome x l.path) same s.at.part);
        may = s.at.may;
      };
      is = beside_is b.now at.part ways ∙ sym (ap (λ x. part x l.path) same) ∙ s.is;
    }

record CellThen (g : Form) (l : Location) (v : Value) (bs : List ℕ) (after : World) : Type 0 where
  whole : Value
  cell : Keeps g l whole v bs after

cell_beside : {goes : ℕ → ℕ} {f g : Form} {to l : Location} {w u v : Value} {given old bs : List ℕ} {world after : World} → Lies world to w →
    BecomesWith goes f to w given old world after →
    OtherPart to l → Apart l.base old → Apart to.base bs → ((k : ℕ) → Member k bs → Member k old → ⊥) → Keeps g l u v bs world → CellThen g l v bs after
cell_beside {u = u} {old = old} {bs = bs} {world = world} {after = after} at b other far to_far both c =
    let s = becomes_beside at b other far (record { whole = u; at = c.at; is = c.is }) in
    record {
      whole = s.whole;
      cell = record {
        at = s.at;
        is = s.is;
        has = has_stays world after (λ k x m is. b.elsewhere (InBlock k) x is (λ q. to_far k (sym q) m)
            (λ j q n. both k m (subst (λ i. Member i old) (sym (same_number k j q)) n))) c.has;
        distinct = c.distinct;
        apart = c.apart;
      };
    }

-- ---- lists

pub clear_less : (bs cs : List ℕ) (os : List Owner) → ((k : ℕ) → Member k cs → Member k bs) → ClearOf bs os → ClearOf cs os
clear_less bs cs [] within c = tt
clear_less bs cs (o ∷ os) within c = (λ k q m. c.0 k q (within k m), clear_less bs cs os within c.1)

pub other_at : {l : Location} {os : List Owner} {o : Owner} → OtherThan l os → Among os o → OtherPart o.at l
other_at h first_owner = h.0
other_at h (later_owner i) = other_at h.1 i

leaves_at : {l : Location} {os : List Owner} {o : Owner} → LeaveRow l os → Among os o → OtherPart o.at l ⊎ IsUnder o.at l
leaves_at h first_owner = h.0
leaves_at h (later_owner i) = leaves_at h.1 i

pub no_base_at : {b : Base} {os : List Owner} {o : Owner} → NoBaseOf b os → Among os o → b ≡ o.at.base → ⊥
no_base_at h first_owner = h.0
no_base_at h (later_owner i) = no_base_at h.1 i

pub clear_at : (bs : List ℕ) {os : List Owner} {o : Owner} → ClearOf bs os → Among os o → Apart o.at.base bs
clear_at bs h first_owner = h.0
clear_at bs h (later_owner i) = clear_at bs h.1 i

-- the others stay
cells_beside : {goes : ℕ → ℕ} {f : Form} {to : Location} {w : Value} {given old : List ℕ} {world after : World} → Lies world to w →
    BecomesWith goes f to w given old world after → (os : List Owner) (cs : List ℕ) → OtherThan to os → ClearOf old os → Apart to.base cs →
    ((k : ℕ) → Member k cs → Member k old → ⊥) →
    Cells world os cs → Cells after os cs
cells_beside at b [] _ other far to_far both no_cells = no_cells
cells_beside at b (o ∷ os) _ other far to_far both (a_cell {bs = bs} {cs = cs} c rest) =
    a_cell (cell_beside at b (other_back other.0) far.0 (λ k q m. to_far k q (in_first k bs cs m)) (λ k m n. both k (in_first k bs cs m) n) c).cell
    (cells_beside at b os cs other.1 far.1 (λ k q m. to_far k q (in_second k bs cs m)) (λ k m n. both k (in_second k bs cs m) n) rest)

-- no base of a cell is one of these
pub cells_clear : {world : World} (os : List Owner) (cs old given new : List ℕ) → Cells world os cs → ClearOf old os → ClearOf given os →
    ((k : ℕ) → Member k new → Member k old ⊎ (Member k given ⊎ (taken_in world ≤ k))) → ClearOf new os
cells_clear [] _ old given new no_cells c d from = tt
cells_clear {world} (o ∷ os) _ old given new (a_cell {w = w} {cs = cs} cell rest) c d from =
    (λ k q m. by k q (from k m), cells_clear os cs old given new rest c.1 d.1 from)
  where
    too_far : (k : ℕ) → IsBase world (InBlock k) w → taken_in world ≤ k → ⊥
    too_far k h le = omega (arith, base_below h, le)

    by : (k : ℕ) → o.at.base ≡ InBlock k → Member k old ⊎ (Member k given ⊎ (taken_in world ≤ k)) → ⊥
    by k q (inl m) = c.0 k q m
    by k q (inr (inl m)) = d.0 k q m
    by k q (inr (inr le)) = too_far k (subst (λ b. IsBase world b w) q cell.at.base) le

pub cells_below : {world : World} (os : List Owner) (cs : List ℕ) → Cells world os cs → (k : ℕ) → Member k cs → k < taken_in world
cells_below [] _ no_cells k m = elim m [ ]
cells_below {world} (o ∷ os) _ (a_cell {bs = bs} {cs = cs} c rest) k m =
    either_block k bs cs (k < taken_in world) m (has_below c.has k) (cells_below os cs rest k)

-- ---- one of the cells

record Picked (os : List Owner) (all : List ℕ) (o : Owner) (world : World) : Type 0 where
  stands_in : Value
  value : Value
  before : List ℕ
  mine : List ℕ
  behind : List ℕ
  is : all ≡ before ++ (mine ++ behind)
  cell : Keeps o.form o.at stands_in value mine world
  put : {goes : ℕ → ℕ} (given : List ℕ) (after : World) → ClearOf given os → (b : BecomesWith goes o.form o.at stands_in given mine world after) →
      Cells after os (before ++ (b.blocks ++ behind))

new_cell : {goes : ℕ → ℕ} {f : Form} {l : Location} {w v : Value} {given mine : List ℕ} {world after : World} → Keeps f l w v mine world →
    (b : BecomesWith goes f l w given mine world after) → Apart l.base given →
    Keeps f l (put_part w l.path b.now) (part (put_part w l.path b.now) l.path) b.blocks after
new_cell {l = l} {w = w} {given = given} {mine = mine} {world = world} c b far = record {
  at = record { base = b.is; part = may_put b.now c.at.part; may = c.at.may };
  is = refl;
  has = stands_then c.at.part c.is c.has b.has;
  distinct = b.distinct;
  apart = λ k q m. by k q (b.came k m);
}
  where
    too_far : (k : ℕ) → IsBase world (InBlock k) w → taken_in world ≤ k → ⊥
    too_far k h le = omega (arith, base_below h, le)

    by : (k : ℕ) → l.base ≡ InBlock k → Member k mine ⊎ (Member k given ⊎ (taken_in world ≤ k)) → ⊥
    by k q (inl m) = c.apart k q m
    by k q (inr (inl m)) = far k q m
    by k q (inr (inr le)) = too_far k (subst (λ b. IsBase world b w) q c.at.base) le

-- the first one
head_picked : {world : World} {o : Owner} {os : List Owner} {w v : Value} {bs cs : List ℕ} → Keeps o.form o.at w v bs world → Cells world os cs →
    LieApart (o ∷ os) → ClearOf (bs ++ cs) (o ∷ os) → Distinct (bs ++ cs) → Picked (o ∷ os) (bs ++ cs) o world
head_picked {world} {o} {os} {w} {v} {bs} {cs} c rest others clear d = record {
  stands_in = w;
  value = v;
  before = [];
  mine = bs;
  behind = cs;
  is = refl;
  cell = c;
  put = λ given after far b. a_cell (new_cell c b far.0)
      (cells_beside c.at b os cs others.0 (clear_less (bs ++ cs) bs os (λ k m. in_first k bs cs m) clear.1) (λ k q m. clear.0 k q (in_second k bs cs m))
      (λ k m n. distinct_apart k bs cs d n m) rest);
}

pick_cell : {world : World} {o : Owner} (os : List Owner) (cs : List ℕ) → Cells world os cs → Among os o → LieApart os → ClearOf cs os → Distinct cs →
    Picked os cs o world
pick_cell [] cs _ i others clear d = elim i [ ]
pick_cell {world} (o ∷ os) _ (a_cell c rest) first_owner others clear d = head_picked c rest others clear d
pick_cell {world} {o} (p ∷ os) _ (a_cell {w = u} {v = v} {bs = bs} {cs = cs} c rest) (later_owner i) others clear d =
    let s = pick_cell os cs rest i others.1 (clear_less (bs ++ cs) cs os (λ k m. in_second k bs cs m) clear.1) (distinct_second bs cs d) in
    let mine_in : (k : ℕ) → Member k s.mine → Member k cs =
    λ k m. subst (λ ds. Member k ds) (sym s.is) (in_second k s.before (s.mine ++ s.behind) (in_first k s.mine s.behind m)) in
    record {
      stands_in = s.stands_in;
      value = s.value;
      before = bs ++ s.before;
      mine = s.mine;
      behind = s.behind;
      is = ap (λ ds. bs ++ ds) s.is ∙ sym (assoc bs s.before (s.mine ++ s.behind));
      cell = s.cell;
      put = λ given after far b. subst (λ ds. Cells after (p ∷ os) ds) (sym (assoc bs s.before (b.blocks ++ s.behind)))
          (a_cell (cell_beside s.cell.at b (other_at others.0 i) (λ k q m. clear.0 k q (in_second k bs cs (mine_in k m)))
          (λ k q m. clear_at (bs ++ cs) clear.1 i k q (in_first k bs cs m)) (λ k m n. distinct_apart k bs cs d m (mine_in k n)) c).cell
          (s.put given after far.1 b));
    }

picked_moves : {goes : ℕ → ℕ} {os : List Owner} {o : Owner} {world : World} (t : Territory os world) (i : Among os o) (s : Picked os t.blocks o world)
    (given : List ℕ) (after : World) → Strange given t.blocks → ClearOf given os →
    BecomesWith goes o.form o.at s.stands_in given s.mine world after → MovesWith (λ k. times k given) goes os given t.blocks world after
picked_moves {os = os} {o = o} {world = world} t i s given after strange far b = record {
  territory = record {
    blocks = s.before ++ (b.blocks ++ s.behind);
    cells = s.put given after far b;
    distinct = middle_distinct s.before s.mine s.behind b.blocks split b.distinct
        (λ k m n. apart k (b.came k m) (before_in k n) (λ q. distinct_apart k s.before (s.mine ++ s.behind) split n (in_first k s.mine s.behind q)))
        (λ k m n. apart k (b.came k m) (behind_in k n)
        (λ q. distinct_apart k s.mine s.behind (distinct_second s.before (s.mine ++ s.behind) split) q n));
    others = t.others;
    clear = cells_clear os t.blocks t.blocks given (s.before ++ (b.blocks ++ s.behind)) t.cells t.clear far came;
  };
  came = came;
  grows = b.grows;
  loses = λ k. omega (arith, b.loses k, times_middle k s.before s.mine s.behind s.is, times_middle k s.before b.blocks s.behind refl);
  alone = record {
    bases = λ x y h off apart. b.elsewhere x y h (no_base_at off i) (λ k q m. apart k q (in_second k given t.blocks (mine_in k m)));
    parts = λ l v h other apart. becomes_beside s.cell.at b (other_at other i) (λ k q m. apart k q (in_second k given t.blocks (mine_in k m))) h;
    rows = λ l n r leave apart. row_left s.cell.at b (leaves_at leave i) (λ k q m. apart k q (in_second k given t.blocks (mine_in k m))) r;
    stays = b.stays;
  };
}
  where
    split : Distinct (s.before ++ (s.mine ++ s.behind))
    split = subst (λ (cs : List ℕ). Distinct cs) s.is t.distinct

    before_in : (k : ℕ) → Member k s.before → Member k t.blocks
    before_in k m = subst (λ ds. Member k ds) (sym s.is) (in_first k s.before (s.mine ++ s.behind) m)

    mine_in : (k : ℕ) → Member k s.mine → Member k t.blocks
    mine_in k m = subst (λ ds. Member k ds) (sym s.is) (in_second k s.before (s.mine ++ s.behind) (in_first k s.mine s.behind m))

    behind_in : (k : ℕ) → Member k s.behind → Member k t.blocks
    behind_in k m = subst (λ ds. Member k ds) (sym s.is) (in_second k s.before (s.mine ++ s.behind) (in_second k s.mine s.behind m))

    too_far : (k : ℕ) → k < taken_in world → taken_in world ≤ k → ⊥
    too_far k less le = omega (arith, less, le)

    apart : (k : ℕ) → Member k s.mine ⊎ (Member k given ⊎ (taken_in world ≤ k)) → Member k t.blocks → (Member k s.mine → ⊥) → ⊥
    apart k (inl q) n not = not q
    apart k (inr (inl q)) n not = strange k q n
    apart k (inr (inr le)) n not = too_far k (cells_below os t.blocks t.cells k n) le

    came : (k : ℕ) → Member k (s.before ++ (b.blocks ++ s.behind)) → Member k t.blocks ⊎ (Member k given ⊎ (taken_in world ≤ k))
    came k m =
        either_block k s.before (b.blocks ++ s.behind) (Member k t.blocks ⊎ (Member k given ⊎ (taken_in world ≤ k))) m (λ n. inl (before_in k n))
        (λ n. either_block k b.blocks s.behind (Member k t.blocks ⊎ (Member k given ⊎ (taken_in world ≤ k))) n (λ q. by (b.came k q))
        (λ q. inl (behind_in k q)))
      where
        by : Member k s.mine ⊎ (Member k given ⊎ (taken_in world ≤ k)) → Member k t.blocks ⊎ (Member k given ⊎ (taken_in world ≤ k))
        by (inl q) = inl (mine_in k q)
        by (inr q) = inr q

picked_without : {goes : ℕ → ℕ} {os : List Owner} {o : Owner} {world : World} (t : Territory os world) (i : Among os o) (s : Picked os t.blocks o world)
    (given : List ℕ)
    (after : World) (far : Strange given t.blocks) (clear : ClearOf given os)
    (b : BecomesWith goes o.form o.at s.stands_in given s.mine world after) (k : ℕ) → Member k (picked_moves t i s given after far clear b).territory.blocks →
    Member k s.mine → Member k b.blocks
unfolding picked_moves
picked_without t i s given after far clear b k m n =
    let split : Distinct (s.before ++ (s.mine ++ s.behind)) = subst (λ (cs : List ℕ). Distinct cs) s.is t.distinct in
    either_block k s.before (b.blocks ++ s.behind) (Member k b.blocks) m
    (λ q. absurd (distinct_apart k s.before (s.mine ++ s.behind) split q (in_first k s.mine s.behind n)))
    (λ q. either_block k b.blocks s.behind (Member k b.blocks) q (λ z. z)
    (λ z. absurd (distinct_apart k s.mine s.behind (distinct_second s.before (s.mine ++ s.behind) split) n z)))

pub head_moves : {goes : ℕ → ℕ} {world : World} {o : Owner} {os : List Owner} {w v : Value} {bs cs : List ℕ} → Keeps o.form o.at w v bs world →
    Cells world os cs →
    LieApart (o ∷ os) → ClearOf (bs ++ cs) (o ∷ os) → Distinct (bs ++ cs) → (given : List ℕ) (after : World) → Strange given (bs ++ cs) →
    ClearOf given (o ∷ os) → BecomesWith goes o.form o.at w given bs world after →
    MovesWith (λ k. times k given) goes (o ∷ os) given (bs ++ cs) world after
unfolding head_picked
head_moves {bs = bs} {cs = cs} c rest others clear d given after far far_given b =
    picked_moves (record { blocks = bs ++ cs; cells = a_cell c rest; distinct = d; others = others; clear = clear }) first_owner
    (head_picked c rest others clear d) given after far far_given b

pub owns : {os : List Owner} {o : Owner} {world : World} (t : Territory os world) → Among os o → Owns os t.blocks o world
owns {os} {o} {world} t i =
    let s = pick_cell os t.blocks t.cells i t.others t.clear t.distinct in
    let mine_in : (k : ℕ) → Member k s.mine → Member k t.blocks =
    λ k m. subst (λ ds. Member k ds) (sym s.is) (in_second k s.before (s.mine ++ s.behind) (in_first k s.mine s.behind m)) in
    record {
      stands_in = s.stands_in;
      value = s.value;
      mine = s.mine;
      cell = s.cell;
      within = mine_in;
      moves = λ given after strange far b. picked_moves t i s given after strange far b;
      without = λ given after strange far b k m n. picked_without t i s given after strange far b k m n;
    }

-- ---- one thing after another

pub moves_same : {os : List Owner} {world : World} (t : Territory os world) → Moves os [] t.blocks world world
moves_same {os} {world} t = record {
  territory = t;
  came = λ k m. inl m;
  grows = omega arith;
  loses = λ k. omega arith;
  alone = record { bases = λ b x h off far. h; parts = λ l v h other far. h; rows = λ l n r leave far. r; stays = stays_same world };
}

pub moves_then : {os : List Owner} {old : List ℕ} {world middle last : World} (a : Moves os [] old world middle) →
    Moves os [] a.territory.blocks middle last → Moves os [] old world last
moves_then {os} {old} {world} {middle} {last} a b = record {
  territory = b.territory;
  came = λ k m. by k (b.came k m);
  grows = omega (arith, a.grows, b.grows);
  loses = λ k. omega (arith, a.loses k, b.loses k);
  alone = record {
    bases = λ x y h off far. b.alone.bases x y (a.alone.bases x y h off far) off (λ k q m. not_there x y h k q (a.came k m) (λ n. far k q n));
    parts = λ l v h other far. b.alone.parts l v (a.alone.parts l v h other far) other
        (λ k q m. not_there l.base h.whole h.at.base k q (a.came k m) (λ n. far k q n));
    rows = λ l n r leave far. b.alone.rows l n (a.alone.rows l n r leave far) leave
        (λ k q m. not_there l.base r.whole r.base k q (a.came k m) (λ z. far k q z));
    stays = stays_then a.alone.stays b.alone.stays;
  };
}
  where
    first : (k : ℕ) → Member k old ⊎ (Member k [] ⊎ (taken_in world ≤ k)) → Member k old ⊎ (Member k [] ⊎ (taken_in world ≤ k))
    first k q = q

    further : (k : ℕ) → taken_in middle ≤ k → taken_in world ≤ k
    further k le = omega (arith, le, a.grows)

    by : (k : ℕ) → Member k a.territory.blocks ⊎ (Member k [] ⊎ (taken_in middle ≤ k)) → Member k old ⊎ (Member k [] ⊎ (taken_in world ≤ k))
    by k (inl m) = first k (a.came k m)
    by k (inr (inl m)) = elim m [ ]
    by k (inr (inr le)) = inr (inr (further k le))

    not_there : (x : Base) (y : Value) → IsBase world x y → (k : ℕ) → x ≡ InBlock k → Member k old ⊎ (Member k [] ⊎ (taken_in world ≤ k)) →
        (Member k old → ⊥) → ⊥
    not_there x y h k q (inl m) far = far m
    not_there x y h k q (inr (inl m)) far = elim m [ ]
    not_there x y h k q (inr (inr le)) far = too_far (subst (λ b. IsBase world b y) q h)
      where
        too_far : IsBase world (InBlock k) y → ⊥
        too_far h = omega (arith, base_below h, le)

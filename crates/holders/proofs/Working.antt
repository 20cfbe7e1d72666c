-- What becomes of some of the cells, or of them in another order.
use Rattle.std.proofs.Common.{◌≡◌, refl, sym, ap, subst, ◌∙◌, arith, ℕ, ◌+◌, ◌<◌, ◌≤◌, inl, inr, ◌⊎◌, List, [], ◌∷◌, ◌++◌, suc, length}
use Rattle.nim_meaning.specs.Values.{InBlock}
use Rattle.nim_meaning.specs.Marks.{Member, Distinct}
use Rattle.nim_meaning.specs.State.{World}
use Rattle.holders.specs.Owned.{Apart}
use Rattle.holders.specs.Becoming.{taken_in, Strange, times}
use Rattle.holders.specs.Beside.{OtherPart}
use Rattle.holders.specs.Territory.{Owner, Cells, no_cells, a_cell, AllOwners, OtherThan, LieApart, ClearOf, Territory, Alone}
use Rattle.holders.specs.Territory.{IsUnder, Among, first_owner, later_owner, MovesWith}
use Rattle.holders.specs.Working.{Back, Works, number, without}
use Rattle.holders.proofs.Owning.{in_first, in_second, distinct_first, distinct_second, distinct_apart, has_stays}
use Rattle.holders.proofs.Ending.{same_number}
use Rattle.holders.proofs.Copying.{distinct_both, either_block}
use Rattle.holders.proofs.Outward.{assoc}
use Rattle.holders.proofs.Moving.{other_back, clear_less, cells_below, cells_clear}
use Rattle.holders.proofs.Ledger.{times_both, times_middle}

-- ---- all of some owners

pub all_both : (P : Owner → Type 0) (os qs : List Owner) → AllOwners P os → AllOwners P qs → AllOwners P (os ++ qs)
all_both P [] qs h g = g
all_both P (o ∷ os) qs h g = (h.0, all_both P os qs h.1 g)

pub all_first : (P : Owner → Type 0) (os qs : List Owner) → AllOwners P (os ++ qs) → AllOwners P os
all_first P [] qs h = tt
all_first P (o ∷ os) qs h = (h.0, all_first P os qs h.1)

pub all_second : (P : Owner → Type 0) (os qs : List Owner) → AllOwners P (os ++ qs) → AllOwners P qs
all_second P [] qs h = h
all_second P (o ∷ os) qs h = all_second P os qs h.1

pub all_so : (P Q : Owner → Type 0) (os : List Owner) → ((o : Owner) → P o → Q o) → AllOwners P os → AllOwners Q os
all_so P Q [] g h = tt
all_so P Q (o ∷ os) g h = (g o h.0, all_so P Q os g h.1)

pub all_at : (P : Owner → Type 0) {os : List Owner} {o : Owner} → AllOwners P os → Among os o → P o
all_at P h first_owner = h.0
all_at P h (later_owner i) = all_at P h.1 i

pub all_without : (P : Owner → Type 0) {os : List Owner} {o : Owner} (i : Among os o) → AllOwners P os → AllOwners P (without i)
all_without P first_owner h = h.1
all_without P (later_owner i) h = (h.0, all_without P i h.1)

pub all_with : (P : Owner → Type 0) {os : List Owner} {o : Owner} (i : Among os o) → P o → AllOwners P (without i) → AllOwners P os
all_with P first_owner p h = (p, h)
all_with P (later_owner i) p h = (h.0, all_with P i p h.1)

-- each of some and each of others
pub each_first : (R : Owner → Owner → Type 0) (m : Owner) (ms os : List Owner) → AllOwners (λ p. AllOwners (λ n. R n p) (m ∷ ms)) os → AllOwners (λ p. R m p) os
each_first R m ms os h = all_so (λ p. AllOwners (λ n. R n p) (m ∷ ms)) (λ p. R m p) os (λ p q. q.0) h

pub each_rest : (R : Owner → Owner → Type 0) (m : Owner) (ms os : List Owner) → AllOwners (λ p. AllOwners (λ n. R n p) (m ∷ ms)) os →
    AllOwners (λ p. AllOwners (λ n. R n p) ms) os
each_rest R m ms os h = all_so (λ p. AllOwners (λ n. R n p) (m ∷ ms)) (λ p. AllOwners (λ n. R n p) ms) os (λ p q. q.1) h

-- ---- owners that lie apart

pub apart_first : (os qs : List Owner) → LieApart (os ++ qs) → LieApart os
apart_first [] qs h = tt
apart_first (o ∷ os) qs h = (all_first (λ p. OtherPart p.at o.at) os qs h.0, apart_first os qs h.1)

pub apart_second : (os qs : List Owner) → LieApart (os ++ qs) → LieApart qs
apart_second [] qs h = h
apart_second (o ∷ os) qs h = apart_second os qs h.1

-- each of the second ones lies beside the first ones
pub apart_across : (os qs : List Owner) → LieApart (os ++ qs) → AllOwners (λ q. OtherThan q.at os) qs
apart_across [] qs h = all_so (λ q. Unit {0}) (λ q. Unit {0}) qs (λ q u. u) (units qs)
  where
    units : (qs : List Owner) → AllOwners (λ q. Unit {0}) qs
    units [] = tt
    units (q ∷ qs) = (tt, units qs)
apart_across (o ∷ os) qs h = joined qs (all_second (λ p. OtherPart p.at o.at) os qs h.0) (apart_across os qs h.1)
  where
    joined : (qs : List Owner) → AllOwners (λ p. OtherPart p.at o.at) qs → AllOwners (λ q. OtherThan q.at os) qs →
        AllOwners (λ q. OtherThan q.at (o ∷ os)) qs
    joined [] a b = tt
    joined (q ∷ qs) a b = ((other_back a.0, b.0), joined qs a.1 b.1)

pub apart_both : (os qs : List Owner) → LieApart os → LieApart qs → AllOwners (λ q. OtherThan q.at os) qs → LieApart (os ++ qs)
apart_both [] qs a b c = b
apart_both (o ∷ os) qs a b c = (
  all_both (λ p. OtherPart p.at o.at) os qs a.0
      (all_so (λ q. OtherPart o.at q.at) (λ q. OtherPart q.at o.at) qs (λ q w. other_back w) (each_first (λ n q. OtherPart n.at q.at) o os qs c)),
  apart_both os qs a.1 b (each_rest (λ n q. OtherPart n.at q.at) o os qs c),
)

pub apart_without : {os : List Owner} {o : Owner} (i : Among os o) → LieApart os → LieApart (o ∷ without i)
apart_without first_owner h = h
apart_without {o = o} (later_owner {p = p} {os = os} i) h =
    let rest = apart_without i h.1 in
    let one = all_at (λ q. OtherPart q.at p.at) h.0 i in
    ((other_back one, rest.0), (all_without (λ q. OtherPart q.at p.at) i h.0, rest.1))

-- ---- cells

pub record CellsApart (os qs : List Owner) (bs : List ℕ) (world : World) : Type 0 where
  pub first : List ℕ
  pub second : List ℕ
  pub is : bs ≡ first ++ second
  pub cells : Cells world os first
  pub others : Cells world qs second

pub cells_apart : {world : World} (os qs : List Owner) (bs : List ℕ) → Cells world (os ++ qs) bs → CellsApart os qs bs world
cells_apart [] qs bs c = record { first = []; second = bs; is = refl; cells = no_cells; others = c }
cells_apart (o ∷ os) qs _ (a_cell {bs = bs} {cs = cs} c rest) =
    let s = cells_apart os qs cs rest in
    record {
      first = bs ++ s.first;
      second = s.second;
      is = ap (λ ds. bs ++ ds) s.is ∙ sym (assoc bs s.first s.second);
      cells = a_cell c s.cells;
      others = s.others;
    }

pub cells_both : {world : World} (os qs : List Owner) (bs cs : List ℕ) → Cells world os bs → Cells world qs cs → Cells world (os ++ qs) (bs ++ cs)
cells_both [] qs _ cs no_cells g = g
cells_both {world} (o ∷ os) qs _ cs (a_cell {bs = ds} {cs = bs} c rest) g =
    subst (λ es. Cells world (o ∷ (os ++ qs)) es) (sym (assoc ds bs cs)) (a_cell c (cells_both os qs bs cs rest g))

-- cells beside what was changed
module _ (os : List Owner) (old : List ℕ) (world after : World) (al : Alone os old world after) where
  pub cells_stay : (qs : List Owner) (cs : List ℕ) → Cells world qs cs → AllOwners (λ q. OtherThan q.at os) qs → ClearOf old qs → ClearOf cs os →
      ((k : ℕ) → Member k cs → Member k old → ⊥) → Cells after qs cs
  cells_stay [] _ no_cells other clear far both = no_cells
  cells_stay (q ∷ qs) _ (a_cell {w = w} {v = v} {bs = bs} {cs = cs} c rest) other clear far both =
      let s = al.parts q.at v (record { whole = w; at = c.at; is = c.is }) other.0 clear.0 in
      a_cell {w = s.whole} {v = v} {bs = bs} {cs = cs} (record {
        at = s.at;
        is = s.is;
        has = has_stays world after (λ k x m is. al.bases (InBlock k) x is
            (all_so (λ o. Apart o.at.base (bs ++ cs)) (λ o. InBlock k ≡ o.at.base → ⊥) os (λ o p e. p k (sym e) (in_first k bs cs m)) far)
            (λ j e n. both k (in_first k bs cs m) (subst (λ i. Member i old) (sym (same_number k j e)) n))) c.has;
        distinct = c.distinct;
        apart = c.apart;
      }) (cells_stay qs cs rest other.1 clear.1 (clear_less (bs ++ cs) cs os (λ k m. in_second k bs cs m) far) (λ k m. both k (in_second k bs cs m)))

-- ---- the same, and one after another

pub works_same : {os : List Owner} {world : World} (t : Territory os world) → Works os os t.blocks world
works_same t = record {
  territory = t;
  within = λ k m. m;
  clear = λ given far c. c;
  back = λ given after far c m. record { moves = m; without = λ k a b. a; into = λ k a. inl a };
}

pub works_then : {os ms ns : List Owner} {blocks : List ℕ} {world : World} (a : Works os ms blocks world) → Works ms ns a.territory.blocks world →
    Works os ns blocks world
works_then {os} {ms} {ns} {blocks} {world} a b = record {
  territory = b.territory;
  within = λ k m. a.within k (b.within k m);
  clear = λ given far c. b.clear given (inner given far) (a.clear given far c);
  back = λ given after far c m. both given after far c m (b.back given after (inner given far) (a.clear given far c) m);
}
  where
    inner : (given : List ℕ) → Strange given blocks → Strange given a.territory.blocks
    inner given far k m n = far k m (a.within k n)

    onward : (new : List ℕ) (k : ℕ) → Member k new ⊎ (Member k a.territory.blocks × (Member k b.territory.blocks → ⊥)) →
        Member k new ⊎ (Member k blocks × (Member k b.territory.blocks → ⊥))
    onward new k (inl q) = inl q
    onward new k (inr q) = inr (a.within k q.0, q.1)

    joined : (new middle : List ℕ) (k : ℕ) → (Member k middle → Member k new ⊎ (Member k a.territory.blocks × (Member k b.territory.blocks → ⊥))) →
        Member k middle ⊎ (Member k blocks × (Member k a.territory.blocks → ⊥)) → Member k new ⊎ (Member k blocks × (Member k b.territory.blocks → ⊥))
    joined new middle k first (inl q) = onward new k (first q)
    joined new middle k first (inr q) = inr (q.0, λ z. q.1 (b.within k z))

    both : {comes goes : ℕ → ℕ} (given : List ℕ) (after : World) (far : Strange given blocks) (c : ClearOf given os)
        (m : MovesWith comes goes ns given b.territory.blocks world after) →
        Back comes goes ms given a.territory.blocks b.territory.blocks m.territory.blocks world after →
        Back comes goes os given blocks b.territory.blocks m.territory.blocks world after
    both given after far c m r =
        let s = a.back given after far c r.moves in
        record {
          moves = s.moves;
          without = λ k x y. r.without k (s.without k x (b.within k y)) y;
          into = λ k x. joined m.territory.blocks r.moves.territory.blocks k (λ q. r.into k q) (s.into k x);
        }

-- blocks of both
pub clear_both : (bs cs : List ℕ) (os : List Owner) → ClearOf bs os → ClearOf cs os → ClearOf (bs ++ cs) os
clear_both bs cs [] a b = tt
clear_both bs cs (o ∷ os) a b = (λ k e m. either_block k bs cs ⊥ m (λ q. a.0 k e q) (λ q. b.0 k e q), clear_both bs cs os a.1 b.1)

-- ---- the first ones alone

module _ (os qs : List Owner) (world : World) (t : Territory (os ++ qs) world) where
  abbrev pieces : CellsApart os qs t.blocks world
  pieces = cells_apart os qs t.blocks t.cells

  in_first_of : (k : ℕ) → Member k pieces.first → Member k t.blocks
  in_first_of k m = subst (λ ds. Member k ds) (sym pieces.is) (in_first k pieces.first pieces.second m)

  in_second_of : (k : ℕ) → Member k pieces.second → Member k t.blocks
  in_second_of k m = subst (λ ds. Member k ds) (sym pieces.is) (in_second k pieces.first pieces.second m)

  both_distinct : Distinct (pieces.first ++ pieces.second)
  both_distinct = subst (λ (ds : List ℕ). Distinct ds) pieces.is t.distinct

  first_territory : Territory os world
  first_territory = record {
    blocks = pieces.first;
    cells = pieces.cells;
    distinct = distinct_first pieces.first pieces.second both_distinct;
    others = apart_first os qs t.others;
    clear = clear_less t.blocks pieces.first os in_first_of (all_first (λ o. Apart o.at.base t.blocks) os qs t.clear);
  }

  first_moves : {comes goes : ℕ → ℕ} (given : List ℕ) (after : World) → Strange given t.blocks → ClearOf given (os ++ qs) →
      (m : MovesWith comes goes os given pieces.first world after) → Back comes goes (os ++ qs) given t.blocks pieces.first m.territory.blocks world after
  first_moves given after strange c m = record {
    moves = record {
      territory = record {
        blocks = m.territory.blocks ++ pieces.second;
        cells = cells_both os qs m.territory.blocks pieces.second m.territory.cells
            (cells_stay os (given ++ pieces.first) world after m.alone qs pieces.second pieces.others (apart_across os qs t.others)
            (clear_both given pieces.first qs (all_second (λ o. Apart o.at.base given) os qs c)
            (clear_less t.blocks pieces.first qs in_first_of (all_second (λ o. Apart o.at.base t.blocks) os qs t.clear)))
            (clear_less t.blocks pieces.second os in_second_of (all_first (λ o. Apart o.at.base t.blocks) os qs t.clear))
            (λ k a b. either_block k given pieces.first ⊥ b (λ q. strange k q (in_second_of k a))
            (λ q. distinct_apart k pieces.first pieces.second both_distinct q a)));
        distinct = distinct_both m.territory.blocks pieces.second m.territory.distinct (distinct_second pieces.first pieces.second both_distinct)
            (λ k a b. new_apart k b (m.came k a));
        others = t.others;
        clear = cells_clear (os ++ qs) t.blocks t.blocks given (m.territory.blocks ++ pieces.second) t.cells t.clear c came_all;
      };
      came = came_all;
      grows = m.grows;
      loses = λ k. omega (
        arith,
        m.loses k,
        ap (times k) pieces.is,
        times_both k pieces.first pieces.second,
        times_both k m.territory.blocks pieces.second,
      );
      alone = record {
        bases = λ b x h off far. m.alone.bases b x h (all_first (λ o. b ≡ o.at.base → ⊥) os qs off) (λ k e n. far k e (wide_in k n));
        parts = λ l v h other far. m.alone.parts l v h (all_first (λ o. OtherPart o.at l) os qs other) (λ k e n. far k e (wide_in k n));
        rows = λ l n h leave far. m.alone.rows l n h (all_first (λ o. OtherPart o.at l ⊎ IsUnder o.at l) os qs leave)
            (λ k e n. far k e (wide_in k n));
        stays = m.alone.stays;
      };
    };
    into = λ k a. either_block k m.territory.blocks pieces.second (Member k m.territory.blocks ⊎ (Member k t.blocks × (Member k pieces.first → ⊥))) a
        (λ q. inl q) (λ q. inr (in_second_of k q, λ b. distinct_apart k pieces.first pieces.second both_distinct b q));
    without = λ k a b. either_block k m.territory.blocks pieces.second (Member k m.territory.blocks) a (λ q. q)
        (λ q. absurd (distinct_apart k pieces.first pieces.second both_distinct b q));
  }
    where
      wide_in : (k : ℕ) → Member k (given ++ pieces.first) → Member k (given ++ t.blocks)
      wide_in k n = either_block k given pieces.first (Member k (given ++ t.blocks)) n (λ q. in_first k given t.blocks q)
          (λ q. in_second k given t.blocks (in_first_of k q))

      too_far : (k : ℕ) → k < taken_in world → taken_in world ≤ k → ⊥
      too_far k less le = omega (arith, less, le)

      new_apart : (k : ℕ) → Member k pieces.second → Member k pieces.first ⊎ (Member k given ⊎ (taken_in world ≤ k)) → ⊥
      new_apart k b (inl a) = distinct_apart k pieces.first pieces.second both_distinct a b
      new_apart k b (inr (inl a)) = strange k a (in_second_of k b)
      new_apart k b (inr (inr le)) = too_far k (cells_below qs pieces.second pieces.others k b) le

      came_first : (k : ℕ) → Member k pieces.first ⊎ (Member k given ⊎ (taken_in world ≤ k)) → Member k t.blocks ⊎ (Member k given ⊎ (taken_in world ≤ k))
      came_first k (inl a) = inl (in_first_of k a)
      came_first k (inr a) = inr a

      came_all : (k : ℕ) → Member k (m.territory.blocks ++ pieces.second) → Member k t.blocks ⊎ (Member k given ⊎ (taken_in world ≤ k))
      came_all k n = either_block k m.territory.blocks pieces.second (Member k t.blocks ⊎ (Member k given ⊎ (taken_in world ≤ k))) n
          (λ a. came_first k (m.came k a)) (λ b. inl (in_second_of k b))

pub works_first : (os qs : List Owner) {world : World} (t : Territory (os ++ qs) world) → Works (os ++ qs) os t.blocks world
unfolding first_territory
works_first os qs {world} t = record {
  territory = first_territory os qs world t;
  within = in_first_of os qs world t;
  clear = λ given far c. all_first (λ o. Apart o.at.base given) os qs c;
  back = λ given after far c m. first_moves os qs world t given after far c m;
}

-- ---- one of them in front

-- the same blocks, in another order
pub record Rearranged (bs cs : List ℕ) : Type 0 where
  pub into : (k : ℕ) → Member k cs → Member k bs
  pub as_often : (k : ℕ) → times k cs ≡ times k bs
  pub distinct : Distinct bs → Distinct cs

record Front (os : List Owner) (o : Owner) (rest : List Owner) (bs : List ℕ) (world : World) : Type 0 where
  blocks : List ℕ
  cells : Cells world (o ∷ rest) blocks
  order : Rearranged bs blocks

rearranged : (ds bs cs : List ℕ) → Rearranged (ds ++ (bs ++ cs)) (bs ++ (ds ++ cs))
rearranged ds bs cs = record {
  into = λ k m. either_block k bs (ds ++ cs) (Member k (ds ++ (bs ++ cs))) m (λ q. in_second k ds (bs ++ cs) (in_first k bs cs q))
      (λ q. either_block k ds cs (Member k (ds ++ (bs ++ cs))) q (λ z. in_first k ds (bs ++ cs) z) (λ z. in_second k ds (bs ++ cs) (in_second k bs cs z)));
  as_often = λ k. omega (arith, times_middle k ds bs cs refl, times_middle k bs ds cs refl);
  distinct = λ d. distinct_both bs (ds ++ cs) (distinct_first bs cs (distinct_second ds (bs ++ cs) d))
      (distinct_both ds cs (distinct_first ds (bs ++ cs) d) (distinct_second bs cs (distinct_second ds (bs ++ cs) d))
      (λ k m n. distinct_apart k ds (bs ++ cs) d m (in_second k bs cs n)))
      (λ k m n. either_block k ds cs ⊥ n (λ q. distinct_apart k ds (bs ++ cs) d q (in_first k bs cs m))
      (λ q. distinct_apart k bs cs (distinct_second ds (bs ++ cs) d) m q));
}

behind : (ds : List ℕ) {bs cs : List ℕ} → Rearranged bs cs → Rearranged (ds ++ bs) (ds ++ cs)
behind ds {bs} {cs} r = record {
  into = λ k m. either_block k ds cs (Member k (ds ++ bs)) m (λ q. in_first k ds bs q) (λ q. in_second k ds bs (r.into k q));
  as_often = λ k. omega (arith, times_both k ds bs, times_both k ds cs, r.as_often k);
  distinct = λ d. distinct_both ds cs (distinct_first ds bs d) (r.distinct (distinct_second ds bs d))
      (λ k m n. distinct_apart k ds bs d m (r.into k n));
}

arranged_then : {ds bs cs : List ℕ} → Rearranged ds bs → Rearranged bs cs → Rearranged ds cs
arranged_then a b = record {
  into = λ k m. a.into k (b.into k m);
  as_often = λ k. omega (arith, a.as_often k, b.as_often k);
  distinct = λ d. b.distinct (a.distinct d);
}

cells_front : {world : World} {os : List Owner} {o : Owner} (i : Among os o) (bs : List ℕ) → Cells world os bs → Front os o (without i) bs world
cells_front first_owner bs c = record { blocks = bs; cells = c; order = record { into = λ k m. m; as_often = λ k. refl; distinct = λ d. d } }
cells_front {world} {o = o} (later_owner {p = p} {os = os} i) _ (a_cell {bs = bs} {cs = cs} c rest) = by (cells_front i cs rest)
  where
    by : Front os o (without i) cs world → Front (p ∷ os) o (p ∷ without i) (bs ++ cs) world
    by s = at_front s.cells s.order
      where
        at_front : {ds : List ℕ} → Cells world (o ∷ without i) ds → Rearranged cs ds → Front (p ∷ os) o (p ∷ without i) (bs ++ cs) world
        at_front (a_cell {bs = mine} {cs = others} d more) r = record {
          blocks = mine ++ (bs ++ others);
          cells = a_cell d (a_cell c more);
          order = arranged_then (behind bs r) (rearranged bs mine others);
        }

pub record Return (os : List Owner) (bs : List ℕ) (world : World) : Type 0 where
  pub blocks : List ℕ
  pub cells : Cells world os blocks
  pub order : Rearranged bs blocks

pub cells_return : {world : World} {os : List Owner} {o : Owner} (i : Among os o) (bs : List ℕ) → Cells world (o ∷ without i) bs → Return os bs world
cells_return first_owner bs c = record { blocks = bs; cells = c; order = record { into = λ k m. m; as_often = λ k. refl; distinct = λ d. d } }
cells_return (later_owner i) _ (a_cell {bs = mine} c (a_cell {bs = bp} {cs = others} cp more)) =
    let r = cells_return i (mine ++ others) (a_cell c more) in
    record { blocks = bp ++ r.blocks; cells = a_cell cp r.cells; order = arranged_then (rearranged mine bp others) (behind bp r.order) }

module _ {os : List Owner} {o : Owner} (i : Among os o) (world : World) (t : Territory os world) where
  abbrev fronted : Front os o (without i) t.blocks world
  fronted = cells_front i t.blocks t.cells

  front_territory : Territory (o ∷ without i) world
  front_territory = record {
    blocks = fronted.blocks;
    cells = fronted.cells;
    distinct = fronted.order.distinct t.distinct;
    others = apart_without i t.others;
    clear = clear_less t.blocks fronted.blocks (o ∷ without i) fronted.order.into
        (all_at (λ o. Apart o.at.base t.blocks) t.clear i, all_without (λ o. Apart o.at.base t.blocks) i t.clear);
  }

  front_moves : {comes goes : ℕ → ℕ} (given : List ℕ) (after : World) → (m : MovesWith comes goes (o ∷ without i) given fronted.blocks world after) →
      Back comes goes os given t.blocks fronted.blocks m.territory.blocks world after
  front_moves given after m =
      let r = cells_return i m.territory.blocks m.territory.cells in
      let clear = clear_less m.territory.blocks r.blocks (o ∷ without i) r.order.into m.territory.clear in
      record {
        moves = record {
          territory = record {
            blocks = r.blocks;
            cells = r.cells;
            distinct = r.order.distinct m.territory.distinct;
            others = t.others;
            clear = all_with (λ o. Apart o.at.base r.blocks) i clear.0 clear.1;
          };
          came = λ k n. came k (m.came k (r.order.into k n));
          grows = m.grows;
          loses = λ k. omega (arith, m.loses k, fronted.order.as_often k, r.order.as_often k);
          alone = record {
            bases = λ b x h off far. m.alone.bases b x h (all_at (λ o. b ≡ o.at.base → ⊥) off i, all_without (λ o. b ≡ o.at.base → ⊥) i off)
                (λ k e n. far k e (wide_in k n));
            parts = λ l v h other far. m.alone.parts l v h (all_at (λ o. OtherPart o.at l) other i, all_without (λ o. OtherPart o.at l) i other)
                (λ k e n. far k e (wide_in k n));
            rows = λ l n h leave far. m.alone.rows l n h
                (all_at (λ o. OtherPart o.at l ⊎ IsUnder o.at l) leave i, all_without (λ o. OtherPart o.at l ⊎ IsUnder o.at l) i leave)
                (λ k e n. far k e (wide_in k n));
            stays = m.alone.stays;
          };
        };
        without = λ k a b. r.order.into k a;
        into = λ k a. inl (r.order.into k a);
      }
    where
      wide_in : (k : ℕ) → Member k (given ++ fronted.blocks) → Member k (given ++ t.blocks)
      wide_in k n = either_block k given fronted.blocks (Member k (given ++ t.blocks)) n (λ q. in_first k given t.blocks q)
          (λ q. in_second k given t.blocks (fronted.order.into k q))

      came : (k : ℕ) → Member k fronted.blocks ⊎ (Member k given ⊎ (taken_in world ≤ k)) → Member k t.blocks ⊎ (Member k given ⊎ (taken_in world ≤ k))
      came k (inl a) = inl (fronted.order.into k a)
      came k (inr a) = inr a

pub works_front : {os : List Owner} {o : Owner} (i : Among os o) {world : World} (t : Territory os world) → Works os (o ∷ without i) t.blocks world
unfolding front_territory
works_front i {world} t = record {
  territory = front_territory i world t;
  within = λ k m. (fronted i world t).order.into k m;
  clear = λ given far c. (all_at (λ o. Apart o.at.base given) c i, all_without (λ o. Apart o.at.base given) i c);
  back = λ given after far c m. front_moves i world t given after m;
}

-- the blocks are the same
front_same : {os : List Owner} {o : Owner} (i : Among os o) {world : World} (t : Territory os world) (k : ℕ) →
    times k (front_territory i world t).blocks ≡ times k t.blocks
unfolding front_territory
front_same i {world} t k = (fronted i world t).order.as_often k

pub front_often : {os : List Owner} {o : Owner} (i : Among os o) {world : World} (t : Territory os world) (k : ℕ) →
    times k (works_front i t).territory.blocks ≡ times k t.blocks
unfolding works_front
front_often i t k = front_same i t k

-- ---- two of them

abbrev pub among_others : {os : List Owner} {o p : Owner} (i : Among os o) (j : Among os p) → (number i ≡ number j → ⊥) → Among (without i) p
among_others first_owner first_owner two = absurd (two refl)
among_others first_owner (later_owner j) two = j
among_others (later_owner i) first_owner two = first_owner
among_others (later_owner i) (later_owner j) two = later_owner (among_others i j (λ e. two (ap suc e)))

-- different ones stay so
pub others_two : {os : List Owner} {o p q : Owner} (i : Among os o) (j : Among os p) (k : Among os q) (a : number i ≡ number j → ⊥)
    (b : number i ≡ number k → ⊥) → number (among_others i j a) ≡ number (among_others i k b) → number j ≡ number k
others_two first_owner first_owner k a b e = absurd (a refl)
others_two first_owner (later_owner j) first_owner a b e = absurd (b refl)
others_two first_owner (later_owner j) (later_owner k) a b e = ap suc e
others_two (later_owner i) first_owner first_owner a b e = refl
others_two (later_owner i) first_owner (later_owner k) a b e = absurd (zero_or_more e)
  where
    zero_or_more : {n : ℕ} → 0 ≡ suc n → ⊥
    zero_or_more e = omega (arith, e)
others_two (later_owner i) (later_owner j) first_owner a b e = absurd (zero_or_more e)
  where
    zero_or_more : {n : ℕ} → suc n ≡ 0 → ⊥
    zero_or_more e = omega (arith, e)
others_two (later_owner i) (later_owner j) (later_owner k) a b e =
    ap suc (others_two i j k (λ q. a (ap suc q)) (λ q. b (ap suc q)) (omega (arith, e)))

pub same_owner : {os : List Owner} {o p : Owner} (i : Among os o) (j : Among os p) → number i ≡ number j → o ≡ p
same_owner first_owner first_owner e = refl
same_owner first_owner (later_owner j) e = absurd (zero_or_more e)
  where
    zero_or_more : {n : ℕ} → 0 ≡ suc n → ⊥
    zero_or_more e = omega (arith, e)
same_owner (later_owner i) first_owner e = absurd (zero_or_more e)
  where
    zero_or_more : {n : ℕ} → suc n ≡ 0 → ⊥
    zero_or_more e = omega (arith, e)
same_owner (later_owner i) (later_owner j) e = same_owner i j (omega (arith, e))

-- ---- in one list behind another

abbrev pub among_first : (qs : List Owner) {os : List Owner} {o : Owner} → Among os o → Among (os ++ qs) o
among_first qs first_owner = first_owner
among_first qs (later_owner i) = later_owner (among_first qs i)

abbrev pub among_second : (os : List Owner) {qs : List Owner} {o : Owner} → Among qs o → Among (os ++ qs) o
among_second [] i = i
among_second (p ∷ os) i = later_owner (among_second os i)

pub number_first : (qs : List Owner) {os : List Owner} {o : Owner} (i : Among os o) → number (among_first qs i) ≡ number i
number_first qs first_owner = refl
number_first qs (later_owner i) = ap suc (number_first qs i)

pub number_second : (os : List Owner) {qs : List Owner} {o : Owner} (i : Among qs o) → number (among_second os i) ≡ length os + number i
number_second [] i = omega arith
number_second (p ∷ os) i = omega (arith, number_second os i)

pub number_below : {os : List Owner} {o : Owner} (i : Among os o) → number i < length os
number_below first_owner = omega arith
number_below (later_owner i) = omega (arith, number_below i)

pub without_second : (os : List Owner) {qs : List Owner} {o : Owner} (i : Among qs o) → without (among_second os i) ≡ os ++ without i
without_second [] i = refl
without_second (p ∷ os) i = ap (λ (ps : List Owner). p ∷ ps) (without_second os i)

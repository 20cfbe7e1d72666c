-- Code of a call, one part after another; a place is declared, and is over; a value waits, and is taken up.
use Rattle.std.proofs.Common.{◌≡◌, true, refl, sym, subst, ◌∙◌, arith, ℕ, ◌+◌, ◌<◌, ◌≤◌, inl, inr, ◌⊎◌, List, [], ◌∷◌, ◌++◌, length}
use Rattle.nim_types.specs.Forms.{Form}
use Rattle.nim_meaning.specs.Values.{Value, Holds, Base, Standing, Waiting, InBlock, Location, at_base}
use Rattle.nim_meaning.specs.Marks.{Member}
use Rattle.nim_meaning.specs.State.{World}
use Rattle.nim_meaning.specs.Deeds.{Opens, Waits, changed}
use Rattle.holders.specs.Owned.{IsBase, whole, MayStore, place_may, node_may, Apart, IsName, Active, in_rows}
use Rattle.holders.specs.Becoming.{taken_in, times}
use Rattle.holders.specs.Beside.{OtherPart, other_base}
use Rattle.holders.specs.Territory.{Owner, Cells, no_cells, a_cell, OtherThan, ClearOf, Territory, StandsAt, Shape, RowAt, IsUnder, LeaveRow}
use Rattle.holders.specs.Territory.{NoBaseOf, Alone, MovesWith}
use Rattle.holders.specs.Handing.{UnderWay}
use Rattle.holders.specs.Running.{Region, IsOutside, Passes, AreOwn, Runs, RunsWith}
use Rattle.holders.proofs.Owning.{has_stays}
use Rattle.holders.proofs.Copying.{base_below, distinct_both, either_block}
use Rattle.holders.proofs.Working.{all_both, all_so}
use Rattle.holders.proofs.FrameChanges.{place_opened, value_waits}
use Rattle.holders.proofs.Ledger.{times_both}

-- ---- one part after another

pub passes_same : (r : Region) (gs : List Owner) (old : List ℕ) (world : World) → Passes r gs old world world
passes_same r gs old world = record {
  bases = λ b x h below off far. h;
  parts = λ l v h below other far. h;
  rows = λ l n h below leave far. h;
  grows = omega arith;
  hand = refl;
  names = λ l n to h where_it_is. h;
  active = λ l first places nodes less h. h;
  count = refl;
}

-- a base is in none of the blocks that are there then
still_apart : {world : World} {b : Base} {x : Value} (old new : List ℕ) → IsBase world b x → Apart b old →
    ((k : ℕ) → Member k new → Member k old ⊎ (Member k [] ⊎ (taken_in world ≤ k))) → Apart b new
still_apart {world} {b} {x} old new h far came k e m = by (came k m)
  where
    too_far : IsBase world (InBlock k) x → taken_in world ≤ k → ⊥
    too_far h le = omega (arith, base_below h, le)

    by : Member k old ⊎ (Member k [] ⊎ (taken_in world ≤ k)) → ⊥
    by (inl n) = far k e n
    by (inr (inl n)) = elim n [ ]
    by (inr (inr le)) = too_far (subst (λ c. IsBase world c x) e h) le

pub passes_then : {r : Region} {gs : List Owner} {old new : List ℕ} {world middle last : World} → Passes r gs old world middle →
    ((k : ℕ) → Member k new → Member k old ⊎ (Member k [] ⊎ (taken_in world ≤ k))) → Passes r gs new middle last →
    Passes r gs old world last
passes_then {old = old} {new = new} a came b = record {
  bases = λ c x h below off far. b.bases c x (a.bases c x h below off far) below off (still_apart old new h far came);
  parts = λ l v h below other far. b.parts l v (a.parts l v h below other far) below other (still_apart old new h.at.base far came);
  rows = λ l n h below leave far. b.rows l n (a.rows l n h below leave far) below leave (still_apart old new h.base far came);
  grows = omega (arith, a.grows, b.grows);
  hand = b.hand ∙ a.hand;
  names = λ l n to h there. b.names l n to (a.names l n to h there) there;
  active = λ l first places nodes less h. b.active l first places nodes less (a.active l first places nodes less h);
  count = b.count ∙ a.count;
}

pub runs_then : {r : Region} {ms ns gs : List Owner} {old : List ℕ} {world middle last : World} (a : Runs r ms gs [] old world middle) →
    Runs r ns gs [] a.territory.blocks middle last → Runs r ns gs [] old world last
runs_then {old = old} {world = world} {middle = middle} a b = record {
  territory = b.territory;
  own = b.own;
  came = λ k m. by k (b.came k m);
  passes = passes_then a.passes a.came b.passes;
  loses = λ k. omega (arith, a.loses k, b.loses k);
}
  where
    further : (k : ℕ) → taken_in middle ≤ k → taken_in world ≤ k
    further k le = omega (arith, le, a.passes.grows)

    first : (k : ℕ) → Member k old ⊎ (Member k [] ⊎ (taken_in world ≤ k)) → Member k old ⊎ (Member k [] ⊎ (taken_in world ≤ k))
    first k q = q

    by : (k : ℕ) → Member k a.territory.blocks ⊎ (Member k [] ⊎ (taken_in middle ≤ k)) → Member k old ⊎ (Member k [] ⊎ (taken_in world ≤ k))
    by k (inl m) = first k (a.came k m)
    by k (inr (inl m)) = elim m [ ]
    by k (inr (inr le)) = inr (inr (further k le))

-- ---- a deed

-- what isn't of the call is none of its own cells
pub not_own : (r : Region) (b : Base) (ms : List Owner) → IsOutside r b → AreOwn r ms → NoBaseOf b ms
not_own r b ms below own =
    all_so (λ m. IsOutside r m.at.base → ⊥) (λ m. b ≡ m.at.base → ⊥) ms (λ m out e. out (subst (λ c. IsOutside r c) e below)) own

pub other_own : (r : Region) (l : Location) (ms : List Owner) → IsOutside r l.base → AreOwn r ms → OtherThan l ms
other_own r l ms below own =
    all_so (λ m. IsOutside r m.at.base → ⊥) (λ m. OtherPart m.at l) ms (λ m out. other_base (λ e. out (subst (λ c. IsOutside r c) e below))) own

pub leave_own : (r : Region) (l : Location) (ms : List Owner) → IsOutside r l.base → AreOwn r ms → LeaveRow l ms
leave_own r l ms below own =
    all_so (λ m. OtherPart m.at l) (λ m. OtherPart m.at l ⊎ IsUnder m.at l) ms (λ m o. inl o) (other_own r l ms below own)

pub alone_passes : (r : Region) (ms gs : List Owner) {old : List ℕ} {world after : World} → AreOwn r ms → Alone (ms ++ gs) old world after →
    taken_in world ≤ taken_in after → Passes r gs old world after
alone_passes r ms gs own al grows = record {
  bases = λ b x h below off far. al.bases b x h (all_both (λ m. b ≡ m.at.base → ⊥) ms gs (not_own r b ms below own) off) far;
  parts = λ l v h below other far. al.parts l v h (all_both (λ m. OtherPart m.at l) ms gs (other_own r l ms below own) other) far;
  rows = λ l n h below leave far. al.rows l n h (all_both (λ m. OtherPart m.at l ⊎ IsUnder m.at l) ms gs (leave_own r l ms below own) leave) far;
  grows = grows;
  hand = al.stays.hand;
  names = λ l n to h there. al.stays.frames.names l n to h;
  active = λ l first places nodes less h. al.stays.frames.active l first places nodes h;
  count = al.stays.frames.count;
}

abbrev pub moves_run : {comes goes : ℕ → ℕ} (r : Region) (ms gs : List Owner) {given old : List ℕ} {world after : World} → AreOwn r ms →
    MovesWith comes goes (ms ++ gs) given old world after → RunsWith comes goes r ms gs given old world after
moves_run r ms gs own m = record {
  territory = m.territory;
  own = own;
  came = m.came;
  passes = alone_passes r ms gs own m.alone m.grows;
  loses = m.loses;
}

-- ---- a cell comes

-- with blocks that it came with, and those of the others
pub record HasCell (os : List Owner) (given blocks : List ℕ) (world : World) : Type 0 where
  pub territory : Territory os world
  pub from : (k : ℕ) → Member k territory.blocks → Member k given ⊎ Member k blocks
  pub sum : (k : ℕ) → times k territory.blocks ≡ times k given + times k blocks

-- a value that was under way stands at a base of its own then
pub with_cell : {os : List Owner} {world : World} {f : Form} {x : Value} (t : Territory os world) (b : Base) (under : UnderWay f x os t.blocks world) →
    IsBase world b x → MayStore b [] → NoBaseOf b os → ((k : ℕ) → b ≡ InBlock k → ⊥) →
    HasCell (record { form = f; at = at_base b } ∷ os) under.given t.blocks world
with_cell {os} {world} {f} {x} t b under base may off no_block = record {
  from = from;
  sum = λ k. times_both k under.given t.blocks;
  territory = record {
    blocks = under.given ++ t.blocks;
    cells = a_cell {w = x} {v = x} {bs = under.given} (record {
      at = record { base = base; part = in_rows whole; may = may };
      is = refl;
      has = under.has;
      distinct = under.distinct;
      apart = λ k e m. no_block k e;
    }) t.cells;
    distinct = distinct_both under.given t.blocks under.distinct t.distinct (λ k m n. under.strange k m n);
    others = (all_so (λ o. b ≡ o.at.base → ⊥) (λ o. OtherPart o.at (at_base b)) os (λ o d. other_base d) off, t.others);
    clear = (λ k e m. no_block k e, both os under.clear t.clear);
  };
}
  where
    from : (k : ℕ) → Member k (under.given ++ t.blocks) → Member k under.given ⊎ Member k t.blocks
    from k m = either_block k under.given t.blocks (Member k under.given ⊎ Member k t.blocks) m (λ q. inl q) (λ q. inr q)

    both : (os : List Owner) → ClearOf under.given os → ClearOf t.blocks os → ClearOf (under.given ++ t.blocks) os
    both [] a c = tt
    both (o ∷ os) a c = (λ k e m. either_block k under.given t.blocks ⊥ m (λ q. a.0 k e q) (λ q. c.0 k e q), both os a.1 c.1)

pub no_less : (n : ℕ) → n ≤ n
no_less n = omega arith

-- all that stood somewhere still does, but at one base, where none of the cells is
pub record Apace (b : Base) (world after : World) : Type 0 where
  pub bases : (c : Base) (x : Value) → IsBase world c x → (c ≡ b → ⊥) → IsBase after c x
  pub heap : taken_in world ≤ taken_in after
  pub hand : length after.hand ≡ length world.hand

pub stands_apace : {b : Base} {world after : World} {l : Location} {v : Value} → Apace b world after → (l.base ≡ b → ⊥) → StandsAt world l v →
    StandsAt after l v
stands_apace {l = l} a d s = record {
  whole = s.whole;
  at = record { base = a.bases l.base s.whole s.at.base d; part = s.at.part; may = s.at.may };
  is = s.is;
}

pub row_apace : {b : Base} {world after : World} {l : Location} {shape : Shape} → Apace b world after → (l.base ≡ b → ⊥) → RowAt world l shape →
    RowAt after l shape
row_apace {l = l} a d r = record {
  whole = r.whole;
  base = a.bases l.base r.whole r.base d;
  part_there = r.part_there;
  is = r.is;
}

pub cells_apace : {b : Base} {world after : World} → Apace b world after → ((k : ℕ) → InBlock k ≡ b → ⊥) → (os : List Owner) (cs : List ℕ) → NoBaseOf b os →
    Cells world os cs → Cells after os cs
cells_apace a no_block [] _ off no_cells = no_cells
cells_apace {b} {world} {after} a no_block (o ∷ os) _ off (a_cell {w = w} {v = v} {bs = bs} {cs = cs} c rest) =
    a_cell {w = w} {v = v} {bs = bs} {cs = cs} (record {
      at = record { base = a.bases o.at.base w c.at.base (λ e. off.0 (sym e)); part = c.at.part; may = c.at.may };
      is = c.is;
      has = has_stays world after (λ k x m is. a.bases (InBlock k) x is (no_block k)) c.has;
      distinct = c.distinct;
      apart = c.apart;
    }) (cells_apace a no_block os cs off.1 rest)

abbrev pub territory_apace : {b : Base} {os : List Owner} {world after : World} → Apace b world after → ((k : ℕ) → InBlock k ≡ b → ⊥) → NoBaseOf b os →
    Territory os world → Territory os after
territory_apace {os = os} a no_block off t = record {
  blocks = t.blocks;
  cells = cells_apace a no_block os t.blocks off t.cells;
  distinct = t.distinct;
  others = t.others;
  clear = t.clear;
}

abbrev pub under_apace : {b : Base} {world after : World} {f : Form} {x : Value} {os : List Owner} {blocks : List ℕ} → Apace b world after →
    ((k : ℕ) → InBlock k ≡ b → ⊥) → UnderWay f x os blocks world → UnderWay f x os blocks after
under_apace {world = world} {after = after} a no_block u = record {
  given = u.given;
  has = has_stays world after (λ k x m is. a.bases (InBlock k) x is (no_block k)) u.has;
  distinct = u.distinct;
  strange = u.strange;
  clear = u.clear;
}

-- ---- the call's own frame

module _ (r : Region) (gs : List Owner) where
  abbrev level : ℕ
  level = r.level

  -- what a change at a base of the call leaves
  pub passes_apace : {b : Base} {old : List ℕ} {world after : World} → (IsOutside r b → ⊥) → Apace b world after →
      ((l n : ℕ) (to : Location) → IsName world.frames l n to → (l < r.level) ⊎ ((l ≡ r.level) × (r.places n ≡ true → ⊥)) → IsName after.frames l n to) →
      ((l first places : ℕ) (nodes : List ℕ) → l < level → Active world.frames l first places nodes → Active after.frames l first places nodes) →
      length after.frames ≡ length world.frames → Passes r gs old world after
  passes_apace {b} {old} {world} {after} out a names active count = record {
    bases = λ c x h below off far. a.bases c x h (λ e. out (subst (λ d. IsOutside r d) e below));
    parts = λ l v h below other far. stands_apace a (λ e. out (subst (λ d. IsOutside r d) e below)) h;
    rows = λ l n h below leave far. row_apace a (λ e. out (subst (λ d. IsOutside r d) e below)) h;
    grows = a.heap;
    hand = a.hand;
    names = names;
    active = active;
    count = count;
  }

  module _ (ms : List Owner) (world : World) (t : Territory (ms ++ gs) world) (own : AreOwn r ms) where
    turned : (k : ℕ) (given blocks : List ℕ) → Member k given ⊎ Member k blocks → Member k blocks ⊎ (Member k given ⊎ (taken_in world ≤ k))
    turned k given blocks (inl m) = inr (inl m)
    turned k given blocks (inr m) = inl m

    inside_place : (n : ℕ) → r.places n ≡ true → IsOutside r (Standing level n) → ⊥
    inside_place n mine (inl less) = omega (arith, less)
    inside_place n mine (inr w) = w.1 mine

    inside_node : (node : ℕ) → r.nodes node ≡ true → IsOutside r (Waiting level node) → ⊥
    inside_node node mine (inl less) = omega (arith, less)
    inside_node node mine (inr w) = w.1 mine

    -- a place is declared, with a value that was under way
    pub declares : {f : Form} {x : Value} {first places : ℕ} {nodes : List ℕ} (n : ℕ) → Active world.frames level first places nodes → first ≤ n →
        n < first + places → r.places n ≡ true → NoBaseOf (Standing level n) (ms ++ gs) → (u : UnderWay f x (ms ++ gs) t.blocks world) →
        Runs r (record { form = f; at = at_base (Standing level n) } ∷ ms) gs u.given t.blocks world
        (changed (Opens level n (Holds x)) world)
    declares {f} {x} {first} {places} {nodes} n active le less mine off u =
        let filled = place_opened world level first places n nodes (Holds x) active le less in
        let a : Apace (Standing level n) world (changed (Opens level n (Holds x)) world) =
        record { bases = filled.elsewhere; heap = no_less (taken_in world); hand = refl } in
        let has = with_cell (territory_apace a (λ k e. no_place k e) off t) (Standing level n) (under_apace a (λ k e. no_place k e) u)
        (filled.holds x refl) place_may off (λ k e. no_place k (sym e)) in
        record {
          territory = has.territory;
          own = (inside_place n mine, own);
          came = λ k m. turned k u.given t.blocks (has.from k m);
          loses = λ k. omega (arith, has.sum k);
          passes = passes_apace (inside_place n mine) a
              (λ l m to h there. filled.names l m to h (λ e q. another l m e q there))
              (λ l first places nodes less h. filled.active l first places nodes h) filled.count;
        }
      where
        no_place : (k : ℕ) → InBlock k ≡ Standing level n → ⊥
        no_place k e = subst is_block e tt
          where
            is_block : Base → Type 0
            is_block (InBlock k) = Unit {0}
            is_block b = ⊥

        another : (l m : ℕ) → l ≡ level → m ≡ n → (l < level) ⊎ ((l ≡ level) × (r.places m ≡ true → ⊥)) → ⊥
        another l m e q (inl less) = omega (arith, e, less)
        another l m e q (inr w) = w.1 (subst (λ (i : ℕ). r.places i ≡ true) (sym q) mine)

    -- a value that was under way waits
    pub waits : {f : Form} {x : Value} {first places : ℕ} {nodes : List ℕ} (node : ℕ) → r.nodes node ≡ true → Active world.frames level first places nodes →
        NoBaseOf (Waiting level node) (ms ++ gs) → (u : UnderWay f x (ms ++ gs) t.blocks world) →
        Runs r (record { form = f; at = at_base (Waiting level node) } ∷ ms) gs u.given t.blocks world
        (changed (Waits level node (Holds x)) world)
    waits {f} {x} {first} {places} {nodes} node mine active off u =
        let now = value_waits world level first places node nodes (Holds x) active in
        let a : Apace (Waiting level node) world (changed (Waits level node (Holds x)) world) =
        record { bases = now.change.elsewhere; heap = no_less (taken_in world); hand = refl } in
        let has = with_cell (territory_apace a (λ k e. no_node k e) off t) (Waiting level node) (under_apace a (λ k e. no_node k e) u)
        (now.holds x refl) node_may off (λ k e. no_node k (sym e)) in
        record {
          territory = has.territory;
          own = (inside_node node mine, own);
          came = λ k m. turned k u.given t.blocks (has.from k m);
          loses = λ k. omega (arith, has.sum k);
          passes = passes_apace (inside_node node mine) a (λ l m to h there. now.change.names l m to h)
              (λ l first places nodes less h. now.change.active l first places nodes h (λ e. not_same l less e)) now.change.count;
        }
      where
        no_node : (k : ℕ) → InBlock k ≡ Waiting level node → ⊥
        no_node k e = subst is_block e tt
          where
            is_block : Base → Type 0
            is_block (InBlock k) = Unit {0}
            is_block b = ⊥

        not_same : (l : ℕ) → l < level → l ≡ level → ⊥
        not_same l less e = omega (arith, less, e)

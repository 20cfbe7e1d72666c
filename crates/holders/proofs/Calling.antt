-- What waits is taken up, or ends; a place is over; a call begins, and comes back.
use Rattle.std.proofs.Common.{◌≡◌, true, refl, sym, ap, subst, ◌∙◌, arith, ℕ, zero, suc, ◌<◌, ◌≤◌, inl, inr, ◌⊎◌, List, [], ◌∷◌, ◌++◌, length, Option}
use Rattle.std.proofs.Common.{Some, ◌+◌}
use Rattle.std.specs.Prelude.{slice_get, take}
use Rattle.std.proofs.lemmas.Option.{none-some}
use Rattle.nim_types.specs.Forms.{Form}
use Rattle.nim_meaning.specs.Values.{Value, Holds, Base, Standing, Waiting, InBlock, InHand, InException, Made, Location, at_base}
use Rattle.nim_meaning.specs.Marks.{Member, Distinct}
use Rattle.nim_meaning.specs.State.{Frame, World, frame_in, slot_at, slot_of, joined, with_frame, down_to}
use Rattle.nim_meaning.specs.Deeds.{Leaves, changed}
use Rattle.nim_meaning.specs.Lifted.{ends_at, slot_ends}
use Rattle.nim_meaning.specs.Meaning.{place_ends}
use Rattle.nim_meaning.specs.Places.{place_at}
use Rattle.holders.specs.Owned.{IsBase, at_place, at_node, in_hand, in_row, in_text, in_program, whole, At, Apart, IsName, a_name, Active, Stays, Lies}
use Rattle.holders.specs.Sure.{Sure}
use Rattle.holders.specs.Becoming.{taken_in, times, none, LosesNone}
use Rattle.holders.specs.Walks.{Ended}
use Rattle.holders.specs.Beside.{PartWays, OtherPart, other_base, other_way}
use Rattle.holders.specs.Territory.{Owner, Cells, no_cells, a_cell, AllOwners, OtherThan, LieApart, ClearOf, Territory, StandsAt, Shape, RowAt}
use Rattle.holders.specs.Territory.{NoBaseOf, MovesWith}
use Rattle.holders.specs.Handing.{UnderWay}
use Rattle.holders.specs.Running.{IsBelow, Region, IsOutside, Passes}
use Rattle.holders.proofs.Sure.{sure_weaker}
use Rattle.holders.proofs.Growing.{sure_grows}
use Rattle.holders.proofs.Owning.{in_first, in_second, distinct_second, distinct_apart, has_stays}
use Rattle.holders.proofs.Ending.{same_number, ends}
use Rattle.holders.proofs.Moving.{clear_less}
use Rattle.holders.proofs.Working.{all_so}
use Rattle.holders.proofs.Separating.{none_part}
use Rattle.holders.proofs.FrameChanges.{value_leaves, frame_more, name_more, active_more, base_below_level}
use Rattle.holders.proofs.FrameChanges.{name_below_level, active_below_level}
use Rattle.holders.proofs.Running.{no_less, passes_apace, Apace, territory_apace, under_apace}
use Rattle.holders.proofs.Ledger.{times_both}

-- ---- the first cell goes

-- the value at a base of its own, and the other cells
pub record Apart_from (f : Form) (b : Base) (os : List Owner) (blocks : List ℕ) (world : World) : Type 0 where
  pub value : Value
  pub base : IsBase world b value
  pub others : Territory os world
  pub within : (k : ℕ) → Member k others.blocks → Member k blocks
  pub under : UnderWay f value os others.blocks world
  pub were : (k : ℕ) → Member k under.given → Member k blocks
  pub sum : (k : ℕ) → times k blocks ≡ times k under.given + times k others.blocks
  pub off : NoBaseOf b os
  pub clear : ((k : ℕ) → b ≡ InBlock k → Member k under.given → ⊥)

no_way : {path other : List ℕ} → other ≡ [] → PartWays path other → ⊥
no_way e w = none_part e w

other_base_only : {m : Location} {b : Base} → OtherPart m (at_base b) → b ≡ m.base → ⊥
other_base_only (other_base d) e = d e
other_base_only (other_way e w) q = no_way refl w

pub first_apart : {f : Form} {b : Base} {os : List Owner} {world : World} (t : Territory (record { form = f; at = at_base b } ∷ os) world) →
    Apart_from f b os t.blocks world
first_apart {f} {b} {os} {world} t = by t.blocks t.cells t.distinct t.others t.clear
  where
    by : (bs : List ℕ) → Cells world (record { form = f; at = at_base b } ∷ os) bs → Distinct bs → LieApart (record { form = f; at = at_base b } ∷ os) →
        ClearOf bs (record { form = f; at = at_base b } ∷ os) → Apart_from f b os bs world
    by _ (a_cell {w = w} {v = v} {bs = bs} {cs = cs} c rest) d others clear = record {
      value = v;
      base = subst (λ x. IsBase world b x) c.is c.at.base;
      others = record {
        blocks = cs;
        cells = rest;
        distinct = distinct_second bs cs d;
        others = others.1;
        clear = clear_less (bs ++ cs) cs os (λ k m. in_second k bs cs m) clear.1;
      };
      within = λ k m. in_second k bs cs m;
      under = record {
        given = bs;
        has = c.has;
        distinct = c.distinct;
        strange = λ k m n. distinct_apart k bs cs d m n;
        clear = clear_less (bs ++ cs) bs os (λ k m. in_first k bs cs m) clear.1;
      };
      were = λ k m. in_first k bs cs m;
      sum = λ k. times_both k bs cs;
      off = all_so (λ p. OtherPart p.at (at_base b)) (λ p. b ≡ p.at.base → ⊥) os (λ p o e. other_base_only o e) others.0;
      clear = c.apart;
    }

-- ---- what waits is taken up

pub record TakenUp (f : Form) (r : Region) (node : ℕ) (ms gs : List Owner) (old : List ℕ) (world after : World) : Type 0 where
  pub value : Value
  pub base : IsBase world (Waiting r.level node) value
  pub territory : Territory (ms ++ gs) after
  pub within : (k : ℕ) → Member k territory.blocks → Member k old
  pub under : UnderWay f value (ms ++ gs) territory.blocks after
  pub were : (k : ℕ) → Member k under.given → Member k old
  pub loses : LosesNone (λ k. times k old) (λ k. times k territory.blocks + times k under.given) world after
  pub passes : Passes r gs old world after

pub takes_up : {f : Form} {first places : ℕ} {nodes : List ℕ} (r : Region) (node : ℕ) → r.nodes node ≡ true → (ms gs : List Owner) {world : World}
    (t : Territory (record { form = f; at = at_base (Waiting r.level node) } ∷ (ms ++ gs)) world) → Active world.frames r.level first places nodes →
    TakenUp f r node ms gs t.blocks world (changed (Leaves r.level node) world)
takes_up {f} {first} {places} {nodes} r node mine ms gs {world} t active =
    let level = r.level in
    let s = first_apart t in
    let now = value_leaves world level first places node nodes active in
    let a : Apace (Waiting level node) world (changed (Leaves level node) world) =
    record { bases = now.elsewhere; heap = no_less (taken_in world); hand = refl } in
    record {
      value = s.value;
      base = s.base;
      territory = territory_apace a (λ k e. no_node k e) s.off s.others;
      within = s.within;
      under = under_apace a (λ k e. no_node k e) s.under;
      were = s.were;
      loses = λ k. omega (arith, s.sum k);
      passes = passes_apace r gs inside a (λ l m to h there. now.names l m to h)
          (λ l first places nodes less h. now.active l first places nodes h (λ e. not_same l less e)) now.count;
    }
  where
    no_node : (k : ℕ) → InBlock k ≡ Waiting r.level node → ⊥
    no_node k e = subst is_block e tt
      where
        is_block : Base → Type 0
        is_block (InBlock k) = Unit {0}
        is_block b = ⊥

    inside : IsOutside r (Waiting r.level node) → ⊥
    inside (inl less) = omega (arith, less)
    inside (inr w) = w.1 mine

    not_same : (l : ℕ) → l < r.level → l ≡ r.level → ⊥
    not_same l less e = omega (arith, less, e)

-- ---- a value ends where it stands

-- no character stands at a base
at_its_base : {b : Base} {w : Value} {world : World} → Lies world (at_base b) w → At world (at_base b) w
at_its_base at = record { base = at.base; part = whole; may = at.may }

-- the other cells stay
pub record EndsAlone (f : Form) (b : Base) (os : List Owner) (old : List ℕ) (world after : World) : Type 0 where
  pub territory : Territory os after
  pub within : (k : ℕ) → Member k territory.blocks → Member k old
  pub loses : LosesNone (λ k. times k old) (λ k. times k territory.blocks) world after
  pub bases : (c : Base) (x : Value) → IsBase world c x → (c ≡ b → ⊥) → Apart c old → IsBase after c x
  pub stays : Stays world after
  pub grows : taken_in world ≤ taken_in after
  pub left : Value
  pub there : IsBase after b left

pub ends_alone : {f : Form} {b : Base} {os : List Owner} {world : World} (t : Territory (record { form = f; at = at_base b } ∷ os) world) →
    ((k : ℕ) → b ≡ InBlock k → ⊥) → Sure (ends_at f (at_base b)) (λ u after. EndsAlone f b os t.blocks world after) world
ends_alone {f} {b} {os} {world} t no_block = by t.blocks t.cells t.distinct t.others t.clear
  where
    by : (bs : List ℕ) → Cells world (record { form = f; at = at_base b } ∷ os) bs → Distinct bs → LieApart (record { form = f; at = at_base b } ∷ os) →
        ClearOf bs (record { form = f; at = at_base b } ∷ os) → Sure (ends_at f (at_base b)) (λ u after. EndsAlone f b os bs world after) world
    by _ (a_cell {w = w} {v = v} {bs = bs} {cs = cs} c rest) d others clear =
        sure_weaker (ends_at f (at_base b)) (λ u after. Ended f (at_base b) w bs world after × (taken_in world ≤ taken_in after))
        (λ u after. EndsAlone f b os (bs ++ cs) world after) world
        (sure_grows (ends_at f (at_base b)) (λ u after. Ended f (at_base b) w bs world after) world
        (ends f (at_base b) w v bs world (at_its_base c.at) c.is c.has c.distinct c.apart))
        (λ u after e. record {
          territory = record {
            blocks = cs;
            cells = stay after e.0 os cs rest others.0 (clear_less (bs ++ cs) bs os (λ k m. in_first k bs cs m) clear.1)
                (λ k m n. distinct_apart k bs cs d n m);
            distinct = distinct_second bs cs d;
            others = others.1;
            clear = clear_less (bs ++ cs) cs os (λ k m. in_second k bs cs m) clear.1;
          };
          within = λ k m. in_second k bs cs m;
          loses = λ k. omega (arith, e.0.loses k, times_both k bs cs);
          bases = λ x y h off far. e.0.elsewhere x y h off (λ k q m. far k q (in_first k bs cs m));
          stays = e.0.once.stays;
          grows = e.1;
          left = e.0.now;
          there = e.0.is;
        })
      where
        stay : (after : World) → Ended f (at_base b) w bs world after → (os : List Owner) (cs : List ℕ) → Cells world os cs → OtherThan (at_base b) os →
            ClearOf bs os → ((k : ℕ) → Member k cs → Member k bs → ⊥) → Cells after os cs
        stay after e [] _ no_cells other far both = no_cells
        stay after e (o ∷ os) _ (a_cell {w = u} {v = y} {bs = ds} {cs = es} g more) other far both =
            a_cell {w = u} {v = y} {bs = ds} {cs = es} (record {
              at = record {
                base = e.elsewhere o.at.base u g.at.base (λ q. other_base_only other.0 (sym q)) (λ k q m. far.0 k q m);
                part = g.at.part;
                may = g.at.may;
              };
              is = g.is;
              has = has_stays world after (λ k x m is. e.elsewhere (InBlock k) x is (λ q. no_block k (sym q))
                  (λ j q n. both k (in_first k ds es m) (subst (λ i. Member i bs) (sym (same_number k j q)) n))) g.has;
              distinct = g.distinct;
              apart = g.apart;
            }) (stay after e os es more other.1 far.1 (λ k m n. both k (in_second k ds es m) n))

-- code of the call has ended a value of its own
pub ended_passes : {f : Form} {b : Base} {os gs : List Owner} {old : List ℕ} {world after : World} (r : Region) → (IsOutside r b → ⊥) →
    EndsAlone f b os old world after → Passes r gs old world after
ended_passes {b = b} {world = world} {after = after} r out e = record {
  bases = λ c x h below off far. e.bases c x h (λ q. out (subst (λ d. IsOutside r d) q below)) far;
  parts = λ l v h below other far. record {
    whole = h.whole;
    at = record { base = e.bases l.base h.whole h.at.base (λ q. out (subst (λ d. IsOutside r d) q below)) far; part = h.at.part; may = h.at.may };
    is = h.is;
  };
  rows = λ l n h below leave far. record {
    whole = h.whole;
    base = e.bases l.base h.whole h.base (λ q. out (subst (λ d. IsOutside r d) q below)) far;
    part_there = h.part_there;
    is = h.is;
  };
  grows = e.grows;
  hand = e.stays.hand;
  names = λ l n to h there. e.stays.frames.names l n to h;
  active = λ l first places nodes less h. e.stays.frames.active l first places nodes h;
  count = e.stays.frames.count;
}

-- a place is over
pub place_over : {f : Form} {os : List Owner} {world : World} (level n : ℕ)
    (t : Territory (record { form = f; at = at_base (Standing level n) } ∷ os) world) →
    Sure (place_ends f level n) (λ u after. EndsAlone f (Standing level n) os t.blocks world after) world
place_over {f} {os} {world} level n t =
    let s = first_apart t in
    subst (λ slot. Sure (slot_ends f (place_at level n) slot) (λ u after. EndsAlone f (Standing level n) os t.blocks world after) world)
    (sym (slot_there s.base)) (ends_alone t (λ k e. no_place k e))
  where
    slot_there : {v : Value} → IsBase world (Standing level n) v → slot_at world level n ≡ Some (Holds v)
    slot_there (at_place frame e le g) = ap (λ (x : Option Frame). slot_of (frame_in x) n) e ∙ ap joined g

    no_place : (k : ℕ) → Standing level n ≡ InBlock k → ⊥
    no_place k e = subst is_place e tt
      where
        is_place : Base → Type 0
        is_place (Standing l m) = Unit {0}
        is_place b = ⊥

-- ---- a call begins

pub cells_kept : {world after : World} → ((b : Base) (x : Value) → IsBase world b x → IsBase after b x) → (os : List Owner) (cs : List ℕ) → Cells world os cs →
    Cells after os cs
cells_kept kept [] _ no_cells = no_cells
cells_kept {world} {after} kept (o ∷ os) _ (a_cell {w = w} {v = v} {bs = bs} {cs = cs} c rest) =
    a_cell {w = w} {v = v} {bs = bs} {cs = cs} (record {
      at = record { base = kept o.at.base w c.at.base; part = c.at.part; may = c.at.may };
      is = c.is;
      has = has_stays world after (λ k x m is. kept (InBlock k) x is) c.has;
      distinct = c.distinct;
      apart = c.apart;
    }) (cells_kept kept os cs rest)

abbrev pub territory_kept : {os : List Owner} {world after : World} → ((b : Base) (x : Value) → IsBase world b x → IsBase after b x) → Territory os world →
    Territory os after
territory_kept {os} kept t = record {
  blocks = t.blocks;
  cells = cells_kept kept os t.blocks t.cells;
  distinct = t.distinct;
  others = t.others;
  clear = t.clear;
}

-- ---- a call comes back

cells_below_level : {world : World} (level : ℕ) (os : List Owner) (cs : List ℕ) → AllOwners (λ o. IsBelow level o.at.base) os → Cells world os cs →
    Cells (down_to level world) os cs
cells_below_level level [] _ below no_cells = no_cells
cells_below_level {world} level (o ∷ os) _ below (a_cell {w = w} {v = v} {bs = bs} {cs = cs} c rest) =
    a_cell {w = w} {v = v} {bs = bs} {cs = cs} (record {
      at = record { base = base_below_level level below.0 c.at.base; part = c.at.part; may = c.at.may };
      is = c.is;
      has = has_stays world (down_to level world) (λ k x m is. base_below_level level tt is) c.has;
      distinct = c.distinct;
      apart = c.apart;
    }) (cells_below_level level os cs below.1 rest)

get_inside : {A : Type 0} (xs : List A) (i : ℕ) (x : A) → slice_get xs i ≡ Some x → i < length xs
get_inside [] i x e = absurd (none-some x e)
get_inside (y ∷ xs) zero x e = omega arith
get_inside (y ∷ xs) (suc i) x e = omega (arith, get_inside xs i x e)

length_taken : {A : Type 0} (n : ℕ) (xs : List A) → n ≤ length xs → length (take n xs) ≡ n
length_taken zero [] le = refl
length_taken zero (x ∷ xs) le = refl
length_taken (suc n) [] le = absurd (omega (arith, le))
length_taken (suc n) (x ∷ xs) le = ap suc (length_taken n xs (omega (arith, le)))

-- what stands somewhere stands below the next level
pub all_below : {world : World} {b : Base} {x : Value} (level : ℕ) → length world.frames ≡ level → IsBase world b x → IsBelow level b
all_below {world} level e (at_place {level = l} frame q le g) = omega (arith, e, get_inside world.frames l frame q)
all_below {world} level e (at_node {level = l} frame q g) = omega (arith, e, get_inside world.frames l frame q)
all_below level e (in_hand q) = tt
all_below level e (in_row b q f) = tt
all_below level e (in_text b q f) = tt
all_below level e in_program = tt

pub one_longer : {A : Type 0} (xs : List A) (x : A) → length (xs ++ x ∷ []) ≡ suc (length xs)
one_longer [] x = refl
one_longer (y ∷ xs) x = ap suc (one_longer xs x)

-- what the code of a call does, seen from its caller, whose cells have these blocks then
pub record Returned (goes : ℕ → ℕ) (gs : List Owner) (old blocks : List ℕ) (world after : World) : Type 0 where
  pub moves : MovesWith none goes gs [] old world after
  pub same : moves.territory.blocks ≡ blocks

pub returns : {goes : ℕ → ℕ} {gs : List Owner} {old : List ℕ} {world last : World} (r : Region) (frame : Frame) → length world.frames ≡ r.level →
    AllOwners (λ g. IsBelow r.level g.at.base) gs → (t : Territory gs last) →
    ((k : ℕ) → Member k t.blocks → Member k old ⊎ (Member k [] ⊎ (taken_in world ≤ k))) → Passes r gs old (with_frame world frame) last →
    LosesNone (λ k. times k old) (λ k. times k t.blocks + goes k) (with_frame world frame) last → Returned goes gs old t.blocks world (down_to r.level last)
returns {gs = gs} {old = old} {world = world} {last = last} r frame e below t came p loses = record {
  same = refl;
  moves = record {
    territory = record {
      blocks = t.blocks;
      cells = cells_below_level r.level gs t.blocks below t.cells;
      distinct = t.distinct;
      others = t.others;
      clear = t.clear;
    };
    came = came;
    grows = p.grows;
    loses = λ k. omega (arith, loses k);
    alone = record {
      bases = λ b x h off far. base_below_level r.level (all_below r.level e h) (p.bases b x (frame_more frame h) (outside b (all_below r.level e h)) off far);
      parts = λ l v h other far. back_below (all_below r.level e h.at.base) (p.parts l v (record {
        whole = h.whole;
        at = record { base = frame_more frame h.at.base; part = h.at.part; may = h.at.may };
        is = h.is;
      }) (outside l.base (all_below r.level e h.at.base)) other far);
      rows = λ l n h leave far. row_below (all_below r.level e h.base) (p.rows l n (record {
        whole = h.whole;
        base = frame_more frame h.base;
        part_there = h.part_there;
        is = h.is;
      }) (outside l.base (all_below r.level e h.base)) leave far);
      stays = record {
        hand = p.hand;
        frames = record {
          names = λ l n to h. name_back l n to h;
          active = λ l first places nodes h. active_back l first places nodes h;
          count = length_taken r.level last.frames (omega (arith, p.count, one_longer world.frames frame, e)) ∙ sym e;
        };
      };
    };
  };
}
  where
    outside : (b : Base) → IsBelow r.level b → IsOutside r b
    outside (Standing l n) less = inl less
    outside (Waiting l n) less = inl less
    outside (InBlock k) less = tt
    outside (InHand i) less = tt
    outside (InException i) less = tt
    outside (Made v) less = tt

    back_below : {l : Location} {v : Value} → IsBelow r.level l.base → StandsAt last l v → StandsAt (down_to r.level last) l v
    back_below under s = record {
      whole = s.whole;
      at = record { base = base_below_level r.level under s.at.base; part = s.at.part; may = s.at.may };
      is = s.is;
    }

    row_below : {l : Location} {shape : Shape} → IsBelow r.level l.base → RowAt last l shape → RowAt (down_to r.level last) l shape
    row_below under h = record {
      whole = h.whole;
      base = base_below_level r.level under h.base;
      part_there = h.part_there;
      is = h.is;
    }

    name_back : (l n : ℕ) (to : Location) → IsName world.frames l n to → IsName (down_to r.level last).frames l n to
    name_back l n to (a_name f q le g) =
        let less : l < r.level = omega (arith, e, get_inside world.frames l f q) in
        name_below_level last r.level less (p.names l n to (name_more world frame (a_name f q le g)) (inl less))

    active_back : (l first places : ℕ) (nodes : List ℕ) → Active world.frames l first places nodes → Active (down_to r.level last).frames l first places nodes
    active_back l first places nodes h =
        let less : l < r.level = omega (arith, e, get_inside world.frames l h.frame h.there) in
        active_below_level last r.level less (p.active l first places nodes less (active_more world frame h))

-- The demand is what the history says: of each size as many blocks as were live at one time.
use Rattle.std.proofs.Common.{◌≡◌, ℕ, zero, suc, ◌+◌, ◌-◌, ◌*◌, ◌<◌, ◌≤◌, List, [], ◌∷◌, length}
use Rattle.std.proofs.Common.{refl, sym, ap, ap₂, subst, arith}
use Rattle.std.specs.Prelude.{if◌then◌else◌}
use Rattle.std.proofs.lemmas.Bool.{eq-eqb, ne_eqb}
use Rattle.nim_types.specs.declared.blocks.TheConstants.{LEAST_BLOCK}
use Rattle.nim_meaning.specs.Heap.{Class, Heap, demand, at_class, one_more, one_less, taken, without, sizes_from, size_count}
use Rattle.nim_meaning.specs.Heap.{heap_of}
use Rattle.nim_meaning.specs.State.{OfBlock, Identity, Took, Gave, Born, Ended, Happening}
use Rattle.nim_meaning.specs.Deeds.{size_of}
use Rattle.nim_meaning.specs.Kept.{one_if_same, takes_of, gives_of, most_of, asked_for}
use Rattle.nim_meaning.proofs.HeapKept.{HeapInvariant}
use Rattle.nim_meaning.proofs.Balanced.{Balanced, balanced, balanced_first, live_at, size_at, class_below, class_live}

-- ---- sizes that differ

abbrev sizes_of : List Class → List ℕ
sizes_of [] = []
sizes_of (c ∷ classes) = c.size ∷ sizes_of classes

abbrev Other : ℕ → List ℕ → Type 0
Other size [] = Unit {0}
Other size (n ∷ ns) = ((one_if_same n size ≡ 0) × (one_if_same size n ≡ 0)) × Other size ns

abbrev Apart : List ℕ → Type 0
Apart [] = Unit {0}
Apart (n ∷ ns) = Other n ns × Apart ns

same_sizes : (f : Class → Class) → ((c : Class) → (f c).size ≡ c.size) → (j : ℕ) (classes : List Class) → sizes_of (at_class f j classes) ≡ sizes_of classes
same_sizes f h j [] = refl
same_sizes f h zero (c ∷ classes) = ap (λ n. n ∷ sizes_of classes) (h c)
same_sizes f h (suc j) (c ∷ classes) = ap (λ ns. c.size ∷ ns) (same_sizes f h j classes)

other_at : (size j : ℕ) (classes : List Class) → Other size (sizes_of classes) → j < length classes → one_if_same (size_at j classes) size ≡ 0
other_at size j [] h lt = absurd (omega (arith, lt))
other_at size zero (c ∷ classes) h lt = h.0.0
other_at size (suc j) (c ∷ classes) h lt = other_at size j classes h.1 (omega (arith, lt))

itself : (n : ℕ) → one_if_same n n ≡ 1
itself n = ap (λ b. if b then 1 else 0) (eq-eqb n n refl)

-- ---- each size by its history

abbrev Says : Class → List Happening → Type 0
Says c history = (takes_of c.size history ≡ c.live + gives_of c.size history) × ((most_of c.size history ≡ c.peak) × (c.live ≤ c.peak))

abbrev All_say : List Class → List Happening → Type 0
All_say [] history = Unit {0}
All_say (c ∷ classes) history = Says c history × All_say classes history

-- a block of another size is taken, or given back
taken_other : (size : ℕ) (id : Identity) (c : Class) (history : List Happening) → one_if_same size c.size ≡ 0 → Says c history →
    Says c (Born id ∷ Took size ∷ history)
taken_other size id c history e h = (omega (arith, e, h.0), (omega (arith, e, h.0, h.1.0, h.1.1), h.1.1))

given_other : (size : ℕ) (id : Identity) (c : Class) (history : List Happening) → one_if_same size c.size ≡ 0 → Says c history →
    Says c (Ended id ∷ Gave size ∷ history)
given_other size id c history e h = (omega (arith, e, h.0), (omega (arith, e, h.0, h.1.0, h.1.1), h.1.1))

all_taken : (size : ℕ) (id : Identity) (classes : List Class) (history : List Happening) → Other size (sizes_of classes) → All_say classes history →
    All_say classes (Born id ∷ Took size ∷ history)
all_taken size id [] history a h = tt
all_taken size id (c ∷ classes) history a h = (taken_other size id c history a.0.1 h.0, all_taken size id classes history a.1 h.1)

all_given : (size : ℕ) (id : Identity) (classes : List Class) (history : List Happening) → Other size (sizes_of classes) → All_say classes history →
    All_say classes (Ended id ∷ Gave size ∷ history)
all_given size id [] history a h = tt
all_given size id (c ∷ classes) history a h = (given_other size id c history a.0.1 h.0, all_given size id classes history a.1 h.1)

taken_say : (j : ℕ) (id : Identity) (classes : List Class) (history : List Happening) → j < length classes → Apart (sizes_of classes) →
    All_say classes history →
    All_say (at_class one_more j classes) (Born id ∷ Took (size_at j classes) ∷ history)
taken_say j id [] history lt a h = absurd (omega (arith, lt))
taken_say zero id (c ∷ classes) history lt a h = (
  (omega (arith, itself c.size, h.0.0), (omega (arith, itself c.size, h.0.0, h.0.1.0, h.0.1.1), omega (arith, h.0.1.1))),
  all_taken c.size id classes history a.0 h.1,
)
taken_say (suc j) id (c ∷ classes) history lt a h = (
  taken_other (size_at j classes) id c history (other_at c.size j classes a.0 (omega (arith, lt))) h.0,
  taken_say j id classes history (omega (arith, lt)) a.1 h.1,
)

given_say : (j : ℕ) (id : Identity) (classes : List Class) (history : List Happening) → j < length classes → 0 < live_at j classes →
    Apart (sizes_of classes) → All_say classes history → All_say (at_class one_less j classes) (Ended id ∷ Gave (size_at j classes) ∷ history)
given_say j id [] history lt live a h = absurd (omega (arith, lt))
given_say zero id (c ∷ classes) history lt live a h = (
  (omega (arith, itself c.size, live, h.0.0), (omega (arith, itself c.size, live, h.0.0, h.0.1.0, h.0.1.1), omega (arith, h.0.1.1))),
  all_given c.size id classes history a.0 h.1,
)
given_say (suc j) id (c ∷ classes) history lt live a h = (
  given_other (size_at j classes) id c history (other_at c.size j classes a.0 (omega (arith, lt))) h.0,
  given_say j id classes history (omega (arith, lt)) live a.1 h.1,
)

live_below : (j : ℕ) (classes : List Class) → 0 < live_at j classes → j < length classes
live_below j [] h = absurd (omega (arith, h))
live_below zero (c ∷ classes) h = omega arith
live_below (suc j) (c ∷ classes) h = omega (arith, live_below j classes h)

-- ---- the invariant

pub record Asked (heap : Heap) (history : List Happening) : Type 0 where
  pub balanced : Balanced heap history
  pub apart : Apart (sizes_of heap.classes)
  pub say : All_say heap.classes history

pub asked : HeapInvariant Asked
asked = record {
  takes = λ class contents world room h. record {
    balanced = balanced.takes class contents world room h.balanced;
    apart = subst Apart (sym (same_sizes one_more (λ c. refl) class world.heap.classes)) h.apart;
    say = taken_say class (OfBlock (length world.heap.blocks)) world.heap.classes world.history (class_below class world.heap room) h.apart h.say;
  };
  gives = λ k block world e h.
      let live = class_live k block world.heap world.history e h.balanced in
      record {
        balanced = balanced.gives k block world e h.balanced;
        apart = subst (λ b. Apart (sizes_of (without world.heap k b).classes)) (sym e)
            (subst Apart (sym (same_sizes one_less (λ c. refl) block.class world.heap.classes)) h.apart);
        say = subst (λ b. All_say (without world.heap k b).classes (Ended (OfBlock k) ∷ Gave (size_of world block.class) ∷ world.history)) (sym e)
            (given_say block.class (OfBlock k) world.heap.classes world.history (live_below block.class world.heap.classes live) live h.apart h.say);
      };
  fills = λ k contents world h. record { balanced = balanced.fills k contents world h.balanced; apart = h.apart; say = h.say };
}

-- ---- at first, and at the end

other_from : (n size first : ℕ) → size < first → Other size (sizes_of (sizes_from n first))
other_from zero size first lt = tt
other_from (suc n) size first lt = (
  (
    ap (λ b. if b then 1 else 0) (ne_eqb first size (λ e. absurd (omega (arith, e, lt)))),
    ap (λ b. if b then 1 else 0) (ne_eqb size first (λ e. absurd (omega (arith, e, lt)))),
  ),
  other_from n size (2 * first) (omega (arith, lt)),
)

apart_from : (n first : ℕ) → 0 < first → Apart (sizes_of (sizes_from n first))
apart_from zero first lt = tt
apart_from (suc n) first lt = (other_from n first (2 * first) (omega (arith, lt)), apart_from n (2 * first) (omega (arith, lt)))

say_nothing : (n first : ℕ) → All_say (sizes_from n first) []
say_nothing zero first = tt
say_nothing (suc n) first = ((refl, (refl, omega arith)), say_nothing n (2 * first))

pub asked_first : (room : ℕ) → Asked (heap_of room) []
asked_first room = record {
  balanced = balanced_first room;
  apart = apart_from size_count LEAST_BLOCK (omega arith);
  say = say_nothing size_count LEAST_BLOCK;
}

pub demand_is : (classes : List Class) (history : List Happening) → All_say classes history → demand classes ≡ asked_for classes history
demand_is [] history h = refl
demand_is (c ∷ classes) history h = ap₂ (λ m n. c.size * m + n) (sym h.0.1.0) (demand_is classes history h.1)

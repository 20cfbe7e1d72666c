-- What taking, giving back and filling blocks keep of the heap and of its history, every program keeps.
use Rattle.std.proofs.Common.{◌≡◌, ℕ, zero, suc, ◌+◌, ◌*◌, ◌≤◌, Bool, true, false, List, [], ◌∷◌, length, Option, Some, None, refl, sym, ap, subst}
use Rattle.std.specs.Prelude.{nat_le, nat_lt, if◌then◌else◌}
use Rattle.std.proofs.lemmas.Bool.{leb-true, both_ways}
use Rattle.nim_meaning.specs.Values.{Value, Base, InBlock}
use Rattle.nim_meaning.specs.Heap.{Contents, Block, Class, Heap, demand, at_class, one_more, one_less, taken, has_room, given, without, block_at, with_contents}
use Rattle.nim_meaning.specs.State.{OfBlock, Took, Gave, Born, Ended, Happening, World, with_value_in, new_contents, stored}
use Rattle.nim_meaning.specs.Deeds.{Change, Stores, Opens, Waits, Leaves, Pushes, Pops, Reads, Refills, Frees, size_of, freed, changed}
use Rattle.nim_meaning.proofs.KeepParts.{Invariant}

-- what is said of a heap and its history, and kept
pub record HeapInvariant (H : Heap → List Happening → Type 0) : Type 0 where
  pub takes : (class : ℕ) (contents : Contents) (world : World) → has_room world.heap class ≡ true → H world.heap world.history →
      H (taken world.heap class contents) (Born (OfBlock (length world.heap.blocks)) ∷ Took (size_of world class) ∷ world.history)
  pub gives : (k : ℕ) (block : Block) (world : World) → block_at world.heap k ≡ Some block → H world.heap world.history →
      H (given world.heap k) (Ended (OfBlock k) ∷ Gave (size_of world block.class) ∷ world.history)
  pub fills : (k : ℕ) (contents : Contents) (world : World) → H world.heap world.history → H (with_contents world.heap k contents) world.history

module _ (H : Heap → List Happening → Type 0) (inv : HeapInvariant H) where
  abbrev pub InHeap : World → Type 0
  InHeap world = H world.heap world.history

  refilled_kept : (world : World) (k : ℕ) (block : Option Block) (v : Value) → InHeap world → H (with_value_in world.heap k block v) world.history
  refilled_kept world k None v h = h
  refilled_kept world k (Some block) v h = inv.fills k (new_contents block.contents v) world h

  stored_kept : (world : World) (base : Base) (v : Value) → InHeap world → InHeap (stored world base v)
  stored_kept world (InBlock k) v h = refilled_kept world k (block_at world.heap k) v h
  stored_kept world _ v h = h

  freed_kept : (world : World) (k : ℕ) (block : Option Block) → block_at world.heap k ≡ block → InHeap world → InHeap (freed world k block)
  freed_kept world k None e h = h
  freed_kept world k (Some block) e h = inv.gives k block world e h

  changed_kept : (c : Change) (world : World) → InHeap world → InHeap (changed c world)
  changed_kept (Stores location v) world h = stored_kept world location.base _ h
  changed_kept (Opens level place slot) world h = h
  changed_kept (Waits level node slot) world h = h
  changed_kept (Leaves level node) world h = h
  changed_kept (Pushes v) world h = h
  changed_kept Pops world h = h
  changed_kept (Reads n) world h = h
  changed_kept (Refills k contents) world h = inv.fills k contents world h
  changed_kept (Frees k) world h = freed_kept world k (block_at world.heap k) refl h

  pub heap_kept : Invariant InHeap (λ level. InHeap)
  heap_kept = record {
    within = λ level world h. h;
    changes = λ level. changed_kept;
    takes = λ level. inv.takes;
    enters = λ level frame world h. h;
    leaves = λ level world h. h;
  }

-- ---- the demand is within the room

abbrev pub Within : (room : ℕ) → Heap → List Happening → Type 0
Within room heap history = (heap.room ≡ room) × (demand heap.classes ≤ room)

in_room : (class : ℕ) (heap : Heap) (b : Bool) → (if b then nat_le (demand (at_class one_more class heap.classes)) heap.room else false) ≡ true →
    demand (at_class one_more class heap.classes) ≤ heap.room
in_room class heap true e = leb-true (demand (at_class one_more class heap.classes)) heap.room e
in_room class heap false e = absurd (both_ways false refl e)

less_demand : (i : ℕ) (classes : List Class) → demand (at_class one_less i classes) ≡ demand classes
less_demand i [] = refl
less_demand zero (c ∷ classes) = refl
less_demand (suc i) (c ∷ classes) = ap (λ n. c.size * c.peak + n) (less_demand i classes)

within_without : (room : ℕ) (heap : Heap) (k : ℕ) (block : Option Block) (h g : List Happening) → Within room heap h → Within room (without heap k block) g
within_without room heap k None h g w = w
within_without room heap k (Some block) h g w = (w.0, subst (λ n. n ≤ room) (sym (less_demand block.class heap.classes)) w.1)

pub within : (room : ℕ) → HeapInvariant (Within room)
within room = record {
  takes = λ class contents world e w.
      (w.0, subst (λ n. demand (at_class one_more class world.heap.classes) ≤ n) w.0 (in_room class world.heap (nat_lt class (length world.heap.classes)) e));
  gives = λ k block world e w.
      within_without room world.heap k (block_at world.heap k) world.history (Ended (OfBlock k) ∷ Gave (size_of world block.class) ∷ world.history) w;
  fills = λ k contents world w. w;
}

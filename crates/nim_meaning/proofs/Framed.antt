-- Every part of a program leaves as many frames as there were.
use Rattle.std.proofs.Common.{ℕ, suc, [], ◌∷◌, arith, Option, Some, None, ◌∙◌, length-append}
use Rattle.std.proofs.lemmas.List.{length-set, length-take-le}
use Rattle.nim_meaning.specs.Values.{Value, Base, Standing, Waiting}
use Rattle.nim_meaning.specs.Heap.{Block, block_at}
use Rattle.nim_meaning.specs.State.{World, stored}
use Rattle.nim_meaning.specs.Deeds.{Change, Stores, Opens, Waits, Leaves, Pushes, Pops, Reads, Refills, Frees, freed, changed}
use Rattle.nim_meaning.specs.Kept.{Framed}
use Rattle.nim_meaning.proofs.KeepParts.{Invariant}

framed_stored : (at : ℕ) (world : World) (base : Base) (v : Value) → Framed at world → Framed at (stored world base v)
framed_stored at world (Standing level number) v h = length-set world.frames level _ ∙ h
framed_stored at world (Waiting level node) v h = length-set world.frames level _ ∙ h
framed_stored at world _ v h = h

framed_freed : (at : ℕ) (world : World) (k : ℕ) (block : Option Block) → Framed at world → Framed at (freed world k block)
framed_freed at world k None h = h
framed_freed at world k (Some block) h = h

framed_changed : (at : ℕ) (c : Change) (world : World) → Framed at world → Framed at (changed c world)
framed_changed at (Stores location v) world h = framed_stored at world location.base _ h
framed_changed at (Opens level place slot) world h = length-set world.frames level _ ∙ h
framed_changed at (Waits level node slot) world h = length-set world.frames level _ ∙ h
framed_changed at (Leaves level node) world h = length-set world.frames level _ ∙ h
framed_changed at (Pushes v) world h = h
framed_changed at Pops world h = h
framed_changed at (Reads n) world h = h
framed_changed at (Refills k contents) world h = h
framed_changed at (Frees k) world h = framed_freed at world k (block_at world.heap k) h

pub framed : Invariant (λ world. Unit {0}) Framed
framed = record {
  within = λ level world i. tt;
  changes = framed_changed;
  takes = λ level class contents world room i. i;
  enters = λ level frame world i. omega (arith, i, length-append world.frames (frame ∷ []));
  leaves = λ level world i. length-take-le (suc level) world.frames (omega (arith, i));
}

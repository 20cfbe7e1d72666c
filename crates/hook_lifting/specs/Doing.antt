-- What lifted hooks do, and how long it takes them.
use Rattle.std.specs.Prelude.{◌≡◌, ℕ, ◌+◌, ◌-◌, ◌≤◌, nat_le, true, List, Option, Some}
use Rattle.nim_types.specs.declared.types.TypeDef.{TypeDef}
use Rattle.nim_meaning.specs.Values.{Location, length_of}
use Rattle.nim_meaning.specs.State.{World, load}
use Rattle.nim_meaning.specs.Deeds.{Done, Answers, Finishes, Fails, perform, sees}
use Rattle.nim_meaning.specs.OwnedRows.{cut}
use Rattle.nim_types.specs.Forms.{hooked}
use Rattle.flat_code.specs.Scene.{Known}
use Rattle.flat_code.specs.Lines.{form_in}
use Rattle.hook_lifting.specs.declared.lifted.Hook.{Hook}
use Rattle.hook_lifting.specs.declared.lifted.LiftedLine.{LiftedLine}
use Rattle.hook_lifting.specs.Lifting.{hook_deed, comes_to, beginning, begun_with, place_and_count}
use Rattle.hook_lifting.specs.Weights.{price, least_pace, extra_of, Weighs, is_built}

-- The same is shown, and it comes to the same world, or to the same end for want of heap. Of what is at a fault nothing is said.
abbrev pub Alike : Done (Unit {0}) → Option (Done (Unit {0})) → Type 0
Alike (Answers es n x world) (Some (Answers fs m y other)) = (fs ≡ es) × (other ≡ world)
Alike (Finishes es n status world) (Some (Finishes fs m other left)) = (fs ≡ es) × (other ≡ status)
Alike (Fails es n world) came = Unit {0}
Alike d came = ⊥

-- In each world in which its walk isn't at a fault a hook with lines does what the meaning does with the values, its walk. Where the hooks that it calls
-- weigh a pace for each of their works it weighs what is extra more for each of its walk, and 8.
abbrev pub Does_hook : Known → Hook → (ty : ℕ) → TypeDef → List LiftedLine → Type 0
Does_hook known hook ty d lines =
    (pace : ℕ) → least_pace ≤ pace → (level : ℕ) (to from : Location) (world : World)
    → (count : ℕ) × Alike (perform (hook_deed known hook ty to from) world) (comes_to known count (beginning lines level to from world))
    × (is_built (form_in known ty) ≡ true
    → Weighs (pace + extra_of d) 8 (perform (hook_deed known hook ty to from) world) (price known pace count (beginning lines level to from world)))

-- In each world in which the meaning isn't at a fault these lines do what it does where a sequence of such elements keeps n of them, if it has so many.
-- If the elements have hooks they weigh likewise.
abbrev pub Does_cut : Known → (of : ℕ) → List LiftedLine → Type 0
Does_cut known of lines =
    (pace : ℕ) → least_pace ≤ pace → (level : ℕ) (at : Location) (n : ℕ) (world : World) → nat_le n (length_of (load world at)) ≡ true
    → (count : ℕ) × Alike (perform (sees at (λ world v. cut (form_in known of) n at v)) world)
    (comes_to known count (begun_with (place_and_count at n) lines level world))
    × (is_built (form_in known of) ≡ true → hooked (form_in known of) ≡ true
    → Weighs (pace + 2) 13 (perform (sees at (λ world v. cut (form_in known of) n at v)) world)
    (price known pace count (begun_with (place_and_count at n) lines level world)))

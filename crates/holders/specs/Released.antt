-- What is left of blocks where a run ends normally: none.
use Rattle.std.specs.Prelude.{◌≡◌, ℕ, List, None}
use Rattle.nim_plan.specs.declared.plan.Plan.{Plan}
use Rattle.nim_program.specs.Program.{Program}
use Rattle.nim_meaning.specs.Heap.{block_at}
use Rattle.nim_meaning.specs.State.{World}
use Rattle.nim_meaning.specs.Kept.{IsKept, born_of, ended_of}
use Rattle.nim_meaning.specs.Meaning.{goes_through, at_first}

-- no block is live, and each that was taken was given back, as often as it was taken: once
abbrev pub IsReleased : World → Type 0
IsReleased world = (k : ℕ) → (block_at world.heap k ≡ None) × (ended_of k world.history ≡ born_of k world.history)

-- so it is where the start code comes to its end, within however many units
abbrev pub LeavesNoBlock : Program → Plan → (heap : ℕ) → (input : List ℕ) → Type 0
LeavesNoBlock program plan heap input = (units : ℕ) → IsKept (λ flow. IsReleased) (goes_through program plan (at_first program heap input units))

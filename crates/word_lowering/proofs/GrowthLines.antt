-- How many lines a growth takes, by the work that the meaning has for it; and that it has room exactly where the meaning has.
use Rattle.std.proofs.Common.{◌≡◌, ℕ, zero, suc, ◌+◌, ◌*◌, ◌≤◌, List, length, Option, Some, None, Bool, true, false, refl, arith}
use Rattle.std.specs.Prelude.{if◌then◌else◌}
use Rattle.std.proofs.lemmas.Bool.{lt-leb, leb-false}
use Rattle.nim_meaning.specs.State.{World}
use Rattle.nim_meaning.specs.Lifted.{has_place}
use Rattle.flat_code.specs.Shapes.{block}
use Rattle.word_code.specs.Memory.{Memory}
use Rattle.heap_memory.specs.declared.numbers.TheConstants.{KEPT_LINES, GROW_LINES, FURTHER_LINES, MOVE_BYTE}
use Rattle.heap_memory.specs.HeapState.{Stands}
use Rattle.heap_memory.specs.GrowRoutine.{Owned, Growing, holds_it, grow_work, IsPresent}
use Rattle.heap_memory.specs.HeapRoutines.{class_of}
use Rattle.heap_memory.proofs.ForCallers.{class_few}
use Rattle.word_lowering.proofs.Blocks.{Blocks, HasHeap}
use Rattle.word_lowering.proofs.HeapWanted.{least_of}

-- ---- lines

pub grow_few : (stands : Stands) (u : Growing) → IsPresent stands u.kept u.present → grow_work u ≤ 60 + 112 * least_of (holds_it u.present u.wanted) u.wanted
grow_few stands u is = by u.present is (holds_it u.present u.wanted) refl
  where
    by : (present : Option Owned) → IsPresent stands u.kept present → (b : Bool) → holds_it present u.wanted ≡ b
        → (if b then KEPT_LINES else GROW_LINES + (FURTHER_LINES * class_of u.wanted + MOVE_BYTE * u.kept)) ≤ 60 + 112 * least_of b u.wanted
    by present is true e = omega arith
    by None is false e = let c = class_few u.wanted in let l = leb-false u.wanted 0 e in omega (arith, c, l, is)
    by (Some x) is false e =
        let c = class_few u.wanted in
        let l = leb-false u.wanted (length x.block.payload) e in
        let k = is.3 in
        omega (arith, c, l, k)

-- ---- room

module _ (StandsFixed : (place : ℕ) → List ℕ → Type 0) (d : Blocks) (w : World) (m : Memory) (has : HasHeap StandsFixed d w.heap m) (kept bytes : ℕ) where
  pub holds_first : holds_it None bytes ≡ has_place w None bytes
  holds_first = by bytes
    where
      by : (n : ℕ) → holds_it None n ≡ has_place w None n
      by zero = refl
      by (suc n) = lt-leb (suc n) 0 (omega arith)

use Rattle.std.proofs.Common.{◌≡◌, ◌<◌, ℕ, Some, None}
use Rattle.std.specs.Prelude.{true, slice_get}
use Rattle.nim_types.specs.declared.types.TypeDef.{TypeDef}
use Rattle.nim_types.specs.Kept.{at_number, is_due}
use Rattle.nim_types.proofs.storage.is_waiting.Given as goal

abbrev pub invariant-loop-i : goal.invariant-loop-i
invariant-loop-i l = (i : ℕ) (d : TypeDef) → i < l.i → slice_get l.defs i ≡ Some d → at_number l.known i ≡ None → is_due d ≡ true

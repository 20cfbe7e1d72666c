use Rattle.std.proofs.Common.{◌≡◌, ◌<◌, ℕ, false}
use Rattle.nim_types.specs.Types.{int, same}
use Rattle.nim_types.specs.Table.{type_at, types_in}
use Rattle.flattening.proofs.known.int_number.Given as goal

abbrev pub invariant-loop-id : goal.invariant-loop-id
invariant-loop-id l = (j : ℕ) → j < l.id → same (type_at (types_in l.types) j) int ≡ false

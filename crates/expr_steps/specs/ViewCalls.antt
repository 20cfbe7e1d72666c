-- What calls of any name look up. It serves the proofs of the code alone.
use Rattle.std.specs.Prelude.{◌≡◌, ℕ, false, List, Option, Some, None}
use Rattle.nim_types.specs.Types.{Ty}
use Rattle.nim_types.specs.Table.{type_at}
use Rattle.expr_rules.specs.Demands.{is_a_type}
use Rattle.expr_rules.specs.Env.{Known, a_type}

-- the type that a name is known as
abbrev pub IsKnownType : List Ty → Known → Option ℕ → Type 0
IsKnownType ts known (Some id) = known ≡ a_type (type_at ts id)
IsKnownType ts known None = is_a_type known ≡ false

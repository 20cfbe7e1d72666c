-- What is known of types by the entries of their table, None beyond it. It serves proofs, here and in the crates above.
use Rattle.std.specs.Prelude.{ℕ, suc, Bool, true, false, List, [], ◌∷◌, length, nat_eq, Option, Some, None}
use Rattle.nim_types.specs.Types.{Ty, int, Fact}
use Rattle.nim_types.specs.declared.types.TypeDef.{TypeDef}
use Rattle.nim_types.specs.declared.types.TypeDef.TheVariants as D
use Rattle.nim_types.specs.Table.{meant, said_of}

abbrev pub meant_at : List Ty → Option TypeDef → Ty
meant_at ts None = int
meant_at ts (Some d) = meant ts d

abbrev pub said_at : List Ty → Option TypeDef → Option Fact
said_at ts None = None
said_at ts (Some d) = said_of ts d

-- whether anything is said of it
abbrev pub says : TypeDef → Bool
says (D.Enum name at all) = true
says (D.Object name at is all own_hooks parts) = nat_eq (length all) (length parts)
says (D.Distinct name at i) = true
says (D.Exception name at parent) = true
says _ = false

abbrev pub one_if : Bool → ℕ → ℕ
one_if false n = n
one_if true n = suc n

abbrev pub says_count : List TypeDef → ℕ
says_count [] = 0
says_count (d ∷ ds) = one_if (says d) (says_count ds)

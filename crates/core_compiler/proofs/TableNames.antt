-- Code has no names but those that count.
use Rattle.std.proofs.Common.{◌≤◌, List, [], ◌∷◌, arith, subst}
use Rattle.nim_types.specs.Table.{facts_in}
use Rattle.nim_types.specs.declared.types.TypeDef.{TypeDef}
use Rattle.nim_types.specs.declared.types.TypeDef.TheVariants as D
use Rattle.flat_code.specs.Sizes.{members_bytes, names_bytes}
use Rattle.program_limits.specs.Data.{names_size, entry_names, table_names}
use Rattle.program_limits.proofs.ForCallers.{names_are}

of_entry : (def : TypeDef) → members_bytes def ≤ entry_names def
of_entry (D.Enum name at all) = omega arith
of_entry D.Int = omega arith
of_entry D.Bool = omega arith
of_entry D.Char = omega arith
of_entry D.Text = omega arith
of_entry (D.Seq i) = omega arith
of_entry (D.Param n) = omega arith
of_entry (D.Array n i) = omega arith
of_entry (D.Tuple names is) = omega arith
of_entry (D.Object name at is all own_hooks own) = omega arith
of_entry (D.Distinct name at i) = omega arith
of_entry (D.Ref name i) = omega arith
of_entry (D.Exception name at parent) = omega arith

of_table : (table : List TypeDef) → names_bytes table ≤ table_names table
of_table [] = omega arith
of_table (def ∷ table) = omega (arith, of_entry def, of_table table)

pub names_count : (table : List TypeDef) → names_bytes table ≤ names_size (facts_in table)
names_count table = subst (λ n. names_bytes table ≤ n) (names_are table) (of_table table)

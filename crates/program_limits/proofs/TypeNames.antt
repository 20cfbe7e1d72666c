-- The names that a table brings with it are those of what is said of its types.
use Rattle.std.proofs.Common.{◌≡◌, ℕ, ◌+◌, List, [], ◌∷◌, drop, Option, Some, None, refl, sym, ap, arith}
use Rattle.std.specs.Prelude.{slice_get}
use Rattle.std.proofs.lemmas.Option.{slice_get_within, get_or_from_slice_get}
use Rattle.nim_types.specs.Types.{Ty, Field}
use Rattle.nim_types.specs.declared.types.TypeDef.{TypeDef}
use Rattle.nim_types.specs.declared.types.TypeDef.TheVariants as D
use Rattle.nim_types.specs.Table.{meant, types_in, fields_with, fields_fact, and_said, facts_over, facts_in}
use Rattle.nim_program.specs.TextSizes.{text_bytes, all_bytes}
use Rattle.program_limits.specs.Data.{names_size, entry_names, table_names}
use Rattle.program_limits.proofs.Capping.{drop_next}

none_more : {m n : ℕ} → m ≡ n → 0 + m ≡ n
none_more e = omega (arith, e)

names_over : (ts : List Ty) (ds : List TypeDef) → table_names ds ≡ names_size (facts_over ts ds)
names_over ts [] = refl
names_over ts (D.Int ∷ ds) = none_more (names_over ts ds)
names_over ts (D.Bool ∷ ds) = none_more (names_over ts ds)
names_over ts (D.Char ∷ ds) = none_more (names_over ts ds)
names_over ts (D.Text ∷ ds) = none_more (names_over ts ds)
names_over ts (D.Seq i ∷ ds) = none_more (names_over ts ds)
names_over ts (D.Param n ∷ ds) = none_more (names_over ts ds)
names_over ts (D.Enum name at all ∷ ds) = ap (λ n. all_bytes all + n) (names_over ts ds)
names_over ts (D.Array n i ∷ ds) = none_more (names_over ts ds)
names_over ts (D.Tuple names is ∷ ds) = none_more (names_over ts ds)
names_over ts (D.Object name at is all own_hooks own ∷ ds) = with_fields (fields_with ts all own) (names_over ts ds)
  where
    with_fields : (o : Option (List Field)) → table_names ds ≡ names_size (facts_over ts ds) →
        0 + table_names ds ≡ names_size (and_said (meant ts (D.Object name at is all own_hooks own)) (fields_fact o own_hooks) (facts_over ts ds))
    with_fields None rest = none_more rest
    with_fields (Some fs) rest = ap (λ n. 0 + n) rest
names_over ts (D.Distinct name at i ∷ ds) = ap (λ n. 0 + n) (names_over ts ds)
names_over ts (D.Ref name i ∷ ds) = none_more (names_over ts ds)
names_over ts (D.Exception name at parent ∷ ds) = ap (λ n. text_bytes name + n) (names_over ts ds)

pub names_are : (table : List TypeDef) → table_names table ≡ names_size (facts_in table)
names_are table = names_over (types_in table) table

-- ---- one more of several

pub names_next : (ds : List TypeDef) (i : ℕ) (d : TypeDef) → slice_get ds i ≡ Some d →
    table_names (drop i ds) ≡ entry_names d + table_names (drop (i + 1) ds)
names_next ds i d e = ap table_names (drop_next ds i d (slice_get_within ds i d e) (sym (get_or_from_slice_get ds i d d e)))

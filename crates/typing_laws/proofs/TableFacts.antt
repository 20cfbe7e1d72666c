-- Nothing is said twice of a type in a table.
use Rattle.std.proofs.Common.{◌≡◌, ℕ, suc, List, [], ◌∷◌, Option, Some, None, refl, subst}
use Rattle.std.specs.Prelude.{slice_get}
use Rattle.nim_types.specs.declared.types.TypeDef.{TypeDef}
use Rattle.nim_types.specs.Types.{Ty, Fact, Facts, fact_of}
use Rattle.nim_types.specs.Table.{meant, types_in, said_of, and_said, facts_over, facts_in, IsTable}
use Rattle.nim_types.specs.Entries.{meant_at, said_at}
use Rattle.nim_types.proofs.ForCallers.{entry_said}
use Rattle.typing_laws.proofs.Further.{AllSaid}

entries_said : (ts : List Ty) (g : Facts) (ds : List TypeDef)
    → ((i : ℕ) (d : TypeDef) → slice_get ds i ≡ Some d → fact_of g (meant ts d) ≡ said_of ts d) → AllSaid (facts_over ts ds) g
entries_said ts g [] at = tt
entries_said ts g (d ∷ ds) at = by_said (said_of ts d) (at 0 d refl) (entries_said ts g ds (λ i e s. at (suc i) e s))
  where
    by_said : (o : Option Fact) → fact_of g (meant ts d) ≡ o → AllSaid (facts_over ts ds) g → AllSaid (and_said (meant ts d) o (facts_over ts ds)) g
    by_said None e rest = rest
    by_said (Some fact) e rest = (e, rest)

pub table_said : (ds : List TypeDef) → IsTable ds → AllSaid (facts_in ds) (facts_in ds)
table_said ds table =
    entries_said (types_in ds) (facts_in ds) ds
    (λ i d s. subst (λ o. fact_of (facts_in ds) (meant_at (types_in ds) o) ≡ said_at (types_in ds) o) s (entry_said ds table i))

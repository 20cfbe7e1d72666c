-- How large the types of a list are, one after another.
use Rattle.std.proofs.Common.{◌≡◌, ℕ, zero, suc, ◌<◌, List, [], ◌∷◌, length, refl}
use Rattle.std.proofs.Common.{ap₂, arith, map}
use Rattle.std.specs.Prelude.{slice_get}
use Rattle.nim_types.specs.Types.{Ty, Facts}
use Rattle.nim_types.specs.Table.{type_at}
use Rattle.program_limits.specs.declared.summary.Summary.{Summary}
use Rattle.program_limits.specs.Summaries.{summary_in, summary_or}

module _ (facts : Facts) where
  -- a list that has the extent of each type, by its number
  pub listed_by : (ts : List Ty) (all : List Summary) → length all ≡ length ts
      → ((i : ℕ) → i < length ts → summary_or (slice_get all i) ≡ summary_in facts (type_at ts i)) → all ≡ map (summary_in facts) ts
  listed_by [] [] e h = refl
  listed_by [] (x ∷ all) e h = absurd (omega (arith, e))
  listed_by (t ∷ ts) [] e h = absurd (omega (arith, e))
  listed_by (t ∷ ts) (x ∷ all) e h =
      ap₂ (λ (y : Summary) (ys : List Summary). y ∷ ys) (h zero (omega arith))
      (listed_by ts all (omega (arith, e)) (λ i l. h (suc i) (omega (arith, l))))

  -- a number beyond them is that of an int
  pub listed_at : (ts : List Ty) (i : ℕ) → summary_or (slice_get (map (summary_in facts) ts) i) ≡ summary_in facts (type_at ts i)
  listed_at [] i = refl
  listed_at (t ∷ ts) zero = refl
  listed_at (t ∷ ts) (suc i) = listed_at ts i

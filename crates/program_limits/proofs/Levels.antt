-- A summary says whether a type has few levels.
use Rattle.std.proofs.Common.{◌≡◌, ℕ, Bool, true, false, List, [], ◌∷◌, map, refl, sym, ap₂, ◌∙◌, arith, inl, inr}
use Rattle.std.specs.Prelude.{nat_le}
use Rattle.std.proofs.lemmas.Bool.{cases_Bool, leb-true, le-leb, both_ways}
use Rattle.nim_types.specs.declared.types.TypeDef.{TypeDef}
use Rattle.nim_types.specs.Types.{Ty, Facts}
use Rattle.nim_types.specs.Table.{types_in, facts_in}
use Rattle.nim_types.specs.Forms.{form_of, levels}
use Rattle.program_limits.specs.Summaries.{capped, summary_in, is_shallow}

few_too : (n : ℕ) → nat_le (capped n) 64 ≡ nat_le n 64
few_too n = by (nat_le n 64) refl
  where
    by : (b : Bool) → nat_le n 64 ≡ b → nat_le (capped n) 64 ≡ nat_le n 64
    by true e = le-leb (capped n) 64 (let few = leb-true n 64 e in omega (arith, few)) ∙ sym e
    by false e = elim (cases_Bool (nat_le (capped n) 64)) [
      | inl t ↦
          let few = leb-true (capped n) 64 t in
          absurd (both_ways (nat_le n 64) e (le-leb n 64 (omega (arith, few))))
      | inr f ↦ f ∙ sym e
    ]

marks : (facts : Facts) (tys : List Ty) → map (λ s. nat_le s.levels 64) (map (summary_in facts) tys) ≡ map (is_shallow facts) tys
marks facts [] = refl
marks facts (ty ∷ tys) = ap₂ (λ b bs. b ∷ bs) (few_too (levels (form_of facts ty))) (marks facts tys)

pub all_marks : (table : List TypeDef) → map (λ s. nat_le s.levels 64) (map (summary_in (facts_in table)) (types_in table))
    ≡ map (is_shallow (facts_in table)) (types_in table)
all_marks table = marks (facts_in table) (types_in table)

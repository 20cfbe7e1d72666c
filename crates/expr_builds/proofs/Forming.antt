-- Types that are written with brackets.
use Rattle.std.proofs.Common.{◌≡◌, ℕ, zero, suc, ◌<◌, List, [], ◌∷◌, refl, ap, Some, None, arith}
use Rattle.std.specs.Prelude.{ℤ, pos, negsuc, int_lt, Bool, true, false, map, Ok, nat_le, if◌then◌else◌}
use Rattle.std.proofs.lemmas.Option.{same_Some}
use Rattle.arc_base.specs.declared.place.Place.{Place}
use Rattle.nim_types.specs.Types.{Ty}
use Rattle.nim_types.specs.Table.{type_at, AllBelow}
use Rattle.expr_rules.specs.declared.limits.TheConstants.{MOST_ELEMENTS}
use Rattle.expr_rules.specs.Answers.{not_typed}
use Rattle.expr_rules.specs.Demands.{of_sequences}
use Rattle.expr_rules.specs.Names.{formed_by, length_limit}
use Rattle.expr_builds.specs.ViewBuilt.{only_one}

pub one_only : (is : List ℕ) (i : ℕ) → only_one is ≡ Some i → is ≡ i ∷ []
one_only [] i e = cc
one_only (j ∷ []) i e = ap (λ k. k ∷ []) (same_Some j i e)
one_only (j ∷ k ∷ is) i e = cc

pub one_below : (n : ℕ) (is : List ℕ) (i : ℕ) → only_one is ≡ Some i → AllBelow n is → i < n
one_below n [] i e h = cc
one_below n (j ∷ []) i e h = let same : j ≡ i = same_Some j i e in let below : j < n = h.0 in omega (arith, same, below)
one_below n (j ∷ k ∷ is) i e h = cc

pub not_one : (ts : List Ty) (at : Place) (is : List ℕ) → only_one is ≡ None → formed_by at of_sequences (map (type_at ts) is) ≡ not_typed at
not_one ts at [] e = refl
not_one ts at (i ∷ []) e = cc
not_one ts at (i ∷ j ∷ is) e = refl

pub too_low : (at : Place) (z : ℤ) → int_lt z (pos 1) ≡ true → length_limit at z ≡ not_typed at
too_low at (pos zero) h = refl
too_low at (pos (suc n)) h = absurd (no_less n h)
  where
    no_less : (n : ℕ) → int_lt (pos (suc n)) (pos 1) ≡ true → ⊥
    no_less n h = grind arith
too_low at (negsuc n) h = refl

pub too_high : (at : Place) (z : ℤ) → int_lt (pos MOST_ELEMENTS) z ≡ true → length_limit at z ≡ not_typed at
too_high at (pos zero) h = refl
too_high at (pos (suc n)) h =
    let more : nat_le (suc n) MOST_ELEMENTS ≡ false = grind arith in
    ap (λ (b : Bool). if b then Ok (suc n) else not_typed at) more
too_high at (negsuc n) h = refl

pub in_limits : (at : Place) (n : ℕ) → 0 < n → nat_le n MOST_ELEMENTS ≡ true → length_limit at (pos n) ≡ Ok n
in_limits at zero h k = absurd (omega (arith, h))
in_limits at (suc n) h k = ap (λ (b : Bool). if b then Ok (suc n) else not_typed at) k

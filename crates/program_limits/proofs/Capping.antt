-- Numbers of bytes, where what is beyond the most is as one more than it.
use Rattle.std.proofs.Common.{◌≡◌, ℕ, suc, ◌+◌, ◌<◌, ◌≤◌, arith, inl, inr}
use Rattle.std.proofs.Common.{List, ◌∷◌, length, drop, get_or, sym, ap, ◌∙◌}
use Rattle.std.specs.Prelude.{nat_le}
use Rattle.std.proofs.lemmas.Bool.{leb-true, le-leb, cases_Bool, both_ways}
use Rattle.std.proofs.lemmas.List.{drop_more}
use Rattle.nim_program.specs.declared.text_sizes.TheConstants.{MOST_DATA}
use Rattle.nim_program.specs.Folds.{capped}

pub sum_two : (r a b m n whole : ℕ) → r ≡ capped MOST_DATA (a + b) → a ≡ capped MOST_DATA m → b ≡ capped MOST_DATA n → whole ≡ m + n →
    r ≡ capped MOST_DATA whole
sum_two r a b m n whole e f g h = omega (arith, e, f, g, h)

-- one more of several, and the last one
pub sums_next : (sum one new m rest after whole : ℕ) → capped MOST_DATA (sum + rest) ≡ capped MOST_DATA whole → sum ≤ suc MOST_DATA →
    new ≡ capped MOST_DATA (sum + one) → one ≡ capped MOST_DATA m → rest ≡ m + after →
    (capped MOST_DATA (new + after) ≡ capped MOST_DATA whole) × (new ≤ suc MOST_DATA)
sums_next sum one new m rest after whole h l e f g = (omega (arith, h, l, e, f, g), omega (arith, e))

pub sums_ended : (sum rest whole : ℕ) → capped MOST_DATA (sum + rest) ≡ capped MOST_DATA whole → sum ≤ suc MOST_DATA → rest ≡ 0 → sum ≡ capped MOST_DATA whole
sums_ended sum rest whole h l e = omega (arith, h, l, e)

-- a sum within the most is the whole
pub fits_capped : (sum whole : ℕ) → sum ≡ capped MOST_DATA whole → nat_le sum MOST_DATA ≡ nat_le whole MOST_DATA
fits_capped sum whole e = elim (cases_Bool (nat_le whole MOST_DATA)) [
  | inl t ↦ let few = leb-true whole MOST_DATA t in le-leb sum MOST_DATA (omega (arith, e, few)) ∙ sym t
  | inr f ↦ elim (cases_Bool (nat_le sum MOST_DATA)) [
    | inl t ↦
        absurd (let few = leb-true sum MOST_DATA t in
        both_ways (nat_le whole MOST_DATA) f (le-leb whole MOST_DATA (omega (arith, e, few))))
    | inr g ↦ g ∙ sym f
  ]
]

-- what is left of a list that is gone through
pub drop_next : {X : Type 0} (xs : List X) (i : ℕ) (x : X) → i < length xs → x ≡ get_or xs i x → drop i xs ≡ x ∷ drop (i + 1) xs
drop_next xs i x l e = drop_more xs i x l ∙ ap (λ y. y ∷ drop (i + 1) xs) (sym e)

-- The words of numbers, and what the code's tests on them say.
use Rattle.std.proofs.Common.{rules, Decides, ◌≡◌, ◌≢◌, ◌⊎◌, inl, inr, ℕ, zero, suc, ◌+◌, ◌-◌, ◌*◌, ◌/◌, ◌%◌, ◌^◌}
use Rattle.std.proofs.Common.{◌<◌, ◌≤◌, Bool, true, false, not, ◌==◌, ℤ}
use Rattle.std.proofs.Common.{pos, negsuc, ◌+ℤ◌, ◌-ℤ◌, ◌*ℤ◌, neg_ℤ, int_lt, int_le, int_div, int_rem, int_eq, unsigned_abs, FitsSigned}
use Rattle.std.proofs.Common.{refl, sym, ap, ap₂, ◌∙◌}
use Rattle.std.proofs.Common.{arith, w32, w64, to_z-of_z, mul-le-mul, mul-le-mul_left, div-le_self, div-mul-le_self}
use Rattle.std.specs.Int.{cast_unsigned, int_wrap, int_shr}
use borrow.Author.Differences.{up, down, read_fits}
use Rattle.std.proofs.lemmas.Int.{ints, of_z-to_z, wrapping_mul_is, int_wrap_fits, unsigned_abs-mul, quot_fits}
use Rattle.std.proofs.lemmas.Bool.{false_from_ne_true, eqb-true, eqb-false, cond-false}
use Rattle.std.proofs.lemmas.Bool.Decides.{same_from_decides, Decides-eqb, Decides-int_eq}
use Rattle.nim_program.specs.Ints.{low, fits, low_byte}
use Rattle.rv32_isa.specs.Values.{signed, added, subtracted, one_if, is_less_signed, low_product, high_product_signed, shifted_right_signed, quotient_signed}
use Rattle.rv32_isa.specs.Values.{remainder_signed}
use Rattle.word_lowering.specs.Operations.{word}

-- ---- words

pub fits_signed : (z : ℤ) → fits z ≡ true → FitsSigned w32 z
fits_signed z h = search rules

pub signed_fits : (z : ℤ) → FitsSigned w32 z → fits z ≡ true
signed_fits z h = search rules

pub unfit : (z : ℤ) → ¬ (FitsSigned w32 z) → fits z ≡ false
unfit z n = false_from_ne_true (fits z) (λ e. n (fits_signed z e))

pub signed_word : (z : ℤ) → fits z ≡ true → signed (word z) ≡ z
signed_word z h = to_z-of_z (fits_signed z h)

pub word_small : (z : ℤ) → fits z ≡ true → word z < 2 ^ 32
word_small z h = let f = fits_signed z h in omega (arith, ints)

pub word_signed : (n : ℕ) → n < 2 ^ 32 → word (signed n) ≡ n
word_signed n h = of_z-to_z w32 n h

pub pos_word : (n : ℕ) → fits (pos n) ≡ true → word (pos n) ≡ n
pos_word n f = let h = fits_signed (pos n) f in omega (arith, ints)

pub word_injective : (u v : ℤ) → fits u ≡ true → fits v ≡ true → word u ≡ word v → u ≡ v
word_injective u v f g e = sym (signed_word u f) ∙ ap signed e ∙ signed_word v g

-- ---- sums

pub added_is : (u v : ℤ) → fits u ≡ true → fits v ≡ true → fits (u +ℤ v) ≡ true → added (word u) (word v) ≡ word (u +ℤ v)
added_is u v fu fv f =
    let a = fits_signed u fu in
    let b = fits_signed v fv in
    let c = fits_signed (u +ℤ v) f in
    omega (arith, ints)

pub subtracted_is : (u v : ℤ) → fits u ≡ true → fits v ≡ true → fits (u -ℤ v) ≡ true → subtracted (word u) (word v) ≡ word (u -ℤ v)
subtracted_is u v fu fv f =
    let a = fits_signed u fu in
    let b = fits_signed v fv in
    let c = fits_signed (u -ℤ v) f in
    omega (arith, ints)

-- two tests are alike where a third one holds
alike : (p q r : Bool) → (p ≡ true → q ≡ true → r ≡ true) → (p ≡ false → q ≡ false → r ≡ true)
    → (p ≡ true → q ≡ false → r ≡ false)
    → (p ≡ false → q ≡ true → r ≡ false) → (one_if p == one_if q) ≡ r
alike true true r a b c d = sym (a refl refl)
alike false false r a b c d = sym (b refl refl)
alike true false r a b c d = sym (c refl refl)
alike false true r a b c d = sym (d refl refl)

-- the sum has not overflowed where it is less than the first number just where the second is negative
pub sum_fits : (u v : ℤ) → fits u ≡ true → fits v ≡ true →
    (one_if (is_less_signed (added (word u) (word v)) (word u)) == one_if (is_less_signed (word v) 0))
    ≡ fits (u +ℤ v)
sum_fits u v fu fv =
    let a = fits_signed u fu in
    let b = fits_signed v fv in
    let s = signed (added (word u) (word v)) in
    let small : added (word u) (word v) < 2 ^ 32 = omega arith in
    let back : word s ≡ added (word u) (word v) = word_signed _ small in
    ap (λ x. one_if (int_lt s x) == one_if (is_less_signed (word v) 0)) (signed_word u fu) ∙ ap (λ x. one_if (int_lt s u) == one_if (int_lt x (pos 0)))
    (signed_word v fv) ∙
    alike (int_lt s u) (int_lt v (pos 0)) (fits (u +ℤ v))
    (λ p q. signed_fits (u +ℤ v) (omega (arith, ints)))
    (λ p q. signed_fits (u +ℤ v) (omega (arith, ints)))
    (λ p q. unfit (u +ℤ v) (λ f. absurd (omega (arith, ints))))
    (λ p q. unfit (u +ℤ v) (λ f. absurd (omega (arith, ints))))

-- the difference has not overflowed where it is greater than the first number just where the second is negative
pub difference_fits : (u v : ℤ) → fits u ≡ true → fits v ≡ true
    → (one_if (is_less_signed (word u) (subtracted (word u) (word v))) == one_if (is_less_signed (word v) 0)) ≡ fits (u -ℤ v)
difference_fits u v fu fv =
    let a = fits_signed u fu in
    let b = fits_signed v fv in
    let s = signed (subtracted (word u) (word v)) in
    let small : subtracted (word u) (word v) < 2 ^ 32 = omega arith in
    let back : word s ≡ subtracted (word u) (word v) = word_signed _ small in
    ap (λ x. one_if (int_lt x s) == one_if (is_less_signed (word v) 0)) (signed_word u fu) ∙ ap (λ x. one_if (int_lt u s) == one_if (int_lt x (pos 0)))
    (signed_word v fv) ∙
    alike (int_lt u s) (int_lt v (pos 0)) (fits (u -ℤ v))
    (λ p q. signed_fits (u -ℤ v) (omega (arith, ints)))
    (λ p q. signed_fits (u -ℤ v) (omega (arith, ints)))
    (λ p q. unfit (u -ℤ v) (λ f. absurd (omega (arith, ints))))
    (λ p q. unfit (u -ℤ v) (λ f. absurd (omega (arith, ints))))

-- ---- products

-- a word that is left of a number differs from it by a multiple of 2 ^ 32
low_of : (n : ℕ) → n < 2 ^ 32 → (p : ℤ) → signed n ≡ int_wrap w32 p → (j : ℕ) × (k : ℕ) × (p +ℤ pos (j * 2 ^ 32) ≡ pos (n + k * 2 ^ 32))
unfolding int_wrap
low_of n small (pos m) e =
    let is : n ≡ m % 2 ^ 32 = sym (word_signed n small) ∙ ap word e ∙ word_signed (m % 2 ^ 32) (omega arith) in
    (0, m / 2 ^ 32, ap pos (omega arith))
low_of n small (negsuc m) e =
    let is : n ≡ 2 ^ 32 - 1 - m % 2 ^ 32 = sym (word_signed n small) ∙ ap word e ∙ word_signed (2 ^ 32 - 1 - m % 2 ^ 32) (omega arith) in
    (m / 2 ^ 32 + 1, 0, omega (arith, ints))

low_product_is : (u v : ℤ) → fits u ≡ true → fits v ≡ true → signed (low_product (word u) (word v)) ≡ int_wrap w32 (u *ℤ v)
low_product_is u v fu fv = wrapping_mul_is w32 u v (fits_signed u fu) (fits_signed v fv)

pub product_is : (u v : ℤ) → fits u ≡ true → fits v ≡ true → fits (u *ℤ v) ≡ true → low_product (word u) (word v) ≡ word (u *ℤ v)
product_is u v fu fv f =
    let small : low_product (word u) (word v) < 2 ^ 32 = omega arith in
    sym (word_signed _ small) ∙ ap word (low_product_is u v fu fv ∙ int_wrap_fits w32 (u *ℤ v) (fits_signed (u *ℤ v) f))

-- how far a product is from zero
pub product_within : (u v : ℤ) → fits u ≡ true → fits v ≡ true → unsigned_abs (u *ℤ v) ≤ 2 ^ 62
product_within u v fu fv =
    let a = fits_signed u fu in
    let b = fits_signed v fv in
    let p : unsigned_abs u ≤ 2 ^ 31 = omega (arith, ints) in
    let q : unsigned_abs v ≤ 2 ^ 31 = omega (arith, ints) in
    omega (arith, unsigned_abs-mul u v, mul-le-mul p q)

-- a word shifted by 31 has its sign in each bit
pub sign_word : (n : ℕ) → n < 2 ^ 32 → ((n < 2 ^ 31) × (shifted_right_signed n 31 ≡ 0)) ⊎
    ((2 ^ 31 ≤ n) × (shifted_right_signed n 31 ≡ 2 ^ 32 - 1))
sign_word n h = by (signed n) refl
  where
    by : (z : ℤ) → signed n ≡ z → ((n < 2 ^ 31) × (shifted_right_signed n 31 ≡ 0)) ⊎ ((2 ^ 31 ≤ n) × (shifted_right_signed n 31 ≡ 2 ^ 32 - 1))
    by (pos m) e =
        let is : m ≡ n = sym (ap word e) ∙ word_signed n h in
        let f = read_fits w32 n in
        let less : m < 2 ^ 31 = omega (arith, ap up e, ap down e) in
        inl (omega arith, ap (λ z. word (int_shr z 31)) e ∙ (omega arith))
    by (negsuc m) e =
        let is : 2 ^ 32 - suc m ≡ n = sym (ap word e) ∙ word_signed n h in
        let f = read_fits w32 n in
        let less : m < 2 ^ 31 = omega (arith, ap up e, ap down e) in
        inr (omega arith, ap (λ z. word (int_shr z 31)) e ∙ (omega arith))

-- the high word of a number is the sign of its low word just where the number fits
high_by : (p : ℤ) (n j k : ℕ) → unsigned_abs p ≤ 2 ^ 62 → n < 2 ^ 32 → p +ℤ pos (j * 2 ^ 32) ≡ pos (n + k * 2 ^ 32)
    → (cast_unsigned w64 p / 2 ^ 32 == shifted_right_signed n 31) ≡ fits p
high_by p n j k within small e = same_from_decides _ (fits p) (Decides-eqb _ _) (by p within e (sign_word n small))
  where
    by : (p : ℤ) → unsigned_abs p ≤ 2 ^ 62 → p +ℤ pos (j * 2 ^ 32) ≡ pos (n + k * 2 ^ 32) → ((n < 2 ^ 31) × (shifted_right_signed n 31 ≡ 0))
        ⊎ ((2 ^ 31 ≤ n) × (shifted_right_signed n 31 ≡ 2 ^ 32 - 1)) → Decides (fits p) (cast_unsigned w64 p / 2 ^ 32 ≡ shifted_right_signed n 31)
    by (pos m) w e (inl s) = (λ f. let h = fits_signed (pos m) f in omega (arith, ints), λ q. signed_fits (pos m) (omega (arith, ints)))
    by (pos m) w e (inr s) = (λ f. let h = fits_signed (pos m) f in absurd (omega (arith, ints)), λ q. signed_fits (pos m) (omega (arith, ints)))
    by (negsuc m) w e (inl s) = (λ f. let h = fits_signed (negsuc m) f in absurd (omega (arith, ints)), λ q. signed_fits (negsuc m) (omega (arith, ints)))
    by (negsuc m) w e (inr s) = (λ f. let h = fits_signed (negsuc m) f in omega (arith, ints), λ q. signed_fits (negsuc m) (omega (arith, ints)))

pub product_fits : (u v : ℤ) → fits u ≡ true → fits v ≡ true
    → (high_product_signed (word u) (word v) == shifted_right_signed (low_product (word u) (word v)) 31) ≡ fits (u *ℤ v)
product_fits u v fu fv =
    let small : low_product (word u) (word v) < 2 ^ 32 = omega arith in
    let low = low_of (low_product (word u) (word v)) small (u *ℤ v) (low_product_is u v fu fv) in
    ap₂ (λ x y. cast_unsigned w64 (x *ℤ y) / 2 ^ 32 == shifted_right_signed (low_product (word u) (word v)) 31) (signed_word u fu) (signed_word v fv) ∙
    high_by (u *ℤ v) (low_product (word u) (word v)) low.0 low.1 (product_within u v fu fv) small low.2

-- ---- quotients and remainders

pub word_same : (u v : ℤ) → fits u ≡ true → fits v ≡ true → (word u == word v) ≡ true → u ≡ v
word_same u v fu fv e = word_injective u v fu fv (eqb-true _ _ e)

pub word_apart : (u v : ℤ) → (word u == word v) ≡ false → u ≢ v
word_apart u v e same = eqb-false _ _ e (ap word same)

pub not_zero : (v : ℤ) → fits v ≡ true → v ≢ pos 0 → (word v == 0) ≡ false
not_zero v fv ne = false_from_ne_true (word v == 0) (λ e. ne (word_same v (pos 0) fv refl e))

-- a quotient fits, unless the least number is divided by -1
pub quotient_fits : (u v : ℤ) → fits u ≡ true → fits v ≡ true → v ≢ pos 0 → (u ≢ low) ⊎ (v ≢ negsuc 0) → fits (int_div u v) ≡ true
quotient_fits u (pos zero) fu fv ne apart = absurd (ne refl)
quotient_fits u (pos (suc b)) fu fv ne apart = signed_fits _ (quot_fits w32 u (pos (suc b)) (fits_signed u fu) (omega (arith, ints)))
quotient_fits (pos a) (negsuc b) fu fv ne apart =
    let h = fits_signed (pos a) fu in
    let l = div-le_self a (suc b) in
    signed_fits (int_div (pos a) (negsuc b)) (omega (arith, ints))
quotient_fits (negsuc a) (negsuc zero) fu fv ne (inl apart) =
    let h = fits_signed (negsuc a) fu in
    let n : a ≢ 2 ^ 31 - 1 = λ e. apart (ap negsuc e) in
    signed_fits (pos (suc a / 1)) (omega (arith, ints))
quotient_fits (negsuc a) (negsuc zero) fu fv ne (inr apart) = absurd (apart refl)
quotient_fits (negsuc a) (negsuc (suc b)) fu fv ne apart =
    let h = fits_signed (negsuc a) fu in
    let q = suc a / suc (suc b) in
    let l : q * suc (suc b) ≤ suc a = div-mul-le_self (suc a) (suc (suc b)) in
    let m : q * 2 ≤ q * suc (suc b) = mul-le-mul_left q (omega arith) in
    signed_fits (pos q) (omega (arith, ints))

pub rem_fits : (u v : ℤ) → fits u ≡ true → fits (int_rem u v) ≡ true
rem_fits u v fu = search rules

pub quotient_is : (u v : ℤ) → fits u ≡ true → fits v ≡ true → v ≢ pos 0 → quotient_signed (word u) (word v) ≡ word (int_div u v)
quotient_is u v fu fv ne = cond-false _ _ _ (not_zero v fv ne) ∙ ap₂ (λ x y. word (int_div x y)) (signed_word u fu) (signed_word v fv)

pub remainder_is : (u v : ℤ) → fits u ≡ true → fits v ≡ true → v ≢ pos 0 → remainder_signed (word u) (word v) ≡ word (int_rem u v)
remainder_is u v fu fv ne = cond-false _ _ _ (not_zero v fv ne) ∙ ap₂ (λ x y. word (int_rem x y)) (signed_word u fu) (signed_word v fv)

-- ---- opposites

pub opposite_is : (u : ℤ) → fits u ≡ true → fits (neg_ℤ u) ≡ true → subtracted 0 (word u) ≡ word (neg_ℤ u)
opposite_is u fu f =
    let a = fits_signed u fu in
    let b = fits_signed (neg_ℤ u) f in
    omega (arith, ints)

-- the opposite of the least number alone doesn't fit
pub is_least : (u : ℤ) → fits u ≡ true → (word u == 2 ^ 31) ≡ not (fits (neg_ℤ u))
is_least u fu = by (word u == 2 ^ 31) refl
  where
    by : (b : Bool) → (word u == 2 ^ 31) ≡ b → b ≡ not (fits (neg_ℤ u))
    by true e = ap (λ z. not (fits (neg_ℤ z))) (sym (word_same u low fu refl e))
    by false e =
        let h = fits_signed u fu in
        let n : u ≢ low = word_apart u low e in
        ap not (sym (signed_fits (neg_ℤ u) (omega (arith, ints))))

-- ---- comparisons

pub equal_is : (u v : ℤ) → fits u ≡ true → fits v ≡ true → (word u == word v) ≡ int_eq u v
equal_is u v fu fv = same_from_decides _ _ (Decides-eqb _ _) (
  λ e. ap word ((Decides-int_eq u v).0 e),
  λ e. (Decides-int_eq u v).1
      (word_injective u v fu fv e),
)

pub less_is : (u v : ℤ) → fits u ≡ true → fits v ≡ true → is_less_signed (word u) (word v) ≡ int_lt u v
less_is u v fu fv = ap₂ int_lt (signed_word u fu) (signed_word v fv)

pub at_most_is : (u v : ℤ) → fits u ≡ true → fits v ≡ true → not (is_less_signed (word v) (word u)) ≡ int_le u v
at_most_is u v fu fv = ap not (less_is v u fv fu) ∙ by (int_lt v u) (int_le u v) refl refl
  where
    by : (p q : Bool) → int_lt v u ≡ p → int_le u v ≡ q → not p ≡ q
    by true true e g = absurd (omega (arith, ints))
    by true false e g = refl
    by false true e g = refl
    by false false e g = absurd (omega (arith, ints))

-- ---- the low byte: a char, and the status of an exit

low_byte_is : (z : ℤ) (turns word : ℕ) → z +ℤ pos (turns * 256) ≡ pos word → low_byte z ≡ word % 256
low_byte_is z turns word e = search rules

pub exit_status : (z : ℤ) → fits z ≡ true → word z % 256 ≡ low_byte z
exit_status (pos n) f = sym (low_byte_is (pos n) 0 n (ap pos (omega arith)))
exit_status (negsuc n) f = let h = fits_signed (negsuc n) f in sym (low_byte_is (negsuc n) (2 ^ 24) (word (negsuc n)) (omega (arith, ints)))

pub small_byte : (n : ℕ) → n < 256 → low_byte (pos n) ≡ n
small_byte n h = low_byte_is (pos n) 0 n (ap pos (omega arith)) ∙ omega (arith, h)

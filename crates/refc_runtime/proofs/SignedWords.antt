-- Numbers with a sign, and their words.
use Rattle.std.proofs.Common.{◌≡◌, ℕ, suc, ◌^◌, ◌<◌, ◌≤◌, ℤ, pos, negsuc, FitsSigned, w32, true, false, ap, ◌∙◌, arith}
use Rattle.std.specs.Prelude.{int_lt, unsigned_abs}
use Rattle.std.specs.Int.{cast_unsigned}
use Rattle.std.proofs.lemmas.Bool.{false_from_ne_true}
use Rattle.std.proofs.lemmas.Int.{ints}
use Rattle.rv32_isa.specs.Values.{signed, subtracted, is_less_signed}

pub pos_word : (n : ℕ) → FitsSigned w32 (pos n) → cast_unsigned w32 (pos n) ≡ n
pos_word n h = omega (arith, ints)

pub negative_word : (n : ℕ) → FitsSigned w32 (negsuc n) → subtracted 0 (cast_unsigned w32 (negsuc n)) ≡ suc n
negative_word n h = omega (arith, ints)

pub pos_sign : (n : ℕ) (x : ℕ) → signed x ≡ pos n → is_less_signed x 0 ≡ false
pos_sign n x e = ap (λ z. int_lt z (pos 0)) e ∙ false_from_ne_true (int_lt (pos n) (pos 0)) (λ e. absurd (omega (arith, ints, e)))

pub negative_sign : (n : ℕ) (x : ℕ) → signed x ≡ negsuc n → is_less_signed x 0 ≡ true
negative_sign n x e = ap (λ z. int_lt z (pos 0)) e

pub word_fits : (x : ℕ) → x < 2 ^ 32 → FitsSigned w32 (signed x)
word_fits x small = omega (arith, ints)

pub magnitude : (z : ℤ) → FitsSigned w32 z → unsigned_abs z ≤ 2 ^ 31
magnitude z h = omega (arith, ints)

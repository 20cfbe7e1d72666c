-- The result of an operation on words is a word.
use Rattle.std.proofs.Common.{ℕ, zero, suc, ◌-◌, ◌/◌, ◌%◌, ◌^◌, ◌<◌, ◌≤◌, ℤ, pos, negsuc, neg_ℤ, ◌*ℤ◌, int_div, int_rem, FitsSigned}
use Rattle.std.proofs.Common.{unsigned_abs, Bool, arith, w32, w64, mul-le-mul, div-le_self}
use Rattle.std.specs.Prelude.{◌==◌, nat_lt}
use Rattle.std.specs.Int.{cast_unsigned, int_shr}
use Rattle.std.proofs.lemmas.Bool.{cond_both}
use Rattle.std.proofs.lemmas.Int.{unsigned_abs-mul}
use Rattle.std.proofs.lemmas.Nat.{and_le_l, or_of_32, xor_of_32}
use Rattle.std.proofs.Math.Facts.{sfits_to_z}
use lib.Signed.{mag_rem}
use Rattle.rv32_isa.specs.Values.{signed, one_if, is_less_signed}
use Rattle.word_code.specs.declared.word.WordOperation.{WordOperation}
use Rattle.word_code.specs.declared.word.WordOperation.TheVariants as operation
use Rattle.word_code.specs.Words.{computed}

fits_of : (word : ℕ) → word < 2 ^ 32 → FitsSigned w32 (signed word)
fits_of word h = sfits_to_z (record { fits = h })

-- its bits are those of a word
abbrev Small : ℤ → Type 0
Small (pos n) = n < 2 ^ 32
Small (negsuc n) = Unit {0}

bits_small : (z : ℤ) → Small z → cast_unsigned w32 z < 2 ^ 32
bits_small (pos n) h = h
bits_small (negsuc n) h = omega arith

neg_small : (n : ℕ) → Small (neg_ℤ (pos n))
neg_small zero = omega arith
neg_small (suc n) = tt

quotient_small : (x y : ℤ) → FitsSigned w32 x → Small (int_div x y)
quotient_small (pos a) (pos b) f = omega (arith, div-le_self a b, f.sfits)
quotient_small (pos a) (negsuc b) f = neg_small (a / suc b)
quotient_small (negsuc a) (pos b) f = neg_small (suc a / b)
quotient_small (negsuc a) (negsuc b) f = omega (arith, div-le_self (suc a) (suc b), f.sfits)

remainder_small : (x y : ℤ) → FitsSigned w32 x → Small (int_rem x y)
remainder_small (pos a) y f = omega (arith, mag_rem (pos a) y, f.sfits)
remainder_small (negsuc a) y f = neg_small (suc a % unsigned_abs y)

shifted_small : (x : ℤ) (by : ℕ) → FitsSigned w32 x → Small (int_shr x by)
shifted_small (pos a) by f = omega (arith, div-le_self a (2 ^ by), f.sfits)
shifted_small (negsuc a) by f = tt

-- how far a word is from zero
abs_most : (x : ℤ) → FitsSigned w32 x → unsigned_abs x ≤ 2 ^ 31
abs_most (pos a) f = omega (arith, f.sfits)
abs_most (negsuc a) f = omega (arith, f.sfits)

wide_small : (z : ℤ) → unsigned_abs z ≤ 2 ^ 62 → cast_unsigned w64 z < 2 ^ 64
wide_small (pos n) h = omega (arith, h)
wide_small (negsuc n) h = omega arith

product_small : (x y : ℤ) → FitsSigned w32 x → FitsSigned w32 y → cast_unsigned w64 (x *ℤ y) / 2 ^ 32 < 2 ^ 32
product_small x y f g =
    let p = abs_most x f in
    let q = abs_most y g in
    let most : unsigned_abs (x *ℤ y) ≤ 2 ^ 62 = omega (arith, unsigned_abs-mul x y, mul-le-mul p q) in
    omega (arith, wide_small (x *ℤ y) most)

one_small : (b : Bool) → one_if b < 2 ^ 32
one_small b = cond_both b 1 0 (λ n. n < 2 ^ 32) (λ e. omega arith) (λ e. omega arith)

pub computed_small : (o : WordOperation) (a b : ℕ) → a < 2 ^ 32 → b < 2 ^ 32 → computed o a b < 2 ^ 32
computed_small operation.Add a b f g = omega arith
computed_small operation.Subtract a b f g = omega arith
computed_small operation.Multiply a b f g = omega arith
computed_small operation.MultiplyHigh a b f g = product_small (signed a) (signed b) (fits_of a f) (fits_of b g)
computed_small operation.Divide a b f g =
    cond_both (b == 0) (2 ^ 32 - 1) (cast_unsigned w32 (int_div (signed a) (signed b))) (λ n. n < 2 ^ 32) (λ e. omega arith)
    (λ e. bits_small (int_div (signed a) (signed b)) (quotient_small (signed a) (signed b) (fits_of a f)))
computed_small operation.Remainder a b f g =
    cond_both (b == 0) a (cast_unsigned w32 (int_rem (signed a) (signed b))) (λ n. n < 2 ^ 32) (λ e. f)
    (λ e. bits_small (int_rem (signed a) (signed b)) (remainder_small (signed a) (signed b) (fits_of a f)))
computed_small operation.DivideUnsigned a b f g =
    cond_both (b == 0) (2 ^ 32 - 1) (a / b) (λ n. n < 2 ^ 32) (λ e. omega arith) (λ e. omega (arith, div-le_self a b, f))
computed_small operation.RemainderUnsigned a b f g =
    cond_both (b == 0) a (a % b) (λ n. n < 2 ^ 32) (λ e. f) (λ e. omega (arith, mag_rem (pos a) (pos b), f))
computed_small operation.And a b f g = omega (arith, and_le_l a b, f)
computed_small operation.Or a b f g = or_of_32 a b f g
computed_small operation.Xor a b f g = xor_of_32 a b f g
computed_small operation.ShiftLeft a b f g = omega arith
computed_small operation.ShiftRight a b f g = omega (arith, div-le_self a (2 ^ (b % 32)), f)
computed_small operation.ShiftRightSigned a b f g =
    bits_small (int_shr (signed a) (b % 32)) (shifted_small (signed a) (b % 32) (fits_of a f))
computed_small operation.Less a b f g = one_small (is_less_signed a b)
computed_small operation.Below a b f g = one_small (nat_lt a b)

-- Words of shifts and of what is done bit by bit.
use Rattle.std.proofs.Common.{◌≡◌, ℕ, ◌*◌, ◌/◌, ◌%◌, ◌^◌, ◌<◌, Bool, true, false, pos, negsuc, w32, refl, sym, ap, ap₂, ◌∙◌}
use Rattle.std.proofs.Common.{arith, div-le_self}
use Rattle.std.specs.Prelude.{ℤ, ◌-ℤ◌, nat_lt, bit_and, bit_or, bit_xor, if◌then◌else◌}
use Rattle.std.specs.Int.{cast_unsigned, int_shr, int_div_euclid}
use Rattle.std.proofs.lemmas.Int.{ints}
use Rattle.std.proofs.lemmas.Bool.{ltb-true, ltb-false}
use Rattle.std.proofs.lemmas.Nat.{and_le_l, or_lt, xor_lt}
use Rattle.rv32_isa.specs.Values.{shifted_left, shifted_right_signed}
use Rattle.nim_program.specs.Ints.{fits, bits_of, signed as int_of, shift_by}
use Rattle.word_lowering.specs.Operations.{word}
use Rattle.word_lowering.proofs.Arithmetic.{fits_signed, signed_fits, signed_word, word_small}

pub bits_is : (z : ℤ) → fits z ≡ true → bits_of z ≡ word z
bits_is (pos n) f = let h = fits_signed (pos n) f in omega (arith, ints)
bits_is (negsuc n) f = let h = fits_signed (negsuc n) f in omega (arith, ints)

pub shift_is : (z : ℤ) → fits z ≡ true → shift_by z ≡ word z % 32
shift_is z f = ap (λ n. n % 32) (bits_is z f)

pub int_word : (n : ℕ) → n < 2 ^ 32 → word (int_of n) ≡ n
int_word n small = by (nat_lt n (2 ^ 31)) refl
  where
    by : (b : Bool) → nat_lt n (2 ^ 31) ≡ b → word (if b then pos n else pos n -ℤ pos (2 ^ 32)) ≡ n
    by true e = let h = ltb-true n (2 ^ 31) e in omega (arith, ints)
    by false e = let h = ltb-false n (2 ^ 31) e in omega (arith, ints)

pub int_fits : (n : ℕ) → n < 2 ^ 32 → fits (int_of n) ≡ true
int_fits n small = by (nat_lt n (2 ^ 31)) refl
  where
    by : (b : Bool) → nat_lt n (2 ^ 31) ≡ b → fits (if b then pos n else pos n -ℤ pos (2 ^ 32)) ≡ true
    by true e = let h = ltb-true n (2 ^ 31) e in signed_fits (pos n) (omega (arith, ints))
    by false e = let h = ltb-false n (2 ^ 31) e in signed_fits (pos n -ℤ pos (2 ^ 32)) (omega (arith, ints))

-- ---- shifts

abbrev pub left_shifted : ℤ → ℤ → ℕ
left_shifted x y = (bits_of x * 2 ^ shift_by y) % 2 ^ 32

pub left_is : (x y : ℤ) → fits x ≡ true → fits y ≡ true → shifted_left (word x) (word y) ≡ word (int_of (left_shifted x y))
left_is x y fx fy =
    ap₂ (λ a b. a * 2 ^ b % 2 ^ 32) (sym (bits_is x fx)) (sym (shift_is y fy)) ∙ sym (int_word (left_shifted x y) (omega arith))

pub left_fits : (x y : ℤ) → fits (int_of (left_shifted x y)) ≡ true
left_fits x y = int_fits (left_shifted x y) (omega arith)

abbrev pub right_shifted : ℤ → ℤ → ℤ
right_shifted x y = int_div_euclid x (pos (2 ^ shift_by y))

shr_is : (x : ℤ) (k : ℕ) → int_shr x k ≡ int_div_euclid x (pos (2 ^ k))
shr_is (pos a) k = refl
shr_is (negsuc a) k = refl

pub right_is : (x y : ℤ) → fits x ≡ true → fits y ≡ true → shifted_right_signed (word x) (word y) ≡ word (right_shifted x y)
right_is x y fx fy =
    ap₂ (λ z k. cast_unsigned w32 (int_shr z k)) (signed_word x fx) (sym (shift_is y fy)) ∙ ap word (shr_is x (shift_by y))

right_within : (x : ℤ) (p : ℕ) → fits x ≡ true → fits (int_div_euclid x (pos p)) ≡ true
right_within (pos a) p f =
    let h = fits_signed (pos a) f in let l = div-le_self a p in signed_fits (pos (a / p)) (omega (arith, ints))
right_within (negsuc a) p f =
    let h = fits_signed (negsuc a) f in let l = div-le_self a p in signed_fits (negsuc (a / p)) (omega (arith, ints))

pub right_fits : (x y : ℤ) → fits x ≡ true → fits (right_shifted x y) ≡ true
right_fits x y fx = right_within x (2 ^ shift_by y) fx

-- ---- bit by bit

module _ (x y : ℤ) (fx : fits x ≡ true) (fy : fits y ≡ true) where
  and_small : bit_and (bits_of x) (bits_of y) < 2 ^ 32
  and_small = let h = and_le_l (bits_of x) (bits_of y) in let e = bits_is x fx in let s = word_small x fx in omega (arith, h, e, s)

  bits_small : bits_of x < 2 ^ 32
  bits_small = let e = bits_is x fx in let s = word_small x fx in omega (arith, e, s)

  other_small : bits_of y < 2 ^ 32
  other_small = let e = bits_is y fy in let s = word_small y fy in omega (arith, e, s)

  pub and_is : bit_and (word x) (word y) ≡ word (int_of (bit_and (bits_of x) (bits_of y)))
  and_is = ap₂ bit_and (sym (bits_is x fx)) (sym (bits_is y fy)) ∙ sym (int_word _ and_small)

  pub and_fits : fits (int_of (bit_and (bits_of x) (bits_of y))) ≡ true
  and_fits = int_fits _ and_small

  pub or_is : bit_or (word x) (word y) ≡ word (int_of (bit_or (bits_of x) (bits_of y)))
  or_is = ap₂ bit_or (sym (bits_is x fx)) (sym (bits_is y fy)) ∙ sym (int_word _ (or_lt 32 (bits_of x) (bits_of y) bits_small other_small))

  pub or_fits : fits (int_of (bit_or (bits_of x) (bits_of y))) ≡ true
  or_fits = int_fits _ (or_lt 32 (bits_of x) (bits_of y) bits_small other_small)

  pub xor_is : bit_xor (word x) (word y) ≡ word (int_of (bit_xor (bits_of x) (bits_of y)))
  xor_is = ap₂ bit_xor (sym (bits_is x fx)) (sym (bits_is y fy)) ∙ sym (int_word _ (xor_lt 32 (bits_of x) (bits_of y) bits_small other_small))

  pub xor_fits : fits (int_of (bit_xor (bits_of x) (bits_of y))) ≡ true
  xor_fits = int_fits _ (xor_lt 32 (bits_of x) (bits_of y) bits_small other_small)

-- Operations on ints give ints.
use Rattle.std.proofs.Common.{rules, ◌≡◌, IsTrue, ℕ, zero, suc, ◌*◌, ◌%◌, ◌^◌, ◌<◌, ℤ, pos, negsuc, ◌-ℤ◌, ◌+ℤ◌, ◌*ℤ◌, int_div, int_rem}
use Rattle.std.proofs.Common.{ap, subst, arith, mod-lt, bit_and}
use Rattle.std.specs.Int.{int_div_euclid}
use Rattle.std.proofs.lemmas.Nat.{and_le_l, or_lt, xor_lt}
use Rattle.nim_program.specs.declared.operation.Operator.{Operator}
use Rattle.nim_program.specs.declared.operation.Operator.TheVariants as O
use Rattle.nim_program.specs.Ints.{fits, Checked, Fine, Trapped, checked, unless_zero, bits_of, signed, shift_by, applied, low_byte}

pub rem_fits : (x y : ℤ) → IsTrue (fits x) → IsTrue (fits (int_rem x y))
rem_fits x y h = search rules

pub low_byte_is : (z : ℤ) (turns word : ℕ) → z +ℤ pos (turns * 256) ≡ pos word → low_byte z ≡ word % 256
low_byte_is z turns word e = search rules

bits_below : (z : ℤ) → bits_of z < 2 ^ 32
bits_below (pos n) = mod-lt n (omega arith)
bits_below (negsuc n) = omega arith

signed_fits : (n : ℕ) → n < 2 ^ 32 → IsTrue (fits (signed n))
signed_fits n h = search rules

shifted_fits : (x : ℤ) (n : ℕ) → IsTrue (fits x) → IsTrue (fits (int_div_euclid x (pos (2 ^ n))))
shifted_fits (pos x) n h = search rules
shifted_fits (negsuc x) n h = search rules

checked_fits : (x z : ℤ) → checked x ≡ Fine z → IsTrue (fits z)
checked_fits x z e = search rules

fine_or : Checked → ℤ
fine_or (Fine z) = z
fine_or (Trapped trap) = pos 0

is_fine : (a z : ℤ) → IsTrue (fits a) → Fine a ≡ Fine z → IsTrue (fits z)
unfolding fine_or
is_fine a z h e = subst (λ v. IsTrue (fits v)) (ap fine_or e) h

unless_zero_fits : (y a z : ℤ) → IsTrue (fits a) → unless_zero y (Fine a) ≡ Fine z → IsTrue (fits z)
unless_zero_fits (pos zero) a z h e = cc
unless_zero_fits (pos (suc n)) a z h e = is_fine a z h e
unless_zero_fits (negsuc n) a z h e = is_fine a z h e

unless_zero_checked : (y a z : ℤ) → unless_zero y (checked a) ≡ Fine z → IsTrue (fits z)
unless_zero_checked (pos zero) a z e = cc
unless_zero_checked (pos (suc n)) a z e = checked_fits a z e
unless_zero_checked (negsuc n) a z e = checked_fits a z e

and_below : (x y : ℤ) → bit_and (bits_of x) (bits_of y) < 2 ^ 32
and_below x y = omega (arith, and_le_l (bits_of x) (bits_of y), bits_below x)

pub applied_fits : (operator : Operator) (x y z : ℤ) → IsTrue (fits x) → applied operator x y ≡ Fine z → IsTrue (fits z)
applied_fits O.Add x y z h e = checked_fits (x +ℤ y) z e
applied_fits O.Subtract x y z h e = checked_fits (x -ℤ y) z e
applied_fits O.Multiply x y z h e = checked_fits (x *ℤ y) z e
applied_fits O.Divide x y z h e = unless_zero_checked y (int_div x y) z e
applied_fits O.Modulo x y z h e = unless_zero_fits y _ z (rem_fits x y h) e
applied_fits O.ShiftLeft x y z h e = is_fine _ z (signed_fits _ (mod-lt (bits_of x * 2 ^ shift_by y) (omega arith))) e
applied_fits O.ShiftRight x y z h e = is_fine _ z (shifted_fits x (shift_by y) h) e
applied_fits O.BitAnd x y z h e = is_fine _ z (signed_fits _ (and_below x y)) e
applied_fits O.BitOr x y z h e = is_fine _ z (signed_fits _ (or_lt 32 (bits_of x) (bits_of y) (bits_below x) (bits_below y))) e
applied_fits O.BitXor x y z h e = is_fine _ z (signed_fits _ (xor_lt 32 (bits_of x) (bits_of y) (bits_below x) (bits_below y))) e

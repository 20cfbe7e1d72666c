-- The operations on plain numbers. An int has 32 bits; a bool, a char and a member of an enum is its ordinal.
use Rattle.std.specs.Prelude.{ℕ, zero, suc, ◌-◌, ◌*◌, ◌^◌, ◌%◌, Bool, true, false, not, ◌&&◌, if◌then◌else◌}
use Rattle.std.specs.Prelude.{ℤ, pos, negsuc, ◌+ℤ◌, ◌-ℤ◌, ◌*ℤ◌, neg_ℤ}
use Rattle.std.specs.Prelude.{int_lt, int_le, int_div, int_rem, nat_lt, unsigned_abs, bit_and, bit_or, bit_xor}
use Rattle.std.specs.Ordering.{int_eq}
use Rattle.std.specs.Int.{int_rem_euclid, int_div_euclid}
use Rattle.nim_program.specs.declared.operation.UnaryOperator.{UnaryOperator}
use Rattle.nim_program.specs.declared.operation.UnaryOperator.TheVariants.{Plus, Negate, Complement, Not}
use Rattle.nim_program.specs.declared.operation.Operator.{Operator}
use Rattle.nim_program.specs.declared.operation.Operator.TheVariants.{Add, Subtract, Multiply, Divide, Modulo, ShiftLeft, ShiftRight, BitAnd, BitOr, BitXor}
use Rattle.nim_program.specs.declared.operation.Comparison.{Comparison}
use Rattle.nim_program.specs.declared.operation.Comparison.TheVariants.{Equal, Unequal, Less, AtMost, Greater, AtLeast}
use Rattle.nim_program.specs.Traps.{Trap, Overflow, DivisionByZero, OutOfRange}

-- the least and the greatest int; `negsuc n` is -(n + 1)
abbrev pub low : ℤ
low = negsuc (2 ^ 31 - 1)

abbrev pub high : ℤ
high = pos (2 ^ 31 - 1)

-- whether a number is an int
abbrev pub fits : ℤ → Bool
fits z = int_le low z && int_le z high

-- what an operation gives: a value, or a trap
pub data Checked : Type 0 where
  Fine : (value : ℤ) → Checked
  Trapped : (trap : Trap) → Checked

-- a number, where it is an int
abbrev pub checked : ℤ → Checked
checked z = if fits z then Fine z else Trapped Overflow

-- what a division gives, where its divisor is not zero
abbrev pub unless_zero : ℤ → Checked → Checked
unless_zero (pos zero) given = Trapped DivisionByZero
unless_zero (pos (suc n)) given = given
unless_zero (negsuc n) given = given

-- the 32 bits of an int, in two's complement, and the int of 32 bits
abbrev pub bits_of : ℤ → ℕ
bits_of z = unsigned_abs (int_rem_euclid z (pos (2 ^ 32)))

abbrev pub signed : ℕ → ℤ
signed n = if nat_lt n (2 ^ 31) then pos n else pos n -ℤ pos (2 ^ 32)

-- by how many bits a shift goes: the low five bits of its count
abbrev pub shift_by : ℤ → ℕ
shift_by z = bits_of z % 32

-- A quotient is rounded toward zero, and the remainder has the sign of the dividend: so `int_div` and `int_rem` are
-- defined. Of `low` and -1 the quotient is no int, and the remainder is 0. A shift to the left loses bits, one to the right
-- keeps the sign.
abbrev pub applied : Operator → ℤ → ℤ → Checked
applied Add x y = checked (x +ℤ y)
applied Subtract x y = checked (x -ℤ y)
applied Multiply x y = checked (x *ℤ y)
applied Divide x y = unless_zero y (checked (int_div x y))
applied Modulo x y = unless_zero y (Fine (int_rem x y))
applied ShiftLeft x y = Fine (signed ((bits_of x * 2 ^ shift_by y) % 2 ^ 32))
applied ShiftRight x y = Fine (int_div_euclid x (pos (2 ^ shift_by y)))
applied BitAnd x y = Fine (signed (bit_and (bits_of x) (bits_of y)))
applied BitOr x y = Fine (signed (bit_or (bits_of x) (bits_of y)))
applied BitXor x y = Fine (signed (bit_xor (bits_of x) (bits_of y)))

abbrev pub compared : Comparison → ℤ → ℤ → Bool
compared Equal x y = int_eq x y
compared Unequal x y = not (int_eq x y)
compared Less x y = int_lt x y
compared AtMost x y = int_le x y
compared Greater x y = int_lt y x
compared AtLeast x y = int_le y x

-- a bool as a number
abbrev pub truth : Bool → ℤ
truth true = pos 1
truth false = pos 0

abbrev pub is_true : ℤ → Bool
is_true z = not (int_eq z (pos 0))

abbrev pub applied_to : UnaryOperator → ℤ → Checked
applied_to Plus x = Fine x
applied_to Negate x = checked (neg_ℤ x)
applied_to Complement x = Fine (neg_ℤ x -ℤ pos 1)
applied_to Not x = Fine (truth (int_eq x (pos 0)))

-- whether a number is a position among so many
abbrev pub inside : ℤ → ℕ → Bool
inside z n = int_le (pos 0) z && int_lt z (pos n)

-- a number, where it is one of so many values
abbrev pub within : ℕ → ℤ → Checked
within values z = if inside z values then Fine z else Trapped OutOfRange

-- the low eight bits, in two's complement
abbrev pub low_byte : ℤ → ℕ
low_byte z = unsigned_abs (int_rem_euclid z (pos 256))

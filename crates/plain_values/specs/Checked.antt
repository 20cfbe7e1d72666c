-- What an operation of the code gives: a number or a trap.
use Rattle.std.specs.Prelude.{ℤ, Result, Ok, Err, Option, Some, None}
use Rattle.nim_program.specs.Traps.{Trap, Overflow, DivisionByZero, IndexOutOfBounds, OutOfRange, LengthChanged, CallDepth}
use Rattle.nim_program.specs.Ints.{Checked, Fine, Trapped}
use Rattle.plain_values.specs.declared.numbers.Trap.{Trap as RustTrap}
use Rattle.plain_values.specs.declared.numbers.Trap.TheVariants as X

abbrev pub trap_of : RustTrap → Trap
trap_of X.Overflow = Overflow
trap_of X.DivisionByZero = DivisionByZero
trap_of X.IndexOutOfBounds = IndexOutOfBounds
trap_of X.OutOfRange = OutOfRange
trap_of X.LengthChanged = LengthChanged
trap_of X.CallDepth = CallDepth

abbrev pub checked_of : Result ℤ RustTrap → Checked
checked_of (Ok z) = Fine z
checked_of (Err trap) = Trapped (trap_of trap)

-- a number, None where it is no int
abbrev pub or_overflow : Option ℤ → Checked
or_overflow (Some z) = Fine z
or_overflow None = Trapped Overflow

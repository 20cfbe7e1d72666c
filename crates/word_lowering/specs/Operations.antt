-- The word code of operations on ordinals. Each checks what its trap is for, and goes to the label of the trap at the end of the procedure.
-- No public contract speaks of it.
use Rattle.std.specs.Prelude.{ℕ, ◌^◌, ◌-◌, ℤ, ◌-ℤ◌, int_lt, min, Bool, true, false, List, ◌∷◌, if◌then◌else◌, unsigned_abs}
use Rattle.std.specs.Ordering.{int_eq}
use Rattle.std.specs.Int.{w32, cast_unsigned}
use Rattle.nim_program.specs.declared.operation.UnaryOperator.{UnaryOperator}
use Rattle.nim_program.specs.declared.operation.UnaryOperator.TheVariants as unary
use Rattle.nim_program.specs.declared.operation.Operator.{Operator}
use Rattle.nim_program.specs.declared.operation.Operator.TheVariants as binary
use Rattle.nim_program.specs.declared.operation.Comparison.{Comparison}
use Rattle.nim_program.specs.declared.operation.Comparison.TheVariants as comparison
use Rattle.nim_program.specs.Traps.{Trap, Overflow, DivisionByZero, IndexOutOfBounds, OutOfRange, NilDereference, LengthChanged, CallDepth, OutOfMemory}
use Rattle.word_code.specs.declared.word.WordOperation.{WordOperation}
use Rattle.word_code.specs.declared.word.WordOperation.TheVariants as operation
use Rattle.word_code.specs.declared.word.Test.TheVariants as test
use Rattle.word_code.specs.declared.word.WordInstr.{WordInstr}
use Rattle.word_code.specs.declared.word.WordInstr.TheVariants.{Label, Spend, SpendIf, Constant, Copy, Compute, Sum, Jump, Branch}
use Rattle.word_lowering.specs.declared.homes.TheConstants.{FIRST, SECOND, THIRD}

-- the word of an int, in two's complement
abbrev pub word : ℤ → ℕ
word z = cast_unsigned w32 z

-- the label of each trap
abbrev pub trap_label : Trap → ℕ
trap_label Overflow = 0
trap_label DivisionByZero = 1
trap_label IndexOutOfBounds = 2
trap_label OutOfRange = 3
trap_label LengthChanged = 4
trap_label CallDepth = 5
trap_label NilDereference = 6
trap_label OutOfMemory = 7

-- -1 and the least int
abbrev pub minus_one : ℕ
minus_one = 2 ^ 32 - 1

abbrev pub least : ℕ
least = 2 ^ 31

-- ---- operations: to a variable, from variables

-- what is in FIRST is no int where SECOND and THIRD differ
abbrev pub unless_differ : (to : ℕ) → List WordInstr → List WordInstr
unless_differ to k = Branch test.Unequal SECOND THIRD (trap_label Overflow) ∷ Copy to FIRST ∷ k

-- a sum is no int where it is less than the left, and the right isn't negative, or the other way round
abbrev pub sum_code : (to left right : ℕ) → List WordInstr → List WordInstr
sum_code to left right k =
    Compute FIRST operation.Add left right ∷ Compute SECOND operation.Less FIRST left
    ∷ Constant THIRD 0 ∷ Compute THIRD operation.Less right THIRD
    ∷ unless_differ to k

-- a difference, where it is greater
abbrev pub difference_code : (to left right : ℕ) → List WordInstr → List WordInstr
difference_code to left right k =
    Compute FIRST operation.Subtract left right ∷ Compute SECOND operation.Less left FIRST
    ∷ Constant THIRD 0 ∷ Compute THIRD operation.Less right THIRD
    ∷ unless_differ to k

-- a product is one where its high word is made of the sign of the low one
abbrev pub product_code : (to left right : ℕ) → List WordInstr → List WordInstr
product_code to left right k =
    Compute FIRST operation.Multiply left right ∷ Compute SECOND operation.MultiplyHigh left right
    ∷ Constant THIRD 31 ∷ Compute THIRD operation.ShiftRightSigned FIRST THIRD
    ∷ unless_differ to k

abbrev pub divisor_code : (right : ℕ) → List WordInstr → List WordInstr
divisor_code right k = Constant FIRST 0 ∷ Branch test.Equal right FIRST (trap_label DivisionByZero) ∷ k

-- the quotient of the least int and -1 is none
abbrev pub divided_code : (label to left right : ℕ) → List WordInstr → List WordInstr
divided_code label to left right k =
    Constant FIRST minus_one ∷ Branch test.Unequal right FIRST label
    ∷ Constant FIRST least ∷ Branch test.Equal left FIRST (trap_label Overflow)
    ∷ Label label
    ∷ Compute to operation.Divide left right
    ∷ k

abbrev pub quotient_code : (label to left right : ℕ) → List WordInstr → List WordInstr
quotient_code label to left right k = divisor_code right (divided_code label to left right k)

-- one line of the machine
abbrev pub computed_code : WordOperation → (to left right : ℕ) → List WordInstr → List WordInstr
computed_code operation to left right k = Compute to operation left right ∷ k

-- some operations have a label of their own
abbrev pub binary_code : (label : ℕ) → Operator → (to left right : ℕ) → List WordInstr → List WordInstr
binary_code label binary.Add to left right k = sum_code to left right k
binary_code label binary.Subtract to left right k = difference_code to left right k
binary_code label binary.Multiply to left right k = product_code to left right k
binary_code label binary.Divide to left right k = quotient_code label to left right k
binary_code label binary.Modulo to left right k = divisor_code right (Compute to operation.Remainder left right ∷ k)
binary_code label binary.ShiftLeft to left right k = computed_code operation.ShiftLeft to left right k
binary_code label binary.ShiftRight to left right k = computed_code operation.ShiftRightSigned to left right k
binary_code label binary.BitAnd to left right k = computed_code operation.And to left right k
binary_code label binary.BitOr to left right k = computed_code operation.Or to left right k
binary_code label binary.BitXor to left right k = computed_code operation.Xor to left right k

-- the least int has no opposite; the complement of a number is -1 less it
abbrev pub unary_code : UnaryOperator → (to from : ℕ) → List WordInstr → List WordInstr
unary_code unary.Plus to from k = Copy to from ∷ k
unary_code unary.Negate to from k =
    Constant FIRST least ∷ Branch test.Equal from FIRST (trap_label Overflow) ∷ Constant FIRST 0 ∷ Compute to operation.Subtract FIRST from ∷ k
unary_code unary.Complement to from k = Constant FIRST minus_one ∷ Compute to operation.Subtract FIRST from ∷ k
unary_code unary.Not to from k = Constant FIRST 1 ∷ Compute to operation.Below from FIRST ∷ k

-- 1 where it doesn't hold
abbrev pub opposite_code : (to left right : ℕ) → List WordInstr → List WordInstr
opposite_code to left right k =
    Compute FIRST operation.Less left right ∷ Constant SECOND 1 ∷ Compute to operation.Subtract SECOND FIRST ∷ k

-- numbers are equal where their difference is below 1
abbrev pub compare_code : Comparison → (to left right : ℕ) → List WordInstr → List WordInstr
compare_code comparison.Equal to left right k =
    Compute FIRST operation.Subtract left right ∷ Constant SECOND 1 ∷ Compute to operation.Below FIRST SECOND ∷ k
compare_code comparison.Unequal to left right k =
    Compute FIRST operation.Subtract left right ∷ Constant SECOND 0 ∷ Compute to operation.Below SECOND FIRST ∷ k
compare_code comparison.Less to left right k = computed_code operation.Less to left right k
compare_code comparison.AtMost to left right k = opposite_code to right left k
compare_code comparison.Greater to left right k = computed_code operation.Less to right left k
compare_code comparison.AtLeast to left right k = opposite_code to left right k

-- ---- checks and branches

-- as an unsigned number a negative one is beyond all others
abbrev pub narrow_code : (to from values : ℕ) → List WordInstr → List WordInstr
narrow_code to from values k =
    Constant FIRST (min values least) ∷ Branch test.NotBelow from FIRST (trap_label OutOfRange) ∷ Copy to from ∷ k

abbrev pub unless_code : (from label : ℕ) → List WordInstr → List WordInstr
unless_code from label k = Constant FIRST 0 ∷ Branch test.Equal from FIRST label ∷ k

-- one of the numbers from one to another: how far it is above the first, as an unsigned number
abbrev pub fits_code : (from label : ℕ) → (low high : ℤ) → List WordInstr → List WordInstr
fits_code from label low high k =
    if int_lt high low then k else
    if int_eq low high then Constant FIRST (word low) ∷ Branch test.Equal from FIRST label ∷ k else
    Constant FIRST (word low) ∷ Compute FIRST operation.Subtract from FIRST ∷ Constant SECOND (unsigned_abs (high -ℤ low))
    ∷ Branch test.NotBelow SECOND FIRST label
    ∷ k

-- the opposite
-- a turn begins at a label, unless the word is 0
abbrev pub turn_if_code : (from label : ℕ) → List WordInstr → List WordInstr
turn_if_code from label k = Constant FIRST 0 ∷ SpendIf test.Unequal from FIRST ∷ Branch test.Unequal from FIRST label ∷ k

-- ---- the numbers of loops

-- on at a label where a number is none of the loop
abbrev pub beyond_code : (inclusive : Bool) → (counter last label : ℕ) → List WordInstr → List WordInstr
beyond_code true counter last label k = Branch test.Less last counter label ∷ k
beyond_code false counter last label k = Branch test.AtLeast counter last label ∷ k

-- A number that is less than the last one has a next one. Where the last one is none of the loop, that has to be less too, which is so where the
-- number is less than the last one less 1, and less than that one.
abbrev pub unless_less : (inclusive : Bool) → (counter last label : ℕ) → List WordInstr → List WordInstr
unless_less true counter last label k = Branch test.AtLeast counter last label ∷ k
unless_less false counter last label k =
    Compute FIRST operation.Less counter last ∷ Compute SECOND operation.Subtract last FIRST ∷ Branch test.AtLeast counter SECOND label ∷ k

-- the next turn begins at a label, unless there is none: then on at the code's own one
abbrev pub turn_code : (own counter last : ℕ) → (inclusive : Bool) → (label : ℕ) → List WordInstr → List WordInstr
turn_code own counter last inclusive label k =
    unless_less inclusive counter last own (Spend ∷ Sum counter counter 1 ∷ Jump label ∷ Label own ∷ k)

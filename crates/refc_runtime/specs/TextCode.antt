-- The code of the routines on the bytes of texts.
use Rattle.std.specs.Prelude.{List, [], ◌∷◌}
use Rattle.rv32_isa.specs.declared.micro_op.Size.TheVariants.{Byte, Word as whole}
use Rattle.word_code.specs.declared.word.WordOperation.TheVariants as operation
use Rattle.word_code.specs.declared.word.Test.TheVariants as test
use Rattle.word_code.specs.declared.word.WordInstr.{WordInstr}
use Rattle.word_code.specs.declared.word.WordInstr.TheVariants.{Label, Constant, Sum, Compute, Load, Store, Jump, Branch, Argument, Call, Return}
use Rattle.heap_memory.specs.declared.numbers.TheConstants.{TAKE, GIVE, CLASS}
use Rattle.refc_runtime.specs.declared.heap.TheConstants.{HEADER_LESS, KIND_LESS}
use Rattle.refc_runtime.specs.declared.routines.TheConstants.{ONE_LESS}
use Rattle.heap_memory.specs.declared.numbers.TheConstants.{MOVE}

-- a byte at a time, until the address in 1 is that in 3
abbrev pub byte_lines : List WordInstr
byte_lines =
    Label 1
    ∷ Branch test.Equal 1 3 2
    ∷ Load 4 1 Byte
    ∷ Store 0 4 Byte
    ∷ Sum 0 0 1
    ∷ Sum 1 1 1
    ∷ Jump 1
    ∷ Label 2
    ∷ Return 0
    ∷ []

-- a word at a time, as long as four bytes are left
abbrev pub whole_lines : List WordInstr
whole_lines =
    Label 0
    ∷ Compute 4 operation.Subtract 3 1
    ∷ Branch test.Below 4 5 1
    ∷ Load 4 1 whole
    ∷ Store 0 4 whole
    ∷ Sum 0 0 4
    ∷ Sum 1 1 4
    ∷ Jump 0
    ∷ byte_lines

-- To the address in 0 as many bytes from that in 1 as 2 says: words where both are addresses of words. Behind the last byte is 3.
abbrev pub move_lines : List WordInstr
move_lines =
    Compute 3 operation.Add 1 2
    ∷ Constant 5 4
    ∷ Constant 6 0
    ∷ Compute 4 operation.RemainderUnsigned 0 5
    ∷ Branch test.Unequal 4 6 1
    ∷ Compute 4 operation.RemainderUnsigned 1 5
    ∷ Branch test.Unequal 4 6 1
    ∷ whole_lines

-- the new block is in 4, and the present one, if there is one, in 0
abbrev pub grown_lines : List WordInstr
grown_lines =
    Branch test.Equal 0 3 1
    ∷ Argument 0 4
    ∷ Argument 1 0
    ∷ Argument 2 1
    ∷ Call 5 MOVE
    ∷ Argument 0 0
    ∷ Call 5 GIVE
    ∷ Label 1
    ∷ Return 4
    ∷ []

-- a block is taken for as many bytes as 2 says
abbrev pub larger_lines : List WordInstr
larger_lines =
    Label 0
    ∷ Argument 0 2
    ∷ Call 4 CLASS
    ∷ Argument 0 4
    ∷ Call 4 TAKE
    ∷ grown_lines

-- there is no block; where no bytes are wanted there is none then
abbrev pub none_lines : List WordInstr
none_lines = Label 2 ∷ Branch test.Unequal 2 3 0 ∷ Return 0 ∷ larger_lines

-- how many bytes the present block, in 0, has room for comes to 5
abbrev pub present_lines : List WordInstr
present_lines =
    Sum 4 0 HEADER_LESS
    ∷ Load 4 4 whole
    ∷ Sum 4 4 KIND_LESS
    ∷ Constant 5 8
    ∷ Compute 5 operation.ShiftLeft 5 4
    ∷ Sum 5 5 HEADER_LESS
    ∷ Branch test.Below 5 2 0
    ∷ Return 0
    ∷ none_lines

-- Of the payload in 0, which is 0 where there is none, as many bytes are kept as 1 says, and as many are wanted as 2 says.
abbrev pub grow_lines : List WordInstr
grow_lines = Constant 3 0 ∷ Branch test.Equal 0 3 2 ∷ present_lines

-- what the answers are: equal, or the right has more; above; below
abbrev pub below_lines : List WordInstr
below_lines = Label 3 ∷ Constant 4 ONE_LESS ∷ Return 4 ∷ []

abbrev pub above_lines : List WordInstr
above_lines = Label 2 ∷ Constant 4 1 ∷ Return 4 ∷ below_lines

abbrev pub over_lines : List WordInstr
over_lines = Label 1 ∷ Branch test.Unequal 2 5 3 ∷ Constant 4 0 ∷ Return 4 ∷ above_lines

-- a byte of each at a time, from the addresses in 0 and 2 to those in 4 and 5
abbrev pub pair_lines : List WordInstr
pair_lines =
    Label 0
    ∷ Branch test.Equal 0 4 1
    ∷ Branch test.Equal 2 5 2
    ∷ Load 6 0 Byte
    ∷ Load 7 2 Byte
    ∷ Branch test.Below 6 7 3
    ∷ Branch test.Below 7 6 2
    ∷ Sum 0 0 1
    ∷ Sum 2 2 1
    ∷ Jump 0
    ∷ over_lines

-- as many bytes from the address in 0 as 1 says, and as many from that in 2 as 3 says
abbrev pub order_lines : List WordInstr
order_lines = Compute 4 operation.Add 0 1 ∷ Compute 5 operation.Add 2 3 ∷ pair_lines

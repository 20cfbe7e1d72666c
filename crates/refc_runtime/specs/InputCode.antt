-- The code of the routine that reads a line of the input.
use Rattle.std.specs.Prelude.{List, [], ◌∷◌}
use Rattle.rv32_isa.specs.declared.micro_op.Size.TheVariants.{Byte, Word as whole}
use Rattle.word_code.specs.declared.word.WordOperation.TheVariants as operation
use Rattle.word_code.specs.declared.word.Test.TheVariants as test
use Rattle.word_code.specs.declared.word.WordInstr.{WordInstr}
use Rattle.word_code.specs.declared.word.WordInstr.TheVariants.{Label, Constant, Copy, Sum, Compute, Load, Store, Jump, Branch, Argument, Call, Return, Read}
use Rattle.heap_memory.specs.declared.numbers.TheConstants.{GROW}

-- the text's length and block are put to the address in 0
abbrev pub line_end_lines : List WordInstr
line_end_lines = Label 3 ∷ Store 0 2 whole ∷ Sum 7 0 4 ∷ Store 7 1 whole ∷ Return 3 ∷ []

-- the character in 5 comes to the text; the next one is in 6, unless 4 is 0
abbrev pub char_lines : List WordInstr
char_lines =
    Label 2
    ∷ Sum 7 2 1
    ∷ Argument 0 1
    ∷ Argument 1 2
    ∷ Argument 2 7
    ∷ Call 1 GROW
    ∷ Compute 7 operation.Add 1 2
    ∷ Store 7 5 Byte
    ∷ Sum 2 2 1
    ∷ Branch test.Equal 4 8 3
    ∷ Copy 5 6
    ∷ Jump 1
    ∷ line_end_lines

-- The character in 5 was read. The one behind it is read before it is known whether it comes to the text: a carriage return doesn't before a line feed.
abbrev pub line_lines : List WordInstr
line_lines =
    Label 1
    ∷ Constant 7 10
    ∷ Branch test.Equal 5 7 3
    ∷ Read 4 0 3
    ∷ Branch test.Equal 4 8 2
    ∷ Load 6 0 Byte
    ∷ Branch test.Unequal 6 7 2
    ∷ Constant 7 13
    ∷ Branch test.Equal 5 7 3
    ∷ char_lines

-- The text is in the block in 1, with as many characters as 2 says. The address in 0 gets each character that is read.
abbrev pub read_lines : List WordInstr
read_lines =
    Constant 1 0
    ∷ Constant 2 0
    ∷ Constant 3 1
    ∷ Constant 8 0
    ∷ Read 4 0 3
    ∷ Branch test.Unequal 4 8 0
    ∷ Return 4
    ∷ Label 0
    ∷ Load 5 0 Byte
    ∷ line_lines

-- The code of the routines by which texts get other lengths and more characters.
use Rattle.std.specs.Prelude.{List, [], ◌∷◌}
use Rattle.rv32_isa.specs.declared.micro_op.Size.TheVariants.{Byte}
use Rattle.word_code.specs.declared.word.WordOperation.TheVariants as operation
use Rattle.word_code.specs.declared.word.Test.TheVariants as test
use Rattle.word_code.specs.declared.word.WordInstr.{WordInstr}
use Rattle.word_code.specs.declared.word.WordInstr.TheVariants.{Label, Constant, Copy, Sum, Compute, Store, Branch, Argument, Call, Return}
use Rattle.heap_memory.specs.declared.numbers.TheConstants.{GIVE}
use Rattle.heap_memory.specs.declared.numbers.TheConstants.{MOVE, GROW}

-- the place in 0 is 0 where there is no block
abbrev pub release_lines : List WordInstr
release_lines = Constant 1 0 ∷ Branch test.Equal 0 1 0 ∷ Argument 0 0 ∷ Call 1 GIVE ∷ Label 0 ∷ Return 0 ∷ []

-- to the text in the block in 4, which has as many bytes as 1 says, come as many as 3 says, from the address in 2
abbrev pub put_behind_lines : List WordInstr
put_behind_lines =
    Label 0
    ∷ Compute 5 operation.Add 4 1
    ∷ Argument 0 5
    ∷ Argument 1 2
    ∷ Argument 2 3
    ∷ Call 5 MOVE
    ∷ Return 4
    ∷ []

-- The bytes of a text that is put behind itself are in the new block.
abbrev pub append_lines : List WordInstr
append_lines =
    Compute 5 operation.Add 1 3
    ∷ Argument 0 0
    ∷ Argument 1 1
    ∷ Argument 2 5
    ∷ Call 4 GROW
    ∷ Branch test.Unequal 0 2 0
    ∷ Copy 2 4
    ∷ put_behind_lines

-- Of the text at the address in 0, with as many bytes as 1 says, and that at the address in 2, with as many as 3 says: the new block is in 4.
abbrev pub join_lines : List WordInstr
join_lines =
    Compute 4 operation.Add 1 3
    ∷ Constant 5 0
    ∷ Argument 0 5
    ∷ Argument 1 5
    ∷ Argument 2 4
    ∷ Call 4 GROW
    ∷ Argument 0 4
    ∷ Argument 1 0
    ∷ Argument 2 1
    ∷ Call 5 MOVE
    ∷ Compute 5 operation.Add 4 1
    ∷ Argument 0 5
    ∷ Argument 1 2
    ∷ Argument 2 3
    ∷ Call 5 MOVE
    ∷ Return 4
    ∷ []

-- zeros from the address in 4 to that in 5, of which there is at least one
abbrev pub zero_lines : List WordInstr
zero_lines = Label 1 ∷ Store 4 6 Byte ∷ Sum 4 4 1 ∷ Branch test.Unequal 4 5 1 ∷ Return 3 ∷ []

-- Of the text in the block in 0, which has as many bytes as 1 says, as many are wanted as 2 says.
abbrev pub resize_lines : List WordInstr
resize_lines =
    Branch test.Below 1 2 0
    ∷ Return 0
    ∷ Label 0
    ∷ Argument 0 0
    ∷ Argument 1 1
    ∷ Argument 2 2
    ∷ Call 3 GROW
    ∷ Compute 4 operation.Add 3 1
    ∷ Compute 5 operation.Add 3 2
    ∷ Constant 6 0
    ∷ zero_lines

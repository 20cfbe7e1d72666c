-- Parts of the routines that spell a number, in front of what they do with its text.
use Rattle.std.proofs.Common.{List, ◌∷◌}
use Rattle.rv32_isa.specs.declared.micro_op.Size.TheVariants.{Byte}
use Rattle.word_code.specs.declared.word.WordOperation.TheVariants.{Subtract, DivideUnsigned, RemainderUnsigned}
use Rattle.word_code.specs.declared.word.Test.TheVariants as test
use Rattle.word_code.specs.declared.word.WordInstr.{WordInstr}
use Rattle.word_code.specs.declared.word.WordInstr.TheVariants.{Label, Constant, Copy, Sum, Compute, Store, Jump, Branch}
use Rattle.refc_runtime.specs.declared.routines.TheConstants.{ONE_LESS}

-- the last character
abbrev pub last_lines : List WordInstr → List WordInstr
last_lines lines = Label 2 ∷ Store 2 6 Byte ∷ lines

-- the character is put, and another one is to stand before it
abbrev pub put_lines : List WordInstr → List WordInstr
put_lines lines = Store 2 6 Byte ∷ Sum 2 2 ONE_LESS ∷ lines

abbrev pub sign_lines : List WordInstr → List WordInstr
sign_lines lines = Branch test.AtLeast 0 4 2 ∷ put_lines (Constant 6 45 ∷ last_lines lines)

abbrev pub again_lines : List WordInstr → List WordInstr
again_lines lines = Branch test.Unequal 1 4 0 ∷ sign_lines lines

abbrev pub digit_lines : List WordInstr → List WordInstr
digit_lines lines = Label 1 ∷ Compute 6 RemainderUnsigned 1 5 ∷ Sum 6 6 48 ∷ Compute 1 DivideUnsigned 1 5 ∷ again_lines lines

abbrev pub more_lines : List WordInstr → List WordInstr
more_lines lines = Label 0 ∷ put_lines (digit_lines lines)

-- what has several characters
abbrev pub long_lines : List WordInstr → List WordInstr
long_lines lines = Constant 4 0 ∷ Branch test.AtLeast 1 4 1 ∷ Compute 1 Subtract 4 1 ∷ Jump 1 ∷ more_lines lines

-- the address of the last character comes to 2 by the second line
abbrev pub front_lines : WordInstr → List WordInstr → List WordInstr
front_lines second lines = Constant 5 10 ∷ second ∷ Copy 1 0 ∷ Sum 6 1 48 ∷ Branch test.Below 1 5 2 ∷ long_lines lines

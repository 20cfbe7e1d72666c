-- How many parts a constant has.
use Rattle.std.proofs.Common.{◌≡◌, suc, List, [], ◌∷◌, length, refl, ap}
use Rattle.nim_program.specs.declared.expr.Literal.{Literal}
use Rattle.nim_program.specs.View.{literals_of}
use Rattle.flat_code.specs.Pieces.{count_of}

pub count_is : (all : List Literal) → count_of (literals_of all) ≡ length all
count_is [] = refl
count_is (first ∷ rest) = ap suc (count_is rest)

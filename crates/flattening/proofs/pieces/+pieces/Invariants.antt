use Rattle.std.proofs.Common.{◌≡◌, ◌++◌, drop}
use Rattle.nim_program.specs.View.{literals_of}
use Rattle.flat_code.specs.Pieces.{pieces_of_all}
use Rattle.flattening.proofs.pieces.+pieces.Given as goal

abbrev pub invariant-add_all-loop-literal : goal.invariant-add_all-loop-literal
invariant-add_all-loop-literal l =
    l.pieces ++ pieces_of_all (literals_of (drop l.literal-index l.all.items)) ≡ l.fn.pieces ++ pieces_of_all (literals_of l.all.items)

use Rattle.std.proofs.Common.{◌≡◌, ◌++◌, List, drop}
use Rattle.rv32_isa.specs.declared.label.LabelLine.{LabelLine as Line}
use Rattle.rv32_codegen.specs.Code.{does}
use Rattle.rv32_codegen.proofs.pieces.emit.Given as goal

-- with the instructions that are left, they are all
abbrev pub invariant-loop-i : goal.invariant-loop-i
invariant-loop-i l = (k : List Line) → l.lines ++ does (drop l.i-index l.is) k ≡ l.initial.lines ++ does l.is k

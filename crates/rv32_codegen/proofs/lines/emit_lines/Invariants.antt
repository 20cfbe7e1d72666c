use Rattle.std.proofs.Common.{◌≡◌, ◌++◌, List, drop}
use Rattle.rv32_isa.specs.declared.label.LabelLine.{LabelLine as Line}
use Rattle.rv32_codegen.specs.Code.{lines_code}
use Rattle.rv32_codegen.proofs.lines.emit_lines.Given as goal

-- with the code of the lines that are left, it is that of all
abbrev pub invariant-loop-line : goal.invariant-loop-line
invariant-loop-line l =
    (k : List Line) → l.lines ++ lines_code l.homes l.proc (drop l.line-index l.words) k ≡ l.initial.lines ++ lines_code l.homes l.proc l.words k

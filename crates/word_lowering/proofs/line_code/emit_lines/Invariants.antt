use Rattle.std.proofs.Common.{◌≡◌, ◌++◌, List, length, map}
use Rattle.flat_code.specs.Codes.{block_plain}
use Rattle.word_code.specs.declared.word.WordInstr.{WordInstr}
use Rattle.word_lowering.specs.LineCode.{labels_in, lines_code}
use Rattle.word_lowering.specs.Scope.{around_of}
use Rattle.word_lowering.proofs.line_code.emit_lines.Given as goal

-- with the code of the lines that are left, it is all; and how many labels these have is known
abbrev pub invariant-loop-line : goal.invariant-loop-line
invariant-loop-line l = record {
  code : (k : List WordInstr) → l.code ++ lines_code (around_of l.x) (map block_plain l.left) k
      ≡ l.initial.code ++ lines_code (around_of l.x) (map block_plain l.lines) k;
  labels : l.labels ≡ labels_in (map block_plain l.left);
}

abbrev pub decreases-loop-line : goal.decreases-loop-line
decreases-loop-line l = length l.left

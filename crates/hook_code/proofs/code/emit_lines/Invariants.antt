use Rattle.std.proofs.Common.{◌≡◌, ◌++◌, List, drop}
use Rattle.word_code.specs.declared.word.WordInstr.{WordInstr}
use Rattle.hook_code.specs.HookCode.{lines_code}
use Rattle.hook_code.proofs.code.emit_lines.Given as goal

-- with the code of the lines that are left, it is all
abbrev pub invariant-loop-line : goal.invariant-loop-line
invariant-loop-line l = (k : List WordInstr) → l.code ++ lines_code l.x.types.now l.x.first l.x.ty (drop l.line-index l.lines) k
    ≡ l.initial.code ++ lines_code l.x.types.now l.x.first l.x.ty l.lines k

use Rattle.std.proofs.Common.{◌≡◌, ◌++◌, drop}
use Rattle.hook_code.proofs.emit.emit.Given as goal

-- with what is left, it is all
abbrev pub invariant-loop-line : goal.invariant-loop-line
invariant-loop-line l = l.code ++ drop l.line-index l.lines ≡ l.initial.code ++ l.lines

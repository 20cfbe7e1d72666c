use Rattle.std.proofs.Common.{◌≡◌, ◌++◌, drop}
use Rattle.refc_runtime.proofs.routines.lines_of.Given as goal

-- with the lines that are left, they are all
abbrev pub invariant-loop-line : goal.invariant-loop-line
invariant-loop-line l = l.all ++ drop l.line-index l.lines ≡ l.front ++ l.lines

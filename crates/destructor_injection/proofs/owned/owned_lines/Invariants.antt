use Rattle.std.proofs.Common.{◌≡◌, ◌++◌, drop, map}
use Rattle.nim_plan.specs.Order.{IsInOrder}
use Rattle.flat_code.specs.Codes.{under}
use Rattle.destructor_injection.proofs.owned.owned_lines.Given as goal

-- with the lines that are left, they are all
abbrev pub invariant-loop-line : goal.invariant-loop-line
invariant-loop-line l = IsInOrder l.plan → l.owned ++ map (under l.plan) (drop l.line-index l.lines) ≡ map (under l.plan) l.lines

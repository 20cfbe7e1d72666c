use Rattle.std.proofs.Common.{◌≡◌, take, length}
use Rattle.expr_parts.proofs.decls.Decls.leave.Given as goal

abbrev pub invariant-loop-self : goal.invariant-loop-self
invariant-loop-self l = take l.fn.count l.self ≡ take l.fn.count l.fn.self

abbrev pub decreases-loop-self : goal.decreases-loop-self
decreases-loop-self l = length l.self

use Rattle.std.proofs.Common.{◌-◌, suc, length}
use Rattle.nim_tree.specs.Statements.{statements_of}
use Rattle.parse_exprs.specs.Input.{from_at, origin_of}
use Rattle.parse_decls.specs.Gives.{SoFar}
use Rattle.parse_stmts.specs.Run.{run_line}
use Rattle.parse_stmts.proofs.Steps.{run_more_line}
use Rattle.parse_stmts.proofs.line.read_line.Given as goal

abbrev pub invariant-loop-behind : goal.invariant-loop-behind
invariant-loop-behind l = SoFar (λ k. run_more_line k (origin_of l.input) l.spaces (statements_of l.all.items) (from_at l.input l.next))
    (λ k. run_line k (origin_of l.input) l.spaces (statements_of l.fn.some.items) (from_at l.input l.fn.at)) l.input (suc l.fn.at) l.next

abbrev pub decreases-loop-behind : goal.decreases-loop-behind
decreases-loop-behind l = length l.input.tokens.now - l.next

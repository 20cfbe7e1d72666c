use Rattle.std.proofs.Common.{◌-◌, length}
use Rattle.parse_exprs.specs.Input.{origin_of, from_at}
use Rattle.parse_decls.specs.Run.{run_pragmas, run_more_pragmas}
use Rattle.parse_decls.specs.Gives.{SoFar}
use Rattle.parse_decls.proofs.pragmas.read_pragmas.Given as goal

abbrev pub invariant-loop-at : goal.invariant-loop-at
invariant-loop-at l = SoFar (λ k. run_more_pragmas k (origin_of l.input) l.pragmas.items (from_at l.input l.next))
    (λ k. run_pragmas k (origin_of l.input) l.fn.layout (from_at l.input l.fn.at)) l.input l.fn.at l.next

abbrev pub decreases-loop-at : goal.decreases-loop-at
decreases-loop-at l = length l.input.tokens.now - l.next

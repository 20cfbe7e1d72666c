use Rattle.std.proofs.Common.{suc, ◌-◌, length}
use Rattle.parse_exprs.specs.Input.{origin_of, from_at}
use Rattle.parse_decls.specs.Run.{run_names, run_more_names}
use Rattle.parse_decls.specs.Gives.{SoFar}
use Rattle.parse_decls.proofs.name.read_names.Given as goal

abbrev pub invariant-loop-alloc : goal.invariant-loop-alloc
invariant-loop-alloc l = SoFar (λ k. run_more_names k (origin_of l.input) l.layout l.names.items (from_at l.input l.next))
    (λ k. run_names k (origin_of l.input) l.layout (from_at l.input l.fn.at)) l.input (suc l.fn.at) l.next

abbrev pub decreases-loop-alloc : goal.decreases-loop-alloc
decreases-loop-alloc l = length l.input.tokens.now - l.next

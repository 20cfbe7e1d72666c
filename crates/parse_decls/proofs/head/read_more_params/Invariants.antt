use Rattle.std.proofs.Common.{◌-◌, [], ◌∷◌, length}
use Rattle.std.specs.Prelude.{map}
use Rattle.nim_tree.specs.Statements.{parameters_of}
use Rattle.parse_exprs.specs.Input.{origin_of, from_at}
use Rattle.parse_decls.specs.Run.{run_more_params}
use Rattle.parse_decls.specs.Gives.{SoFar}
use Rattle.parse_decls.proofs.head.read_more_params.Given as goal

abbrev pub invariant-loop-alloc : goal.invariant-loop-alloc
invariant-loop-alloc l = SoFar (λ k. run_more_params k (origin_of l.input) (map parameters_of l.all.items) (from_at l.input l.next))
    (λ k. run_more_params k (origin_of l.input) (parameters_of l.fn.first.value ∷ []) (from_at l.input l.fn.first.next)) l.input l.fn.first.next l.next

abbrev pub decreases-loop-alloc : goal.decreases-loop-alloc
decreases-loop-alloc l = length l.input.tokens.now - l.next

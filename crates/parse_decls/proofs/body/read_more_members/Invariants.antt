use Rattle.std.proofs.Common.{◌-◌, [], ◌∷◌, length}
use Rattle.parse_exprs.specs.Input.{origin_of, from_at}
use Rattle.parse_decls.specs.Run.{run_more_members}
use Rattle.parse_decls.specs.Gives.{SoFar}
use Rattle.parse_decls.proofs.body.read_more_members.Given as goal

abbrev pub invariant-loop-alloc : goal.invariant-loop-alloc
invariant-loop-alloc l = SoFar (λ k. run_more_members k (origin_of l.input) l.spaces l.all.items (from_at l.input l.next))
    (λ k. run_more_members k (origin_of l.input) l.spaces (l.fn.first.value ∷ []) (from_at l.input l.fn.first.next)) l.input l.fn.first.next l.next

abbrev pub decreases-loop-alloc : goal.decreases-loop-alloc
decreases-loop-alloc l = length l.input.tokens.now - l.next

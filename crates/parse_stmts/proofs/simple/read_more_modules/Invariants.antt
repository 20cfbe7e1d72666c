use Rattle.std.proofs.Common.{◌-◌, ◌∷◌, [], length}
use Rattle.parse_exprs.specs.Input.{from_at, origin_of}
use Rattle.parse_decls.specs.Gives.{SoFar}
use Rattle.parse_stmts.specs.Run.{run_more_modules}
use Rattle.parse_stmts.proofs.simple.read_more_modules.Given as goal

abbrev pub invariant-loop-behind : goal.invariant-loop-behind
invariant-loop-behind l = SoFar (λ k. run_more_modules k (origin_of l.input) l.spaces l.names.items (from_at l.input l.next))
    (λ k. run_more_modules k (origin_of l.input) l.spaces (l.fn.first.value ∷ []) (from_at l.input l.fn.first.next)) l.input l.fn.first.next l.next

abbrev pub decreases-loop-behind : goal.decreases-loop-behind
decreases-loop-behind l = length l.input.tokens.now - l.next

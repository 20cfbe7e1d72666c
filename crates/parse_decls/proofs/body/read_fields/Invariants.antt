use Rattle.std.proofs.Common.{◌-◌, length}
use Rattle.nim_tree.specs.Types.{fields_of, no_fields}
use Rattle.parse_exprs.specs.Input.{origin_of, from_at}
use Rattle.parse_decls.specs.Run.{run_fields}
use Rattle.parse_decls.specs.Gives.{SoFar}
use Rattle.parse_decls.proofs.body.read_fields.Given as goal

abbrev pub invariant-loop-alloc : goal.invariant-loop-alloc
invariant-loop-alloc l = SoFar (λ k. run_fields k (origin_of l.input) l.spaces (fields_of l.all.items) (from_at l.input l.next))
    (λ k. run_fields k (origin_of l.input) l.spaces no_fields (from_at l.input l.fn.at)) l.input l.fn.at l.next

abbrev pub decreases-loop-alloc : goal.decreases-loop-alloc
decreases-loop-alloc l = length l.input.tokens.now - l.next

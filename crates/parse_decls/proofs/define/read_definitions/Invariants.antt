use Rattle.std.proofs.Common.{◌-◌, [], length}
use Rattle.std.specs.Prelude.{map}
use Rattle.nim_tree.specs.Statements.{definition_of}
use Rattle.parse_exprs.specs.Input.{origin_of, from_at}
use Rattle.parse_decls.specs.Run.{run_defs}
use Rattle.parse_decls.specs.Gives.{SoFar}
use Rattle.parse_decls.proofs.define.read_definitions.Given as goal

abbrev pub invariant-loop-alloc : goal.invariant-loop-alloc
invariant-loop-alloc l = SoFar (λ k. run_defs k (origin_of l.input) l.spaces (map definition_of l.all.items) (from_at l.input l.next))
    (λ k. run_defs k (origin_of l.input) l.spaces [] (from_at l.input l.fn.at)) l.input l.fn.at l.next

abbrev pub decreases-loop-alloc : goal.decreases-loop-alloc
decreases-loop-alloc l = length l.input.tokens.now - l.next

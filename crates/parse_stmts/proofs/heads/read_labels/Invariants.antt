use Rattle.std.proofs.Common.{◌-◌, length}
use Rattle.nim_tree.specs.Terms.{term_of, parts_of, part, no_parts}
use Rattle.parse_exprs.specs.Input.{from_at, origin_of}
use Rattle.parse_decls.specs.Gives.{SoFar}
use Rattle.parse_stmts.specs.Run.{run_labels}
use Rattle.parse_stmts.proofs.heads.read_labels.Given as goal

abbrev pub invariant-loop-behind : goal.invariant-loop-behind
invariant-loop-behind l = SoFar (λ k. run_labels k (origin_of l.input) l.spaces (parts_of l.labels.items) (from_at l.input l.next))
    (λ k. run_labels k (origin_of l.input) l.spaces (part (term_of l.fn.first.value) no_parts) (from_at l.input l.fn.first.next)) l.input l.fn.first.next l.next

abbrev pub decreases-loop-behind : goal.decreases-loop-behind
decreases-loop-behind l = length l.input.tokens.now - l.next

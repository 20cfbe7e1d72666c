use Rattle.std.proofs.Common.{◌+◌, ◌-◌, ◌*◌, suc, length}
use Rattle.nim_tree.specs.Terms.{term_of, parts_of, choices_of, levels, most_levels, levels_in}
use Rattle.parse_exprs.specs.Run.{run_level, run_chain, run_primary, run_suffixes, run_list, run_parts, run_elifs, run_labels, run_ofs}
use Rattle.parse_exprs.specs.Input.{origin_of, from_at}
use Rattle.parse_exprs.specs.Gives.{Onward}
use Rattle.parse_exprs.proofs.read.+exprs.Given as goal

abbrev pub decreases-operators::read_more : goal.decreases-operators::read_more
decreases-operators::read_more l = 20 * l.left

abbrev pub decreases-operators::read_applied : goal.decreases-operators::read_applied
decreases-operators::read_applied l = 20 * l.left

abbrev pub decreases-operators::read_signed : goal.decreases-operators::read_signed
decreases-operators::read_signed l = 20 * l.left

abbrev pub decreases-operators::read_suffix : goal.decreases-operators::read_suffix
decreases-operators::read_suffix l = 20 * l.left + 1

abbrev pub decreases-operators::read_primary : goal.decreases-operators::read_primary
decreases-operators::read_primary l = 20 * l.left + 2

abbrev pub decreases-operators::read_unsigned : goal.decreases-operators::read_unsigned
decreases-operators::read_unsigned l = 20 * l.left + 3

abbrev pub decreases-operators::read_unary : goal.decreases-operators::read_unary
decreases-operators::read_unary l = 20 * l.left + 4

abbrev pub decreases-operators::read_level : goal.decreases-operators::read_level
decreases-operators::read_level l = 20 * l.left + (l.level + 5)

abbrev pub decreases-operators::read_expr : goal.decreases-operators::read_expr
decreases-operators::read_expr l = 20 * l.left + 12

abbrev pub decreases-atoms::read_group : goal.decreases-atoms::read_group
decreases-atoms::read_group l = 20 * l.left

abbrev pub decreases-atoms::read_sequence : goal.decreases-atoms::read_sequence
decreases-atoms::read_sequence l = 20 * l.left

abbrev pub decreases-atoms::read_atom : goal.decreases-atoms::read_atom
decreases-atoms::read_atom l = 20 * l.left + 1

abbrev pub decreases-parts::read_enclosed : goal.decreases-parts::read_enclosed
decreases-parts::read_enclosed l = 20 * l.left + 16

abbrev pub decreases-parts::read_list : goal.decreases-parts::read_list
decreases-parts::read_list l = 20 * l.left + 15

abbrev pub decreases-parts::read_part : goal.decreases-parts::read_part
decreases-parts::read_part l = 20 * l.left + 14

abbrev pub decreases-parts::read_named : goal.decreases-parts::read_named
decreases-parts::read_named l = 20 * l.left + 13

abbrev pub decreases-branches::read_if : goal.decreases-branches::read_if
decreases-branches::read_if l = 20 * l.left

abbrev pub decreases-branches::read_otherwise : goal.decreases-branches::read_otherwise
decreases-branches::read_otherwise l = 20 * l.left

abbrev pub decreases-branches::read_branches : goal.decreases-branches::read_branches
decreases-branches::read_branches l = 20 * l.left + 1

abbrev pub decreases-branches::read_case : goal.decreases-branches::read_case
decreases-branches::read_case l = 20 * l.left + 2

abbrev pub decreases-branches::read_own_line : goal.decreases-branches::read_own_line
decreases-branches::read_own_line l = 20 * l.left + 13

abbrev pub decreases-branches::read_value : goal.decreases-branches::read_value
decreases-branches::read_value l = 20 * l.left + 14

abbrev pub decreases-branches::read_tail : goal.decreases-branches::read_tail
decreases-branches::read_tail l = 20 * l.left + 15

abbrev pub decreases-branches::read_else : goal.decreases-branches::read_else
decreases-branches::read_else l = 20 * l.left + 15

abbrev pub decreases-branches::read_elifs : goal.decreases-branches::read_elifs
decreases-branches::read_elifs l = 20 * l.left + 16

abbrev pub decreases-branches::read_label : goal.decreases-branches::read_label
decreases-branches::read_label l = 20 * l.left + 13

abbrev pub decreases-branches::read_labels : goal.decreases-branches::read_labels
decreases-branches::read_labels l = 20 * l.left + 14

abbrev pub decreases-branches::read_of : goal.decreases-branches::read_of
decreases-branches::read_of l = 20 * l.left + 15

abbrev pub decreases-branches::read_ofs : goal.decreases-branches::read_ofs
decreases-branches::read_ofs l = 20 * l.left + 16

abbrev pub invariant-operators::read_level-loop-op : goal.invariant-operators::read_level-loop-op
invariant-operators::read_level-loop-op l =
    Onward (λ k. run_chain k (origin_of l.input) l.rest l.tighter l.left (term_of l.a.tree) (from_at l.input l.a.next))
    (λ k. run_level k (origin_of l.input) l.fn.layout l.level l.left (from_at l.input l.at))
    l.input l.left (suc l.at) (levels (term_of l.a.tree)) l.a.next l.a.depth

abbrev pub decreases-operators::read_level-loop-op : goal.decreases-operators::read_level-loop-op
decreases-operators::read_level-loop-op l = length l.input.tokens.now - l.a.next

abbrev pub invariant-operators::read_primary-loop-alloc : goal.invariant-operators::read_primary-loop-alloc
invariant-operators::read_primary-loop-alloc l =
    Onward (λ k. run_suffixes k (origin_of l.input) l.layout l.command l.left (term_of l.a.tree) (from_at l.input l.a.next))
    (λ k. run_primary k (origin_of l.input) l.layout l.command l.left (from_at l.input l.at))
    l.input l.left (suc l.at) (levels (term_of l.a.tree)) l.a.next l.a.depth

abbrev pub decreases-operators::read_primary-loop-alloc : goal.decreases-operators::read_primary-loop-alloc
decreases-operators::read_primary-loop-alloc l = length l.input.tokens.now - l.a.next

abbrev pub invariant-parts::read_list-loop-alloc : goal.invariant-parts::read_list-loop-alloc
invariant-parts::read_list-loop-alloc l =
    Onward (λ k. run_parts k (origin_of l.input) l.names l.left (parts_of l.some.parts.items) (from_at l.input l.some.next))
    (λ k. run_list k (origin_of l.input) l.names l.left (from_at l.input l.at))
    l.input l.left (suc l.at) (most_levels (parts_of l.some.parts.items)) l.some.next l.some.depth

abbrev pub decreases-parts::read_list-loop-alloc : goal.decreases-parts::read_list-loop-alloc
decreases-parts::read_list-loop-alloc l = length l.input.tokens.now - l.some.next

abbrev pub invariant-branches::read_elifs-loop-token : goal.invariant-branches::read_elifs-loop-token
invariant-branches::read_elifs-loop-token l =
    Onward (λ k. run_elifs k (origin_of l.input) l.layout l.left (choices_of l.some.branches.items) (from_at l.input l.some.next))
    (λ k. run_elifs k (origin_of l.input) l.layout l.left (choices_of l.fn.first.branches.items) (from_at l.input l.fn.first.next))
    l.input l.left l.fn.first.next (levels_in (choices_of l.some.branches.items)) l.some.next l.some.depth

abbrev pub decreases-branches::read_elifs-loop-token : goal.decreases-branches::read_elifs-loop-token
decreases-branches::read_elifs-loop-token l = length l.input.tokens.now - l.some.next

abbrev pub invariant-branches::read_labels-loop-alloc : goal.invariant-branches::read_labels-loop-alloc
invariant-branches::read_labels-loop-alloc l =
    Onward (λ k. run_labels k (origin_of l.input) l.layout l.left (parts_of l.some.parts.items) (from_at l.input l.some.next))
    (λ k. run_labels k (origin_of l.input) l.layout l.left (parts_of l.fn.first.parts.items) (from_at l.input l.fn.first.next))
    l.input l.left l.fn.first.next (most_levels (parts_of l.some.parts.items)) l.some.next l.some.depth

abbrev pub decreases-branches::read_labels-loop-alloc : goal.decreases-branches::read_labels-loop-alloc
decreases-branches::read_labels-loop-alloc l = length l.input.tokens.now - l.some.next

abbrev pub invariant-branches::read_ofs-loop-token : goal.invariant-branches::read_ofs-loop-token
invariant-branches::read_ofs-loop-token l =
    Onward (λ k. run_ofs k (origin_of l.input) l.layout l.left (choices_of l.some.branches.items) (from_at l.input l.some.next))
    (λ k. run_ofs k (origin_of l.input) l.layout l.left (choices_of l.fn.first.branches.items) (from_at l.input l.fn.first.next))
    l.input l.left l.fn.first.next (levels_in (choices_of l.some.branches.items)) l.some.next l.some.depth

abbrev pub decreases-branches::read_ofs-loop-token : goal.decreases-branches::read_ofs-loop-token
decreases-branches::read_ofs-loop-token l = length l.input.tokens.now - l.some.next

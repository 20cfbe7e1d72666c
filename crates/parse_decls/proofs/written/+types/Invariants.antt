use Rattle.std.proofs.Common.{◌+◌, ◌-◌, ◌*◌, length}
use Rattle.nim_tree.specs.Types.{written_of, arguments_of, fields_of, argument, no_arguments, fields, no_fields}
use Rattle.parse_exprs.specs.Input.{origin_of, from_at}
use Rattle.parse_decls.specs.Run.{run_arguments, run_parts}
use Rattle.parse_decls.specs.Gives.{SoFar}
use Rattle.parse_decls.proofs.written.+types.Given as goal

abbrev pub decreases-read_type : goal.decreases-read_type
decreases-read_type l = 8 * l.left

abbrev pub decreases-read_part : goal.decreases-read_part
decreases-read_part l = 8 * l.left + 1

abbrev pub decreases-read_arguments : goal.decreases-read_arguments
decreases-read_arguments l = 8 * l.left + 1

abbrev pub decreases-read_parts : goal.decreases-read_parts
decreases-read_parts l = 8 * l.left + 2

abbrev pub decreases-read_named : goal.decreases-read_named
decreases-read_named l = 8 * l.left + 3

abbrev pub decreases-read_inside : goal.decreases-read_inside
decreases-read_inside l = 8 * l.left + 2

abbrev pub decreases-read_element : goal.decreases-read_element
decreases-read_element l = 8 * l.left + 2

abbrev pub decreases-read_array : goal.decreases-read_array
decreases-read_array l = 8 * l.left + 3

abbrev pub decreases-read_ref : goal.decreases-read_ref
decreases-read_ref l = 8 * l.left + 3

abbrev pub decreases-read_tuple : goal.decreases-read_tuple
decreases-read_tuple l = 8 * l.left + 3

abbrev pub invariant-read_arguments-loop-alloc : goal.invariant-read_arguments-loop-alloc
invariant-read_arguments-loop-alloc l =
    SoFar (λ k. run_arguments k (origin_of l.input) (from_at l.input l.whole) l.left (arguments_of l.arguments.items) (from_at l.input l.next))
    (λ k. run_arguments k (origin_of l.input) (from_at l.input l.whole) l.left (argument (written_of l.fn.first.value) no_arguments)
    (from_at l.input l.fn.first.next)) l.input l.fn.first.next l.next

abbrev pub decreases-read_arguments-loop-alloc : goal.decreases-read_arguments-loop-alloc
decreases-read_arguments-loop-alloc l = length l.input.tokens.now - l.next

abbrev pub invariant-read_parts-loop-alloc : goal.invariant-read_parts-loop-alloc
invariant-read_parts-loop-alloc l =
    SoFar (λ k. run_parts k (origin_of l.input) (from_at l.input l.whole) l.left (fields_of l.fields.items) (from_at l.input l.next))
    (λ k. run_parts k (origin_of l.input) (from_at l.input l.whole) l.left (fields l.fn.first.value.names.items (written_of l.fn.first.value.of) no_fields)
    (from_at l.input l.fn.first.next)) l.input l.fn.first.next l.next

abbrev pub decreases-read_parts-loop-alloc : goal.decreases-read_parts-loop-alloc
decreases-read_parts-loop-alloc l = length l.input.tokens.now - l.next

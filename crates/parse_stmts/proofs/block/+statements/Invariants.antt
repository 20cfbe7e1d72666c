use Rattle.std.proofs.Common.{◌+◌, ◌-◌, ◌*◌, length}
use Rattle.nim_tree.specs.Statements.{empty, statements_of, no_branches, no_handlers, handlers_of}
use Rattle.parse_exprs.specs.Input.{from_at, origin_of}
use Rattle.parse_decls.specs.Gives.{SoFar}
use Rattle.parse_stmts.specs.Run.{run_statements, run_elifs, run_ofs, run_handlers}
use Rattle.parse_stmts.specs.Blocks.{chosen_of}
use Rattle.parse_stmts.proofs.block.+statements.Given as goal

abbrev pub decreases-statements::read_block : goal.decreases-statements::read_block
decreases-statements::read_block l = 16 * l.left + 0

abbrev pub decreases-statements::read_body : goal.decreases-statements::read_body
decreases-statements::read_body l = 16 * l.left + 1

abbrev pub decreases-statements::read_compound : goal.decreases-statements::read_compound
decreases-statements::read_compound l = 16 * l.left + 6

abbrev pub decreases-statements::read_choice : goal.decreases-statements::read_choice
decreases-statements::read_choice l = 16 * l.left + 7

abbrev pub decreases-statements::read_statement : goal.decreases-statements::read_statement
decreases-statements::read_statement l = 16 * l.left + 8

abbrev pub decreases-statements::read_statements : goal.decreases-statements::read_statements
decreases-statements::read_statements l = 16 * l.left + 9

abbrev pub decreases-branches::read_branch : goal.decreases-branches::read_branch
decreases-branches::read_branch l = 16 * l.left + 2

abbrev pub decreases-branches::read_of : goal.decreases-branches::read_of
decreases-branches::read_of l = 16 * l.left + 2

abbrev pub decreases-branches::read_else : goal.decreases-branches::read_else
decreases-branches::read_else l = 16 * l.left + 2

abbrev pub decreases-branches::read_elifs : goal.decreases-branches::read_elifs
decreases-branches::read_elifs l = 16 * l.left + 3

abbrev pub decreases-branches::read_ofs : goal.decreases-branches::read_ofs
decreases-branches::read_ofs l = 16 * l.left + 3

abbrev pub decreases-branches::read_branches : goal.decreases-branches::read_branches
decreases-branches::read_branches l = 16 * l.left + 4

abbrev pub decreases-branches::read_if : goal.decreases-branches::read_if
decreases-branches::read_if l = 16 * l.left + 5

abbrev pub decreases-branches::read_case : goal.decreases-branches::read_case
decreases-branches::read_case l = 16 * l.left + 5

abbrev pub decreases-compound::read_handler : goal.decreases-compound::read_handler
decreases-compound::read_handler l = 16 * l.left + 2

abbrev pub decreases-compound::read_finally : goal.decreases-compound::read_finally
decreases-compound::read_finally l = 16 * l.left + 2

abbrev pub decreases-compound::read_handlers : goal.decreases-compound::read_handlers
decreases-compound::read_handlers l = 16 * l.left + 3

abbrev pub decreases-compound::read_while : goal.decreases-compound::read_while
decreases-compound::read_while l = 16 * l.left + 5

abbrev pub decreases-compound::read_for : goal.decreases-compound::read_for
decreases-compound::read_for l = 16 * l.left + 5

abbrev pub decreases-compound::read_try : goal.decreases-compound::read_try
decreases-compound::read_try l = 16 * l.left + 5

abbrev pub decreases-compound::read_defer : goal.decreases-compound::read_defer
decreases-compound::read_defer l = 16 * l.left + 5

abbrev pub decreases-compound::read_proc : goal.decreases-compound::read_proc
decreases-compound::read_proc l = 16 * l.left + 5

abbrev pub invariant-statements::read_statements-loop-alloc : goal.invariant-statements::read_statements-loop-alloc
invariant-statements::read_statements-loop-alloc l =
    SoFar (λ k. run_statements k (origin_of l.input) l.spaces l.left (statements_of l.all.items) (from_at l.input l.next))
    (λ k. run_statements k (origin_of l.input) l.spaces l.left empty (from_at l.input l.fn.at)) l.input l.fn.at l.next

abbrev pub decreases-statements::read_statements-loop-alloc : goal.decreases-statements::read_statements-loop-alloc
decreases-statements::read_statements-loop-alloc l = length l.input.tokens.now - l.next

abbrev pub invariant-branches::read_elifs-loop-place : goal.invariant-branches::read_elifs-loop-place
invariant-branches::read_elifs-loop-place l = SoFar (λ k. run_elifs k (origin_of l.input) l.spaces l.left (chosen_of l.all) (from_at l.input l.next))
    (λ k. run_elifs k (origin_of l.input) l.spaces l.left (chosen_of l.fn.first.value) (from_at l.input l.fn.first.next)) l.input l.fn.first.next l.next

abbrev pub decreases-branches::read_elifs-loop-place : goal.decreases-branches::read_elifs-loop-place
decreases-branches::read_elifs-loop-place l = length l.input.tokens.now - l.next

abbrev pub invariant-branches::read_ofs-loop-place : goal.invariant-branches::read_ofs-loop-place
invariant-branches::read_ofs-loop-place l = SoFar (λ k. run_ofs k (origin_of l.input) l.spaces l.left (chosen_of l.all) (from_at l.input l.next))
    (λ k. run_ofs k (origin_of l.input) l.spaces l.left no_branches (from_at l.input l.fn.at)) l.input l.fn.at l.next

abbrev pub decreases-branches::read_ofs-loop-place : goal.decreases-branches::read_ofs-loop-place
decreases-branches::read_ofs-loop-place l = length l.input.tokens.now - l.next

abbrev pub invariant-compound::read_handlers-loop-place : goal.invariant-compound::read_handlers-loop-place
invariant-compound::read_handlers-loop-place l =
    SoFar (λ k. run_handlers k (origin_of l.input) l.spaces l.left (handlers_of l.all.items) (from_at l.input l.next))
    (λ k. run_handlers k (origin_of l.input) l.spaces l.left no_handlers (from_at l.input l.fn.at)) l.input l.fn.at l.next

abbrev pub decreases-compound::read_handlers-loop-place : goal.decreases-compound::read_handlers-loop-place
decreases-compound::read_handlers-loop-place l = length l.input.tokens.now - l.next

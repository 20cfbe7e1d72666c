use Rattle.std.proofs.Common.{List, ◌≤◌, length, drop}
use Rattle.nim_types.specs.Types.{Ty}
use Rattle.nim_program.specs.Program.{Stmts}
use Rattle.nim_program.specs.View.{stmts_of, branch_conditions, branch_blocks, case_blocks, handlers_of}
use Rattle.nim_program.specs.Folds.{together, in_turn, each, total_of, each_block, total_of_handlers}
use Rattle.program_limits.specs.Meeting.{Met, Found, before, own_before}
use Rattle.program_limits.proofs.block_texts.+stmts.Given as goal

abbrev pub invariant-of_block-loop-i : goal.invariant-of_block-loop-i
invariant-of_block-loop-i l =
    (l.i ≤ length l.block.items) × ((ts : List Ty) (met : Found) → Met l.fn.texts met →
    Met l.texts (total_of before own_before (stmts_of ts (drop l.i l.block.items)) met))

abbrev pub decreases-of_block-loop-i : goal.decreases-of_block-loop-i
decreases-of_block-loop-i l = l.i

abbrev pub invariant-of_branches-loop-i : goal.invariant-of_branches-loop-i
invariant-of_branches-loop-i l =
    let left = drop l.i l.branches.items in
    (l.i ≤ length l.branches.items) × ((ts : List Ty) (last : Stmts) (met : Found) → Met l.fn.texts (total_of before own_before last met) →
    Met l.texts (in_turn before (each before own_before (branch_conditions ts left)) (each_block before own_before (branch_blocks ts left last)) met))

abbrev pub decreases-of_branches-loop-i : goal.decreases-of_branches-loop-i
decreases-of_branches-loop-i l = l.i

abbrev pub invariant-of_case_branches-loop-i : goal.invariant-of_case_branches-loop-i
invariant-of_case_branches-loop-i l =
    (l.i ≤ length l.branches.items) × ((ts : List Ty) (last : Stmts) (met : Found) → Met l.fn.texts (total_of before own_before last met) →
    Met l.texts (together before (each_block before own_before (case_blocks ts (drop l.i l.branches.items) last)) met))

abbrev pub decreases-of_case_branches-loop-i : goal.decreases-of_case_branches-loop-i
decreases-of_case_branches-loop-i l = l.i

abbrev pub invariant-of_handlers-loop-i : goal.invariant-of_handlers-loop-i
invariant-of_handlers-loop-i l =
    (l.i ≤ length l.handlers.items) × ((ts : List Ty) (met : Found) → Met l.fn.texts met →
    Met l.texts (total_of_handlers before own_before (handlers_of ts (drop l.i l.handlers.items)) met))

abbrev pub decreases-of_handlers-loop-i : goal.decreases-of_handlers-loop-i
decreases-of_handlers-loop-i l = l.i

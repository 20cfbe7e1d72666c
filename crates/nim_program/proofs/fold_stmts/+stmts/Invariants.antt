use Rattle.std.proofs.Common.{◌≡◌, ◌≤◌, [], ◌∷◌, length, drop}
use Rattle.nim_program.specs.Program.{Stmts}
use Rattle.nim_program.specs.View.{stmts_of, branch_conditions, branch_blocks, case_blocks, handlers_of}
use Rattle.nim_program.specs.Folds.{together, in_turn, each, total_of, each_block, total_of_handlers}
use Rattle.nim_program.proofs.fold_stmts.+stmts.Given as goal

abbrev pub invariant-total_of-loop-i : goal.invariant-total_of-loop-i
invariant-total_of-loop-i g l =
    let sum = g.F.Fold.sum l.fold in
    let own = g.F.Fold.own l.fold in
    (l.i ≤ length l.block.items) × (l.all ≡ total_of sum own (stmts_of (g.F.Fold.types l.fold) (drop l.i l.block.items)))

abbrev pub decreases-total_of-loop-i : goal.decreases-total_of-loop-i
decreases-total_of-loop-i g l = l.i

abbrev pub invariant-branch_totals-loop-i : goal.invariant-branch_totals-loop-i
invariant-branch_totals-loop-i g l =
    let sum = g.F.Fold.sum l.fold in
    let own = g.F.Fold.own l.fold in
    let ts = g.F.Fold.types l.fold in
    let left = drop l.i l.branches.items in
    (l.i ≤ length l.branches.items) × ((last : Stmts) → l.fn.otherwise ≡ together sum (total_of sum own last ∷ []) →
    l.all ≡ in_turn sum (each sum own (branch_conditions ts left)) (each_block sum own (branch_blocks ts left last)))

abbrev pub decreases-branch_totals-loop-i : goal.decreases-branch_totals-loop-i
decreases-branch_totals-loop-i g l = l.i

abbrev pub invariant-case_totals-loop-i : goal.invariant-case_totals-loop-i
invariant-case_totals-loop-i g l =
    let sum = g.F.Fold.sum l.fold in
    let own = g.F.Fold.own l.fold in
    let left = drop l.i l.branches.items in
    (l.i ≤ length l.branches.items) × ((last : Stmts) → l.fn.otherwise ≡ together sum (total_of sum own last ∷ []) →
    l.all ≡ together sum (each_block sum own (case_blocks (g.F.Fold.types l.fold) left last)))

abbrev pub decreases-case_totals-loop-i : goal.decreases-case_totals-loop-i
decreases-case_totals-loop-i g l = l.i

abbrev pub invariant-handler_totals-loop-i : goal.invariant-handler_totals-loop-i
invariant-handler_totals-loop-i g l =
    let sum = g.F.Fold.sum l.fold in
    let own = g.F.Fold.own l.fold in
    (l.i ≤ length l.handlers.items) × (l.all ≡ total_of_handlers sum own (handlers_of (g.F.Fold.types l.fold) (drop l.i l.handlers.items)))

abbrev pub decreases-handler_totals-loop-i : goal.decreases-handler_totals-loop-i
decreases-handler_totals-loop-i g l = l.i

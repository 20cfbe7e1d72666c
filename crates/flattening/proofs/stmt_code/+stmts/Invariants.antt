use Rattle.std.proofs.Common.{ℕ, ◌≤◌, ◌-◌, Bool, List, Option, length, drop}
use Rattle.nim_program.specs.Program.{Stmts}
use Rattle.nim_program.specs.View.{stmts_of, branch_conditions, branch_blocks, branch_labels, case_blocks}
use Rattle.nim_program.specs.declared.stmt.Branch.{Branch}
use Rattle.nim_program.specs.declared.stmt.CaseBranch.{CaseBranch}
use Rattle.flat_code.specs.declared.line.Line.{Line}
use Rattle.flattening.specs.StmtLines.{branch_lines, arm_blocks}
use Rattle.flattening.specs.StmtViews.{exits_of, BlocksLast}
use Rattle.flattening.specs.Views.{types_of, facts_of, modes_of, result_of}
use Rattle.flattening.specs.Written.{IsPut}
use Rattle.flattening.proofs.BlockPuts.{block, rest_lines}
use Rattle.flattening.proofs.stmt_code.+stmts.Given as goal

-- what is left of the block, behind which the places end that are declared so far
abbrev pub invariant-add_block-loop-stmt : goal.invariant-add_block-loop-stmt
invariant-add_block-loop-stmt l =
    let a = l.around in
    let ts = types_of a in
    let exits = exits_of (result_of a) l.ways in
    (new : Option (List Line)) →
    IsPut l.code new (rest_lines ts (facts_of a) (modes_of a) (result_of a) l.ends (stmts_of ts (drop l.stmt-index l.block.items)) exits l.u) →
    IsPut l.fn.code new (block ts (facts_of a) (modes_of a) (result_of a) (stmts_of ts l.block.items) exits l.t)

abbrev pub invariant-add_branches-loop-branch : goal.invariant-add_branches-loop-branch
invariant-add_branches-loop-branch l =
    let a = l.around in
    let ts = types_of a in
    let exits = exits_of (result_of a) l.ways in
    let all = λ (branches : List Branch) (last : Stmts) (u : ℕ).
    branch_lines ts (facts_of a) (modes_of a) (result_of a) (branch_conditions ts branches) (branch_blocks ts branches last) exits l.t u in
    (last : Stmts) (new : Option (List Line)) → IsPut l.code new (all (drop l.branch-index l.branches.items) last l.u) →
    IsPut l.fn.code new (all l.branches.items last l.first)

abbrev pub invariant-add_cases-loop-i : goal.invariant-add_cases-loop-i
invariant-add_cases-loop-i l =
    let a = l.around in
    let ts = types_of a in
    let exits = exits_of (result_of a) l.ways in
    let all = λ (covered : Bool) (branches : List CaseBranch) (last : Stmts) (arm u : ℕ).
    arm_blocks ts (facts_of a) (modes_of a) (result_of a) covered (branch_labels branches) (case_blocks ts branches last) exits l.t arm u in
    (l.i ≤ length l.branches.items)
    × ((covered : Bool) (last : BlocksLast covered l.closes) (new : Option (List Line)) →
    IsPut l.code new (all covered (drop l.i l.branches.items) last.0 l.arm l.u) →
    IsPut l.fn.code new (all covered l.branches.items last.0 l.arms l.first))

abbrev pub decreases-add_cases-loop-i : goal.decreases-add_cases-loop-i
decreases-add_cases-loop-i l = length l.branches.items - l.i

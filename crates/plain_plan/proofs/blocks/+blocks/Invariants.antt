use Rattle.std.proofs.Common.{ℕ, List, Option, drop}
use Rattle.nim_program.specs.Program.{Empty}
use Rattle.nim_program.specs.View.{stmts_of, branch_conditions, branch_blocks, branch_labels, case_blocks}
use Rattle.nim_program.specs.declared.stmt.Branch.{Branch}
use Rattle.nim_program.specs.declared.stmt.CaseBranch.{CaseBranch}
use Rattle.nim_program.specs.declared.stmt.Stmt.{Stmt}
use Rattle.plain_plan.specs.Adding.{Adds}
use Rattle.nim_meaning.specs.TreeSites.{block_sites, branch_sites, arm_sites}
use Rattle.plain_plan.specs.Views.{types_of, facts_of, modes_of}
use Rattle.plain_plan.proofs.blocks.+blocks.Given as goal

abbrev pub invariant-add_block-loop-stmt : goal.invariant-add_block-loop-stmt
invariant-add_block-loop-stmt l =
    let a = l.around in
    let all = λ (block : List Stmt). block_sites (facts_of a) (modes_of a) (stmts_of (types_of a) block) in
    (end : Option (List ℕ)) → Adds l.found end (all (drop l.stmt-index l.block.items)) → Adds l.fn.found end (all l.block.items)

abbrev pub invariant-add_branches-loop-branch : goal.invariant-add_branches-loop-branch
invariant-add_branches-loop-branch l =
    let a = l.around in
    let ts = types_of a in
    let all = λ (branches : List Branch). branch_sites (facts_of a) (modes_of a) (branch_conditions ts branches) (branch_blocks ts branches Empty) in
    (end : Option (List ℕ)) → Adds l.found end (all (drop l.branch-index l.branches.items)) → Adds l.fn.found end (all l.branches.items)

abbrev pub invariant-add_arms-loop-branch : goal.invariant-add_arms-loop-branch
invariant-add_arms-loop-branch l =
    let a = l.around in
    let ts = types_of a in
    let all = λ (branches : List CaseBranch). arm_sites (facts_of a) (modes_of a) (branch_labels branches) (case_blocks ts branches Empty) in
    (end : Option (List ℕ)) → Adds l.found end (all (drop l.branch-index l.branches.items)) → Adds l.fn.found end (all l.branches.items)

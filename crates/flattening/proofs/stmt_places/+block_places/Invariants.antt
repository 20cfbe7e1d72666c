use Rattle.std.proofs.Common.{ℕ, List, Option, drop}
use Rattle.nim_program.specs.Program.{Stmts}
use Rattle.nim_program.specs.View.{stmts_of, branch_conditions, branch_blocks, case_blocks}
use Rattle.flat_code.specs.declared.place.FlatPlace.{FlatPlace}
use Rattle.flattening.specs.Places.{block_places, branch_places, arm_places}
use Rattle.flattening.specs.Views.{types_of, facts_of, modes_of}
use Rattle.flattening.specs.PlaceViews.{in_front}
use Rattle.nim_program.specs.declared.stmt.Stmt.{Stmt}
use Rattle.nim_program.specs.declared.stmt.Branch.{Branch}
use Rattle.nim_program.specs.declared.stmt.CaseBranch.{CaseBranch}
use Rattle.flattening.specs.Written.{IsPut}
use Rattle.flattening.proofs.stmt_places.+block_places.Given as goal

abbrev pub invariant-list_block-loop-stmt : goal.invariant-list_block-loop-stmt
invariant-list_block-loop-stmt l =
    let ts = types_of l.around in
    let facts = facts_of l.around in
    let modes = modes_of l.around in
    let all = λ (stmts : List Stmt) (u : ℕ). in_front (block_places ts facts modes (stmts_of ts stmts) u) in
    (new : Option (List FlatPlace)) → IsPut l.places new (all (drop l.stmt-index l.block.items) l.u) → IsPut l.fn.places new (all l.block.items l.t)

abbrev pub invariant-list_branches-loop-branch : goal.invariant-list_branches-loop-branch
invariant-list_branches-loop-branch l =
    let ts = types_of l.around in
    let facts = facts_of l.around in
    let modes = modes_of l.around in
    let all = λ (branches : List Branch) (last : Stmts) (u : ℕ).
    in_front (branch_places ts facts modes (branch_conditions ts branches) (branch_blocks ts branches last) u) in
    (last : Stmts) (new : Option (List FlatPlace)) → IsPut l.places new (all (drop l.branch-index l.branches.items) last l.u) →
    IsPut l.fn.places new (all l.branches.items last l.t)

abbrev pub invariant-list_arms-loop-branch : goal.invariant-list_arms-loop-branch
invariant-list_arms-loop-branch l =
    let ts = types_of l.around in
    let facts = facts_of l.around in
    let modes = modes_of l.around in
    let all = λ (branches : List CaseBranch) (last : Stmts) (u : ℕ). in_front (arm_places ts facts modes (case_blocks ts branches last) u) in
    (last : Stmts) (new : Option (List FlatPlace)) → IsPut l.places new (all (drop l.branch-index l.branches.items) last l.u) →
    IsPut l.fn.places new (all l.branches.items last l.t)

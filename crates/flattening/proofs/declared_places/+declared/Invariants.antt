use Rattle.std.proofs.Common.{List, Option, drop}
use Rattle.nim_program.specs.Program.{Stmts}
use Rattle.nim_program.specs.View.{stmts_of, branch_blocks, case_blocks, handlers_of}
use Rattle.flat_code.specs.declared.place.FlatPlace.{FlatPlace}
use Rattle.flattening.specs.Views.{types_of, facts_of, modes_of}
use Rattle.flattening.specs.PlaceViews.{in_front, marked, declared_in, declared_in_blocks, declared_in_handlers}
use Rattle.nim_program.specs.declared.stmt.Stmt.{Stmt}
use Rattle.nim_program.specs.declared.stmt.Branch.{Branch}
use Rattle.nim_program.specs.declared.stmt.CaseBranch.{CaseBranch}
use Rattle.nim_program.specs.declared.stmt.Handler.{Handler}
use Rattle.flattening.specs.Written.{IsPut}
use Rattle.flattening.proofs.declared_places.+declared.Given as goal

abbrev pub invariant-declare_block-loop-stmt : goal.invariant-declare_block-loop-stmt
invariant-declare_block-loop-stmt l =
    let ts = types_of l.around in
    let facts = facts_of l.around in
    let modes = modes_of l.around in
    let all = λ (stmts : List Stmt). in_front (declared_in ts facts modes (marked l.globals.items) (stmts_of ts stmts)) in
    (new : Option (List FlatPlace)) → IsPut l.places new (all (drop l.stmt-index l.block.items)) → IsPut l.fn.places new (all l.block.items)

abbrev pub invariant-declare_branches-loop-branch : goal.invariant-declare_branches-loop-branch
invariant-declare_branches-loop-branch l =
    let ts = types_of l.around in
    let facts = facts_of l.around in
    let modes = modes_of l.around in
    let all = λ (branches : List Branch) (last : Stmts). in_front
    (declared_in_blocks ts facts modes (marked l.globals.items) (branch_blocks ts branches last)) in
    (last : Stmts) (new : Option (List FlatPlace)) → IsPut l.places new (all (drop l.branch-index l.branches.items) last) →
    IsPut l.fn.places new (all l.branches.items last)

abbrev pub invariant-declare_cases-loop-branch : goal.invariant-declare_cases-loop-branch
invariant-declare_cases-loop-branch l =
    let ts = types_of l.around in
    let facts = facts_of l.around in
    let modes = modes_of l.around in
    let all = λ (branches : List CaseBranch) (last : Stmts). in_front
    (declared_in_blocks ts facts modes (marked l.globals.items) (case_blocks ts branches last)) in
    (last : Stmts) (new : Option (List FlatPlace)) → IsPut l.places new (all (drop l.branch-index l.branches.items) last) →
    IsPut l.fn.places new (all l.branches.items last)

abbrev pub invariant-declare_handlers-loop-handler : goal.invariant-declare_handlers-loop-handler
invariant-declare_handlers-loop-handler l =
    let ts = types_of l.around in
    let facts = facts_of l.around in
    let modes = modes_of l.around in
    let all = λ (handlers : List Handler). in_front (declared_in_handlers ts facts modes (marked l.globals.items) (handlers_of ts handlers)) in
    (new : Option (List FlatPlace)) → IsPut l.places new (all (drop l.handler-index l.handlers.items)) → IsPut l.fn.places new (all l.handlers.items)

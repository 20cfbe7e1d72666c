use Rattle.std.proofs.Common.{ap, sym, ◌∙◌, [], ◌∷◌, List}
use Rattle.std.specs.Prelude.{Ok}
use Rattle.nim_types.specs.Table.{type_at, facts_in}
use Rattle.nim_program.specs.Program as P
use Rattle.nim_program.specs.Nodes.{selecting, blocks_of}
use Rattle.nim_program.specs.View.{expr_of, branch_labels, stmts_of}
use Rattle.expr_parts.proofs.ForCallers.{goes, stops}
use Rattle.decl_rules.specs.State.{Step, does, stated_as}
use Rattle.decl_parts.specs.View.{state_of, all_stated_as, arm_bodies_in}
use Rattle.decl_stmts.specs.ViewCases.{covered_by}
use Rattle.decl_stmts.specs.ViewStated.{listed_stated}
use Rattle.decl_stmts.proofs.Made.{made_answers}
use Rattle.decl_stmts.proofs.blocks.cases.covered.Goals as goal

pub returns-in-Ok : goal.returns-in-Ok
returns-in-Ok c = λ ts b u.
    let now = c.args.state.now in
    let st = state_of ts b now in
    let v = c.args.value in
    let all = c.args.arms.all.items in
    let blocks = blocks_of (arm_bodies_in ts all) (stmts_of ts c.args.stmts.items) in
    let by = λ (tests : P.Args). P.Select c.args.node (P.ByLabels (branch_labels all)) tests blocks in
    let select = by (selecting (expr_of ts v.expr) P.NoArg) in
    goes (listed_stated ts b now) (λ (_ : Unit {0}). tt)
    (covered_by c.args.lacks_else (facts_in now.types) c.args.node.at (type_at ts v.ty) c.args.arms.labels)
    (λ (_ : Unit {0}). Ok (stated_as (does select ∷ []) st)) tt c.list_of.result (c.in-Ok.ensures ts (facts_in now.types) u)
    (made_answers (all_stated_as ts b now) (Ok (stated_as (does select ∷ []) st)) c.selection_of.result c.list_of.result
    (ap (λ (l : List Step). Ok (stated_as l st))
    (sym (c.selection_of.ensures ts ∙ ap (λ (tests : P.Args). does (by tests) ∷ []) (c.selector_of.ensures ts P.NoArg))))
    c.list_of.ensures.list c.list_of.ensures.memory)

pub returns-in-Err : goal.returns-in-Err
returns-in-Err c = λ ts b u.
    let now = c.args.state.now in
    let st = state_of ts b now in
    let v = c.args.value in
    let all = c.args.arms.all.items in
    let blocks = blocks_of (arm_bodies_in ts all) (stmts_of ts c.args.stmts.items) in
    let by = λ (tests : P.Args). P.Select c.args.node (P.ByLabels (branch_labels all)) tests blocks in
    let select = by (selecting (expr_of ts v.expr) P.NoArg) in
    stops (listed_stated ts b now) (λ (_ : Unit {0}). tt)
    (covered_by c.args.lacks_else (facts_in now.types) c.args.node.at (type_at ts v.ty) c.args.arms.labels)
    (λ (_ : Unit {0}). Ok (stated_as (does select ∷ []) st)) c.in-Err.stop (c.in-Err.ensures ts (facts_in now.types) u)

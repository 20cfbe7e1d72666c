use Rattle.std.proofs.Common.{◌+◌, List, [], ◌++◌, drop, sym, ap, ◌∙◌, append_assoc}
use Rattle.std.specs.Prelude.{option_map}
use Rattle.nim_program.specs.declared.stmt.Branch.{Branch}
use Rattle.nim_program.specs.declared.stmt.CaseBranch.{CaseBranch}
use Rattle.nim_program.specs.declared.stmt.Handler.{Handler}
use Rattle.nim_program.specs.Program.{Empty}
use Rattle.nim_program.specs.View.{declared_of, stmt_before, stmts_of, branch_blocks, case_blocks, handlers_of}
use Rattle.nim_program.proofs.ForCallers.{decided, selected_statement, repeated, tried, deferred}
use Rattle.flattening.specs.Views.{types_of, facts_of, modes_of}
use Rattle.flattening.specs.PlaceViews.{marked, caught, declared_in, declared_first, declared_in_blocks, declared_in_handlers}
use Rattle.flattening.proofs.ExprPuts.{drop_turn, drop_end}
use Rattle.flattening.proofs.PlacePuts.{joined, three, listed_as, listed_more, listed_end, declared_more}
use Rattle.flattening.proofs.Writing.{puts_none}
use Rattle.flattening.proofs.declared_places.+declared.Goals as goal

pub declare_stmt-returns-in-If : goal.declare_stmt-returns-in-If
declare_stmt-returns-in-If t c =
    let ts = types_of c.args.around.now in
    let facts = facts_of c.args.around.now in
    let modes = modes_of c.args.around.now in
    let given = c.in-If in
    let whole = ap (λ s. stmt_before ts s Empty) given.is ∙ decided ts given.node Empty given.branches given.otherwise in
    listed_as _ _ (ap (declared_first ts facts modes (marked c.args.globals.now.items)) whole)
    (c.declare_branches.ensures (stmts_of ts given.otherwise.items) _ c.declare_block.ensures)

pub declare_stmt-returns-in-Case : goal.declare_stmt-returns-in-Case
declare_stmt-returns-in-Case t c =
    let ts = types_of c.args.around.now in
    let facts = facts_of c.args.around.now in
    let modes = modes_of c.args.around.now in
    let given = c.in-Case in
    let whole = ap (λ s. stmt_before ts s Empty) given.is ∙ selected_statement ts given.node Empty given.selector given.branches given.otherwise in
    listed_as _ _ (ap (declared_first ts facts modes (marked c.args.globals.now.items)) whole)
    (c.declare_cases.ensures (stmts_of ts given.otherwise.items) _ c.declare_block-in-Case.ensures)

pub declare_stmt-returns-in-Loop : goal.declare_stmt-returns-in-Loop
declare_stmt-returns-in-Loop t c =
    let ts = types_of c.args.around.now in
    let facts = facts_of c.args.around.now in
    let modes = modes_of c.args.around.now in
    let given = c.in-Loop in
    let whole = ap (λ s. stmt_before ts s Empty) given.is ∙ repeated ts given.node Empty given.kind given.head given.body in
    listed_as _ _ (ap (declared_first ts facts modes (marked c.args.globals.now.items)) whole)
    (joined _ _ c.put_variable.ensures c.declare_block-in-Loop.ensures)

pub declare_stmt-returns-in-Try : goal.declare_stmt-returns-in-Try
declare_stmt-returns-in-Try t c =
    let ts = types_of c.args.around.now in
    let facts = facts_of c.args.around.now in
    let modes = modes_of c.args.around.now in
    let given = c.in-Try in
    let whole = ap (λ s. stmt_before ts s Empty) given.is ∙ tried ts given.node Empty given.body given.handlers given.last in
    listed_as _ _ (ap (declared_first ts facts modes (marked c.args.globals.now.items)) whole)
    (three _ _ _ c.declare_block-in-Try.ensures c.declare_handlers.ensures c.declare_block-in-Try-2.ensures)

pub declare_stmt-returns-in-Defer : goal.declare_stmt-returns-in-Defer
declare_stmt-returns-in-Defer t c =
    let ts = types_of c.args.around.now in
    let facts = facts_of c.args.around.now in
    let modes = modes_of c.args.around.now in
    let given = c.in-Defer in
    let whole = ap (λ s. stmt_before ts s Empty) given.is ∙ deferred ts given.node Empty given.last in
    listed_as _ _ (ap (declared_first ts facts modes (marked c.args.globals.now.items)) whole) c.declare_block-in-Defer.ensures

pub declare_block-loop-stmt-preserved : goal.declare_block-loop-stmt-preserved
declare_block-loop-stmt-preserved t c =
    let ts = types_of c.args.around.now in
    let facts = facts_of c.args.around.now in
    let modes = modes_of c.args.around.now in
    let globals = marked c.args.globals.now.items in
    let loop = c.loop-stmt in
    let x = c.stmt-item.result in
    let left = stmts_of ts (drop (loop.stmt-index + 1) c.args.block.now.items) in
    let next = drop_turn c.args.block.now.items c.deref-stmt-items.result.now loop.stmt-index x c.deref-stmt-items.ensures.value c.loop-stmt-test.true
    c.stmt-item.is in
    listed_more _ loop.places _ _ (declared_in ts facts modes globals (stmts_of ts (drop loop.stmt-index c.args.block.now.items)))
    (declared_first ts facts modes globals (stmt_before ts x Empty)) (declared_in ts facts modes globals left) loop.invariant c.declare_stmt.ensures
    (ap (λ ys. declared_in ts facts modes globals (stmts_of ts ys)) next ∙ declared_more ts facts modes globals ts x left)

pub declare_block-returns : goal.declare_block-returns
declare_block-returns t c =
    let ts = types_of c.args.around.now in
    let facts = facts_of c.args.around.now in
    let modes = modes_of c.args.around.now in
    let globals = marked c.args.globals.now.items in
    let loop = c.loop-stmt in
    let none = drop_end c.args.block.now.items c.deref-stmt-items.result.now loop.stmt-index c.deref-stmt-items.ensures.value c.loop-stmt-test.false in
    listed_end _ loop.places loop.places _ (declared_in ts facts modes globals (stmts_of ts (drop loop.stmt-index c.args.block.now.items))) [] loop.invariant
    (ap (λ ys. declared_in ts facts modes globals (stmts_of ts ys)) none) (puts_none loop.places)

pub declare_branches-loop-branch-preserved : goal.declare_branches-loop-branch-preserved
declare_branches-loop-branch-preserved t c last =
    let ts = types_of c.args.around.now in
    let facts = facts_of c.args.around.now in
    let modes = modes_of c.args.around.now in
    let globals = marked c.args.globals.now.items in
    let all = λ (ys : List Branch). declared_in_blocks ts facts modes globals (branch_blocks ts ys last) in
    let loop = c.loop-branch in
    let x = c.branch-item.result in
    let rest = drop (loop.branch-index + 1) c.args.branches.now.items in
    let next = drop_turn c.args.branches.now.items c.deref-branch-items.result.now loop.branch-index x c.deref-branch-items.ensures.value
    c.loop-branch-test.true
    c.branch-item.is in
    listed_more _ loop.places _ _ (all (drop loop.branch-index c.args.branches.now.items)) (declared_in ts facts modes globals (stmts_of ts x.body.items))
    (all rest) (loop.invariant last) c.declare_block.ensures (ap all next)

pub declare_branches-returns : goal.declare_branches-returns
declare_branches-returns t c last end put =
    let ts = types_of c.args.around.now in
    let facts = facts_of c.args.around.now in
    let modes = modes_of c.args.around.now in
    let globals = marked c.args.globals.now.items in
    let all = λ (ys : List Branch). declared_in_blocks ts facts modes globals (branch_blocks ts ys last) in
    let loop = c.loop-branch in
    let none = drop_end c.args.branches.now.items c.deref-branch-items.result.now loop.branch-index c.deref-branch-items.ensures.value
    c.loop-branch-test.false in
    listed_end _ loop.places end _ (all (drop loop.branch-index c.args.branches.now.items)) (declared_in ts facts modes globals last) (loop.invariant last)
    (ap all none) put

pub declare_cases-loop-branch-preserved : goal.declare_cases-loop-branch-preserved
declare_cases-loop-branch-preserved t c last =
    let ts = types_of c.args.around.now in
    let facts = facts_of c.args.around.now in
    let modes = modes_of c.args.around.now in
    let globals = marked c.args.globals.now.items in
    let all = λ (ys : List CaseBranch). declared_in_blocks ts facts modes globals (case_blocks ts ys last) in
    let loop = c.loop-branch in
    let x = c.branch-item.result in
    let rest = drop (loop.branch-index + 1) c.args.branches.now.items in
    let next = drop_turn c.args.branches.now.items c.deref-branch-items.result.now loop.branch-index x c.deref-branch-items.ensures.value
    c.loop-branch-test.true
    c.branch-item.is in
    listed_more _ loop.places _ _ (all (drop loop.branch-index c.args.branches.now.items)) (declared_in ts facts modes globals (stmts_of ts x.body.items))
    (all rest) (loop.invariant last) c.declare_block.ensures (ap all next)

pub declare_cases-returns : goal.declare_cases-returns
declare_cases-returns t c last end put =
    let ts = types_of c.args.around.now in
    let facts = facts_of c.args.around.now in
    let modes = modes_of c.args.around.now in
    let globals = marked c.args.globals.now.items in
    let all = λ (ys : List CaseBranch). declared_in_blocks ts facts modes globals (case_blocks ts ys last) in
    let loop = c.loop-branch in
    let none = drop_end c.args.branches.now.items c.deref-branch-items.result.now loop.branch-index c.deref-branch-items.ensures.value
    c.loop-branch-test.false in
    listed_end _ loop.places end _ (all (drop loop.branch-index c.args.branches.now.items)) (declared_in ts facts modes globals last) (loop.invariant last)
    (ap all none) put

pub declare_handlers-loop-handler-preserved : goal.declare_handlers-loop-handler-preserved
declare_handlers-loop-handler-preserved t c =
    let ts = types_of c.args.around.now in
    let facts = facts_of c.args.around.now in
    let modes = modes_of c.args.around.now in
    let globals = marked c.args.globals.now.items in
    let all = λ (ys : List Handler). declared_in_handlers ts facts modes globals (handlers_of ts ys) in
    let loop = c.loop-handler in
    let x = c.handler-item.result in
    let rest = drop (loop.handler-index + 1) c.args.handlers.now.items in
    let name = caught ts facts modes (option_map (declared_of ts) x.name) in
    let body = declared_in ts facts modes globals (stmts_of ts x.body.items) in
    let next = drop_turn c.args.handlers.now.items c.deref-handler-items.result.now loop.handler-index x c.deref-handler-items.ensures.value
    c.loop-handler-test.true
    c.handler-item.is in
    listed_more _ loop.places _ _ (all (drop loop.handler-index c.args.handlers.now.items)) (name ++ body) (all rest) loop.invariant
    (joined name body c.put_caught.ensures c.declare_block.ensures) (ap all next ∙ sym (append_assoc name body (all rest)))

pub declare_handlers-returns : goal.declare_handlers-returns
declare_handlers-returns t c =
    let ts = types_of c.args.around.now in
    let facts = facts_of c.args.around.now in
    let modes = modes_of c.args.around.now in
    let globals = marked c.args.globals.now.items in
    let all = λ (ys : List Handler). declared_in_handlers ts facts modes globals (handlers_of ts ys) in
    let loop = c.loop-handler in
    let none = drop_end c.args.handlers.now.items c.deref-handler-items.result.now loop.handler-index c.deref-handler-items.ensures.value
    c.loop-handler-test.false in
    listed_end _ loop.places loop.places _ (all (drop loop.handler-index c.args.handlers.now.items)) [] loop.invariant (ap all none) (puts_none loop.places)

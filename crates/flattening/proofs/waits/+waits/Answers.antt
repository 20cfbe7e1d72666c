use Rattle.std.proofs.Common.{◌+◌, ◌++◌, drop, sym, ap, ap₂, ◌∙◌, arith}
use Rattle.std.specs.Prelude.{option_map}
use Rattle.std.proofs.lemmas.Result.{on_ok_weaker}
use Rattle.nim_types.specs.Table.{type_at}
use Rattle.nim_program.specs.Program.{Early, Choose, ByLabels}
use Rattle.nim_program.specs.Program as T
use Rattle.nim_program.specs.View.{expr_of, path_of, operand_before, picks_of, pick_labels, if_type, if_value}
use Rattle.nim_program.proofs.ForCallers.{applied, called, constructed, selected}
use Rattle.nim_meaning.specs.Waiting.{waiting_at}
use Rattle.flattening.specs.Views.{types_of, facts_of, modes_of, uses_of, waits_own, inside_waits}
use Rattle.flattening.proofs.ExprPuts.{drop_turn}
use Rattle.flattening.proofs.WaitPuts.{waits_two, waits_in_turn, first_same, waits_turn}
use Rattle.flattening.proofs.waits.+waits.Goals as goal

pub add_waits-returns : goal.add_waits-returns
add_waits-returns t c =
    let a = c.args.around.now in
    on_ok_weaker c.add_own.result (λ h. waits_two (types_of a) c.args.ends.now c.add_inside.new.ends c.add_own.new.ends _ _ _ c.in_ok-add_inside.ensures h
    (waits_in_turn (facts_of a) (modes_of a) (expr_of (types_of a) c.args.value.now) c.args.how)) c.add_own.ensures

pub add_path_waits-returns-in_ok-add_path_waits-in-Element : goal.add_path_waits-returns-in_ok-add_path_waits-in-Element
add_path_waits-returns-in_ok-add_path_waits-in-Element t c =
    let a = c.args.around.now in
    let ts = types_of a in
    let given = c.in-Element in
    let whole = ap (path_of ts) given.is
    ∙ ap₂ (λ x y. T.Element given.node (type_at ts given.ty) (path_of ts x) (expr_of ts y) given.constant) (sym c.deref-base.ensures)
    (sym c.deref-index.ensures) in
    on_ok_weaker c.add_waits.result (λ h. waits_two ts c.args.ends.now c.add_path_waits-in-Element.new.ends c.add_waits.new.ends _ _ _
    c.in_ok-add_path_waits-in-Element.ensures h (ap (waiting_at (facts_of a) (modes_of a)) (sym whole))) c.add_waits.ensures

pub add_inside-returns-in-Apply : goal.add_inside-returns-in-Apply
add_inside-returns-in-Apply t c =
    let a = c.args.around.now in
    let ts = types_of a in
    let given = c.in-Apply in
    let whole = ap (expr_of ts) given.is ∙ applied ts given.node given.ty given.operation given.operands in
    on_ok_weaker c.add_waits_of.result (λ h. h ∙ ap (λ e. c.args.ends.now ++ waits_own ts (inside_waits (facts_of a) (modes_of a) e)) (sym whole))
    c.add_waits_of.ensures

pub add_inside-returns-in-Call : goal.add_inside-returns-in-Call
add_inside-returns-in-Call t c =
    let a = c.args.around.now in
    let ts = types_of a in
    let given = c.in-Call in
    let whole = ap (expr_of ts) given.is ∙ called ts given.node given.ty given.proc given.types given.operands in
    on_ok_weaker c.add_waits_of-in-Call.result
    (λ h. h ∙ ap (λ e. c.args.ends.now ++ waits_own ts (inside_waits (facts_of a) (modes_of a) e)) (sym whole)) c.add_waits_of-in-Call.ensures

pub add_inside-returns-in-Construct : goal.add_inside-returns-in-Construct
add_inside-returns-in-Construct t c =
    let a = c.args.around.now in
    let ts = types_of a in
    let given = c.in-Construct in
    let whole = ap (expr_of ts) given.is ∙ constructed ts given.node given.ty given.fields given.operands in
    on_ok_weaker c.add_waits_of-in-Construct.result
    (λ h. h ∙ ap (λ e. c.args.ends.now ++ waits_own ts (inside_waits (facts_of a) (modes_of a) e)) (sym whole)) c.add_waits_of-in-Construct.ensures

pub add_inside-returns-in_ok-add_waits-in-Early : goal.add_inside-returns-in_ok-add_waits-in-Early
add_inside-returns-in_ok-add_waits-in-Early t c =
    let a = c.args.around.now in
    let ts = types_of a in
    let given = c.in-Early in
    let whole = ap (expr_of ts) given.is
    ∙ ap₂ (λ x y. T.Early given.node (type_at ts given.ty) given.short (expr_of ts x) (expr_of ts y)) (sym c.deref-left.ensures) (sym c.deref-right.ensures) in
    on_ok_weaker c.add_waits-in-Early.result (λ h. waits_two ts c.args.ends.now c.add_waits.new.ends c.add_waits-in-Early.new.ends _ _ _
    c.in_ok-add_waits-in-Early.ensures h (ap (inside_waits (facts_of a) (modes_of a)) (sym whole))) c.add_waits-in-Early.ensures

pub add_inside-returns-in-Case : goal.add_inside-returns-in-Case
add_inside-returns-in-Case t c =
    let a = c.args.around.now in
    let ts = types_of a in
    let given = c.in-Case in
    let rest = picks_of ts given.branches.items (if_value ts (option_map (λ v. v.value) given.otherwise)) in
    let whole = ap (expr_of ts) given.is ∙ selected ts given.node given.ty given.selector given.branches given.otherwise
    ∙ ap (λ x. T.Choose given.node (if_type ts given.ty) (ByLabels (pick_labels given.branches.items)) (operand_before ts x rest)) (sym c.deref.ensures) in
    on_ok_weaker c.add_selector_waits.result (λ h. h ∙ ap (λ ws. c.args.ends.now ++ waits_own ts ws)
    (first_same (facts_of a) (modes_of a) ts c.deref.result.now rest ∙ ap (inside_waits (facts_of a) (modes_of a)) (sym whole)))
    c.add_selector_waits.ensures

pub add_waits_of-loop-operand-preserved : goal.add_waits_of-loop-operand-preserved
add_waits_of-loop-operand-preserved t c =
    let a = c.args.around.now in
    let loop = c.loop-operand in
    let x = c.operand-item.result in
    let next = drop_turn c.args.operands.now.items c.deref-operand-items.result.now loop.operand-index x c.deref-operand-items.ensures.value
    c.loop-operand-test.true
    c.operand-item.is in (
      omega arith,
      waits_turn (facts_of a) (modes_of a) (types_of a) (types_of a) _ (drop (loop.operand-index + 1) c.args.operands.now.items) x loop.ends
          c.add_operand_waits.new.ends _ (uses_of (modes_of a) c.args.uses) c.use_at-how.result loop.position (loop.position + 1) next
          c.in_ok-add_operand_waits.ensures c.use_at-how.ensures (omega arith) loop.invariant.1,
    )

use Rattle.std.proofs.Common.{◌+◌, List, drop, append_assoc, sym, ap, ap₂, ◌∙◌, arith}
use Rattle.std.specs.Prelude.{option_map}
use Rattle.nim_types.specs.Table.{type_at}
use Rattle.nim_program.specs.declared.expr.Pick.{Pick}
use Rattle.nim_program.specs.declared.operation.Use.TheVariants.{Owned}
use Rattle.nim_program.specs.Program.{ByConditions, ByLabels, ByValue, NoArg}
use Rattle.nim_program.specs.Program as T
use Rattle.nim_program.specs.View.{expr_of, path_of, operand_before, operands_of, choices_of, picks_of, pick_labels, if_type, if_value}
use Rattle.nim_program.proofs.ForCallers.{applied, called, constructed, chosen, selected}
use Rattle.nim_meaning.specs.TreeSites.{value_sites, path_sites, operand_sites, choice_sites, pick_sites}
use Rattle.plain_plan.specs.Views.{types_of, facts_of, modes_of, uses_of}
use Rattle.plain_plan.proofs.Adding.{adds_two, adds_as, drop_turn, drop_end, turned, ended}
use Rattle.plain_plan.proofs.Tree.{choices_last, picks_last, selector_first, operand_next}
use Rattle.plain_plan.proofs.values.+values.Goals as goal

pub add_value-returns-in-Apply : goal.add_value-returns-in-Apply
add_value-returns-in-Apply t c =
    let a = c.args.around.now in
    let ts = types_of a in
    let given = c.in-Apply in
    let whole = ap (expr_of ts) given.is ∙ applied ts given.node given.ty given.operation given.operands in
    adds_as c.add_operands.ensures (ap (λ e. value_sites (facts_of a) (modes_of a) e c.args.how) (sym whole))

pub add_value-returns-in-Call : goal.add_value-returns-in-Call
add_value-returns-in-Call t c =
    let a = c.args.around.now in
    let ts = types_of a in
    let given = c.in-Call in
    let whole = ap (expr_of ts) given.is ∙ called ts given.node given.ty given.proc given.types given.operands in
    adds_as c.add_operands-in-Call.ensures (ap (λ e. value_sites (facts_of a) (modes_of a) e c.args.how) (sym whole))

pub add_value-returns-in-Construct : goal.add_value-returns-in-Construct
add_value-returns-in-Construct t c =
    let a = c.args.around.now in
    let ts = types_of a in
    let given = c.in-Construct in
    let whole = ap (expr_of ts) given.is ∙ constructed ts given.node given.ty given.fields given.operands in
    adds_as c.add_operands-in-Construct.ensures (ap (λ e. value_sites (facts_of a) (modes_of a) e c.args.how) (sym whole))

pub add_value-returns-in-Read : goal.add_value-returns-in-Read
add_value-returns-in-Read t c =
    let a = c.args.around.now in
    adds_as (adds_two c.add_path.ensures c.add_own.ensures)
    (ap (λ e. value_sites (facts_of a) (modes_of a) (expr_of (types_of a) e) c.args.how) (sym c.in-Read.is))

pub add_value-returns-in-Early : goal.add_value-returns-in-Early
add_value-returns-in-Early t c =
    let a = c.args.around.now in
    let ts = types_of a in
    let given = c.in-Early in
    let whole = ap (expr_of ts) given.is
    ∙ ap₂ (λ x y. T.Early given.node (type_at ts given.ty) given.short (expr_of ts x) (expr_of ts y)) (sym c.deref-left.ensures) (sym c.deref-right.ensures) in
    adds_as (adds_two c.add_value.ensures c.add_value-in-Early.ensures) (ap (λ e. value_sites (facts_of a) (modes_of a) e c.args.how) (sym whole))

pub add_value-returns-in-If : goal.add_value-returns-in-If
add_value-returns-in-If t c =
    let a = c.args.around.now in
    let ts = types_of a in
    let given = c.in-If in
    let last = ByValue (expr_of ts c.deref-otherwise.result.now) NoArg in
    let whole = ap (expr_of ts) given.is ∙ chosen ts given.node given.ty given.branches given.otherwise
    ∙ ap (λ e. T.Choose given.node (if_type ts given.ty) ByConditions (choices_of ts given.branches.items (ByValue (expr_of ts e) NoArg)))
    (sym c.deref-otherwise.ensures) in
    adds_as (adds_two c.add_choices.ensures c.add_value-in-If.ensures)
    (choices_last (facts_of a) (modes_of a) ts given.branches.items last ∙ ap (λ e. value_sites (facts_of a) (modes_of a) e c.args.how) (sym whole))

pub add_value-returns-in-Case : goal.add_value-returns-in-Case
add_value-returns-in-Case t c =
    let a = c.args.around.now in
    let ts = types_of a in
    let given = c.in-Case in
    let selector = c.deref-selector.result.now in
    let last = if_value ts (option_map (λ v. v.value) given.otherwise) in
    let labels = pick_labels given.branches.items in
    let rest = picks_of ts given.branches.items last in
    let whole = ap (expr_of ts) given.is ∙ selected ts given.node given.ty given.selector given.branches given.otherwise
    ∙ ap (λ x. T.Choose given.node (if_type ts given.ty) (ByLabels labels) (operand_before ts x rest)) (sym c.deref-selector.ensures) in
    adds_as (adds_two c.add_selector.ensures (adds_as (adds_two c.add_picks.ensures c.add_else.ensures)
    (picks_last (facts_of a) (modes_of a) ts given.branches.items last)))
    (selector_first (facts_of a) (modes_of a) ts labels selector rest ∙ ap (λ e. value_sites (facts_of a) (modes_of a) e c.args.how) (sym whole))

pub add_path-returns-in-Element : goal.add_path-returns-in-Element
add_path-returns-in-Element t c =
    let a = c.args.around.now in
    let ts = types_of a in
    let given = c.in-Element in
    let whole = ap (path_of ts) given.is
    ∙ ap₂ (λ x y. T.Element given.node (type_at ts given.ty) (path_of ts x) (expr_of ts y) given.constant) (sym c.deref-base.ensures)
    (sym c.deref-index.ensures) in
    adds_as (adds_two c.add_path-in-Element.ensures c.add_value.ensures) (ap (path_sites (facts_of a) (modes_of a)) (sym whole))

pub add_operands-loop-operand-preserved : goal.add_operands-loop-operand-preserved
add_operands-loop-operand-preserved t c =
    let a = c.args.around.now in
    let ts = types_of a in
    let uses = uses_of (modes_of a) c.args.uses in
    let loop = c.loop-operand in
    let x = c.operand-item.result in
    let left = operands_of ts (drop (loop.operand-index + 1) c.args.operands.now.items) in
    let next = drop_turn c.args.operands.now.items c.deref-operand-items.result.now loop.operand-index x c.deref-operand-items.ensures.value
    c.loop-operand-test.true
    c.operand-item.is in (
      omega arith,
      turned loop.invariant.1 c.add_operand.ensures
          (operand_next (facts_of a) (modes_of a) ts x left uses c.use_at-how.result loop.position (loop.position + 1) c.use_at-how.ensures (omega arith)
          ∙ ap (λ ys. operand_sites (facts_of a) (modes_of a) (operands_of ts ys) uses loop.position) (sym next)),
    )

pub add_operands-returns : goal.add_operands-returns
add_operands-returns t c =
    let a = c.args.around.now in
    let loop = c.loop-operand in
    let none = drop_end c.args.operands.now.items c.deref-operand-items.result.now loop.operand-index c.deref-operand-items.ensures.value
    c.loop-operand-test.false in
    ended loop.invariant.1
    (ap (λ ys. operand_sites (facts_of a) (modes_of a) (operands_of (types_of a) ys) (uses_of (modes_of a) c.args.uses) loop.position) none)

pub add_choices-loop-choice-preserved : goal.add_choices-loop-choice-preserved
add_choices-loop-choice-preserved t c =
    let a = c.args.around.now in
    let ts = types_of a in
    let loop = c.loop-choice in
    let x = c.choice-item.result in
    let next = drop_turn c.args.choices.now.items c.deref-choice-items.result.now loop.choice-index x c.deref-choice-items.ensures.value
    c.loop-choice-test.true
    c.choice-item.is in
    turned loop.invariant (adds_two c.add_value.ensures c.add_value-in-loop-choice.ensures)
    (append_assoc (value_sites (facts_of a) (modes_of a) (expr_of ts x.condition) Owned) (value_sites (facts_of a) (modes_of a) (expr_of ts x.value) Owned)
    (choice_sites (facts_of a) (modes_of a) (choices_of ts (drop (loop.choice-index + 1) c.args.choices.now.items) NoArg))
    ∙ ap (λ ys. choice_sites (facts_of a) (modes_of a) (choices_of ts ys NoArg)) (sym next))

pub add_choices-returns : goal.add_choices-returns
add_choices-returns t c =
    let a = c.args.around.now in
    let loop = c.loop-choice in
    let none = drop_end c.args.choices.now.items c.deref-choice-items.result.now loop.choice-index c.deref-choice-items.ensures.value
    c.loop-choice-test.false in
    ended loop.invariant (ap (λ ys. choice_sites (facts_of a) (modes_of a) (choices_of (types_of a) ys NoArg)) none)

pub add_picks-loop-pick-preserved : goal.add_picks-loop-pick-preserved
add_picks-loop-pick-preserved t c =
    let a = c.args.around.now in
    let ts = types_of a in
    let loop = c.loop-pick in
    let x = c.pick-item.result in
    let next = drop_turn c.args.picks.now.items c.deref-pick-items.result.now loop.pick-index x c.deref-pick-items.ensures.value
    c.loop-pick-test.true
    c.pick-item.is in
    turned loop.invariant c.add_value.ensures
    (ap (λ (ys : List Pick). pick_sites (facts_of a) (modes_of a) (pick_labels ys) (picks_of ts ys NoArg)) (sym next))

pub add_picks-returns : goal.add_picks-returns
add_picks-returns t c =
    let a = c.args.around.now in
    let loop = c.loop-pick in
    let none = drop_end c.args.picks.now.items c.deref-pick-items.result.now loop.pick-index c.deref-pick-items.ensures.value
    c.loop-pick-test.false in
    ended loop.invariant (ap (λ (ys : List Pick). pick_sites (facts_of a) (modes_of a) (pick_labels ys) (picks_of (types_of a) ys NoArg)) none)

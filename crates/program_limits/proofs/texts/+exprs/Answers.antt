use Rattle.std.proofs.Common.{◌∙◌, sym, ap, ap₂, subst, true}
use Rattle.std.specs.Prelude.{option_map}
use Rattle.nim_types.specs.Table.{type_at}
use Rattle.nim_program.specs.Program as T
use Rattle.nim_program.specs.Program.{ByValue, NoArg, ByConditions, ByLabels}
use Rattle.nim_program.specs.View.{expr_of, path_of, operand_before, choices_of, picks_of, pick_labels, if_value, if_type}
use Rattle.nim_program.specs.Folds.{total, total_at}
use Rattle.nim_program.proofs.ForCallers.{applied, called, constructed, chosen, selected}
use Rattle.program_limits.specs.Meeting.{Met, before, own_before}
use Rattle.program_limits.proofs.Meets.{fresh_before}
use Rattle.program_limits.proofs.texts.+exprs.Goals as goal

pub of_expr-returns-in-Apply : goal.of_expr-returns-in-Apply
of_expr-returns-in-Apply t c ts met h =
    let given = c.in-Apply in
    let whole = ap (expr_of ts) given.is ∙ applied ts given.node given.ty given.operation given.operands in
    subst (λ e. Met c.of_operands.new.texts (total before own_before e met)) (sym whole) (c.of_operands.ensures ts met h)

pub of_expr-returns-in-Call : goal.of_expr-returns-in-Call
of_expr-returns-in-Call t c ts met h =
    let given = c.in-Call in
    let whole = ap (expr_of ts) given.is ∙ called ts given.node given.ty given.proc given.types given.operands in
    subst (λ e. Met c.of_operands-in-Call.new.texts (total before own_before e met)) (sym whole) (c.of_operands-in-Call.ensures ts met h)

pub of_expr-returns-in-Construct : goal.of_expr-returns-in-Construct
of_expr-returns-in-Construct t c ts met h =
    let given = c.in-Construct in
    let whole = ap (expr_of ts) given.is ∙ constructed ts given.node given.ty given.fields given.operands in
    subst (λ e. Met c.of_operands-in-Construct.new.texts (total before own_before e met)) (sym whole) (c.of_operands-in-Construct.ensures ts met h)

pub of_expr-returns-in-Read : goal.of_expr-returns-in-Read
of_expr-returns-in-Read t c ts met h =
    subst (λ e. Met c.of_path.new.texts (total before own_before e met)) (sym (ap (expr_of ts) c.in-Read.is)) (c.of_path.ensures ts true met h)

pub of_path-returns-in-Fresh : goal.of_path-returns-in-Fresh
of_path-returns-in-Fresh t c ts read met h =
    let value = expr_of ts c.deref-begun.result.now in
    let whole = ap (path_of ts) c.in-Fresh.is ∙ ap (λ v. T.Fresh (expr_of ts v)) (sym c.deref-begun.ensures) in
    let kept = c.of_standing.ensures ts (total before own_before value met) (c.of_expr.ensures ts met h) in
    subst (λ p. Met c.of_standing.new.texts (total_at before own_before read p met)) (sym whole)
    (subst (λ ms. Met c.of_standing.new.texts ms) (sym (fresh_before read value met)) kept)

pub of_expr-returns-in-Early : goal.of_expr-returns-in-Early
of_expr-returns-in-Early t c ts met h =
    let given = c.in-Early in
    let whole = ap (expr_of ts) given.is
    ∙ ap₂ (λ x y. T.Early given.node (type_at ts given.ty) given.short (expr_of ts x) (expr_of ts y)) (sym c.deref-in-Early.ensures) (sym c.deref.ensures) in
    let right = c.of_expr.ensures ts met h in
    subst (λ e. Met c.of_expr-in-Early.new.texts (total before own_before e met)) (sym whole) (c.of_expr-in-Early.ensures ts _ right)

pub of_expr-returns-in-If : goal.of_expr-returns-in-If
of_expr-returns-in-If t c ts met h =
    let given = c.in-If in
    let last = ByValue (expr_of ts c.deref-in-If.result.now) NoArg in
    let whole = ap (expr_of ts) given.is ∙ chosen ts given.node given.ty given.branches given.otherwise
    ∙ ap (λ e. T.Choose given.node (if_type ts given.ty) ByConditions (choices_of ts given.branches.items (ByValue (expr_of ts e) NoArg)))
    (sym c.deref-in-If.ensures) in
    let other = c.of_expr-in-If.ensures ts met h in
    subst (λ e. Met c.of_choices.new.texts (total before own_before e met)) (sym whole) (c.of_choices.ensures ts last met other)

pub of_expr-returns-in-Case : goal.of_expr-returns-in-Case
of_expr-returns-in-Case t c ts met h =
    let given = c.in-Case in
    let last = if_value ts (option_map (λ v. v.value) given.otherwise) in
    let rest = picks_of ts given.branches.items last in
    let whole = ap (expr_of ts) given.is ∙ selected ts given.node given.ty given.selector given.branches given.otherwise
    ∙ ap (λ x. T.Choose given.node (if_type ts given.ty) (ByLabels (pick_labels given.branches.items))
    (operand_before ts x (picks_of ts given.branches.items (if_value ts (option_map (λ v. v.value) given.otherwise)))))
    (sym c.deref-in-Case.ensures) in
    let other = c.of_else.ensures ts met h in
    let values = c.of_picks.ensures ts last met other in
    let all = c.of_operand.ensures ts rest met values in
    subst (λ e. Met c.of_pick_labels.new.texts (total before own_before e met)) (sym whole) (c.of_pick_labels.ensures _ all)

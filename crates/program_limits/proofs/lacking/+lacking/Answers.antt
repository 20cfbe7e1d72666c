use Rattle.std.proofs.Common.{◌∙◌, ap, ap₂, sym, Some, map, false}
use Rattle.std.specs.Prelude.{◌||◌, not, option_map}
use Rattle.nim_types.specs.Table.{type_at}
use Rattle.nim_program.specs.Program.{NoArg, ByValue, Calling, types_in}
use Rattle.nim_program.specs.View.{expr_of, if_type, if_value, operands_of, operand_before, choices_of, picks_of}
use Rattle.nim_program.proofs.ForCallers.{applied, called, constructed, chosen, selected}
use Rattle.nim_meaning.specs.Unbuilt.{gives_unbuilt}
use Rattle.nim_meaning.specs.LeftOut.{out_if, ◌or_then◌, first_unbuilt, is_act_built, left_out_in, left_out_in_args}
use Rattle.program_limits.specs.Known.{known_types, known_facts}
use Rattle.program_limits.proofs.Firsts.{or_false, or_nothing, out_as}
use Rattle.program_limits.proofs.lacking.+lacking.Goals as goal

pub of_expr-returns-in-Apply : goal.of_expr-returns-in-Apply
of_expr-returns-in-Apply t c =
    let ts = known_types c.args.known.now in
    let facts = known_facts c.args.known.now in
    let given = c.in-Apply in
    out_as facts (expr_of ts c.args.expr.now) _ c.or_then.result
    (ap (expr_of ts) given.is ∙ applied ts given.node given.ty given.operation given.operands)
    (c.or_then.ensures ∙ ap₂ (λ a b. a or_then b)
    (c.out_unless-here.ensures ∙ ap (λ b. out_if (gives_unbuilt facts (if_type ts given.ty) || not b) given.node) c.is_built.ensures)
    c.of_operands.ensures)

pub of_expr-returns-in-Call : goal.of_expr-returns-in-Call
of_expr-returns-in-Call t c =
    let ts = known_types c.args.known.now in
    let facts = known_facts c.args.known.now in
    let given = c.in-Call in
    let operands = operands_of ts given.operands.items in
    out_as facts (expr_of ts c.args.expr.now) _ c.or_then-in-Call.result
    (ap (expr_of ts) given.is ∙ called ts given.node given.ty given.proc given.types given.operands)
    (c.or_then-in-Call.ensures ∙ ap₂ (λ a b. a or_then b)
    (c.out_unless-here-in-Call.ensures ∙ ap (λ b. out_if (gives_unbuilt facts (if_type ts given.ty) || not b) given.node)
    (c.is_call_built.ensures given.proc facts (if_type ts given.ty)
    ∙ ap (λ tys. is_act_built (Calling given.proc (map (type_at ts) tys)) facts (if_type ts given.ty) operands) c.as_slice.ensures))
    c.of_operands-in-Call.ensures)

pub of_expr-returns-in-Construct : goal.of_expr-returns-in-Construct
of_expr-returns-in-Construct t c =
    let ts = known_types c.args.known.now in
    let facts = known_facts c.args.known.now in
    let given = c.in-Construct in
    let unbuilt = gives_unbuilt facts (Some (type_at ts given.ty)) in
    out_as facts (expr_of ts c.args.expr.now) _ c.or_then-in-Construct.result
    (ap (expr_of ts) given.is ∙ constructed ts given.node given.ty given.fields given.operands)
    (c.or_then-in-Construct.ensures ∙ ap₂ (λ a b. a or_then b)
    (c.if_unbuilt.ensures ∙ ap (λ b. out_if b given.node) (sym (or_false unbuilt))) c.of_operands-in-Construct.ensures)

pub of_expr-returns-in-Constant : goal.of_expr-returns-in-Constant
of_expr-returns-in-Constant t c =
    let ts = known_types c.args.known.now in
    let facts = known_facts c.args.known.now in
    let given = c.in-Constant in
    let unbuilt = gives_unbuilt facts (Some (type_at ts given.ty)) in
    out_as facts (expr_of ts c.args.expr.now) _ c.if_unbuilt-in-Constant.result
    (ap (expr_of ts) given.is)
    (c.if_unbuilt-in-Constant.ensures ∙ ap (λ b. out_if b given.node) (sym (or_false unbuilt)) ∙ sym (or_nothing (out_if (unbuilt || false) given.node)))

pub of_expr-returns-in-If : goal.of_expr-returns-in-If
of_expr-returns-in-If t c =
    let ts = known_types c.args.known.now in
    let facts = known_facts c.args.known.now in
    let given = c.in-If in
    let is = ap (expr_of ts) given.is ∙ chosen ts given.node given.ty given.branches given.otherwise in
    c.of_choice.ensures _ _ _ _ is ∙ sym (ap (left_out_in facts) is)

pub of_expr-returns-in-Case : goal.of_expr-returns-in-Case
of_expr-returns-in-Case t c =
    let ts = known_types c.args.known.now in
    let facts = known_facts c.args.known.now in
    let given = c.in-Case in
    let is = ap (expr_of ts) given.is ∙ selected ts given.node given.ty given.selector given.branches given.otherwise in
    c.of_choice-in-Case.ensures _ _ _ _ is ∙ sym (ap (left_out_in facts) is)

pub of_choice-returns-in-If : goal.of_choice-returns-in-If
of_choice-returns-in-If t c =
    let ts = known_types c.args.known.now in
    let facts = known_facts c.args.known.now in
    let given = c.in-If in
    let unbuilt = gives_unbuilt facts (if_type ts given.ty) in
    let value = given.otherwise.value in
    let here =
    c.if_either-here.ensures ∙ (ap (λ b. out_if (unbuilt || b) given.node) (sym (c.first_type.ensures facts ts))
    ∙ ap (λ d. out_if (unbuilt || first_unbuilt facts (types_in (choices_of ts given.branches.items (ByValue (expr_of ts d) NoArg)))) given.node)
    c.deref.ensures) in
    let last =
    c.of_expr.ensures ∙ (ap (λ d. left_out_in facts (expr_of ts d)) c.deref-in-If.ensures ∙ sym (or_nothing (left_out_in facts (expr_of ts value)))) in
    let is = ap (expr_of ts) given.is ∙ chosen ts given.node given.ty given.branches given.otherwise in
    λ node ty chooser parts e.
    c.or_then-in-If.ensures ∙ (ap₂ (λ a b. a or_then b) here
    (c.or_then.ensures ∙ (ap (λ x. c.of_choices.result or_then x) last ∙ sym (c.of_choices.ensures (ByValue (expr_of ts value) NoArg))))
    ∙ ap (left_out_in facts) (sym is ∙ e))

pub of_choice-returns-in-Case : goal.of_choice-returns-in-Case
of_choice-returns-in-Case t c =
    let ts = known_types c.args.known.now in
    let facts = known_facts c.args.known.now in
    let given = c.in-Case in
    let unbuilt = gives_unbuilt facts (if_type ts given.ty) in
    let last = if_value ts (option_map (λ v. v.value) given.otherwise) in
    let rest = picks_of ts given.branches.items last in
    let here =
    c.if_either-here-in-Case.ensures ∙ (ap (λ os. out_if (unbuilt || first_unbuilt facts os) given.node) (sym (c.operand_type.ensures ts rest))
    ∙ ap (λ d. out_if (unbuilt || first_unbuilt facts (types_in (operand_before ts d rest))) given.node) c.deref-in-Case.ensures) in
    let values = c.or_then-values.ensures ∙ (ap (λ x. c.of_picks.result or_then x) c.of_else.ensures ∙ sym (c.of_picks.ensures last)) in
    let is = ap (expr_of ts) given.is ∙ selected ts given.node given.ty given.selector given.branches given.otherwise in
    λ node ty chooser parts e.
    c.or_then-in-Case-2.ensures ∙ (ap₂ (λ a b. a or_then b) here
    (c.or_then-in-Case.ensures ∙ (ap (λ x. c.of_operand.result or_then x) values
    ∙ (sym (c.of_operand.ensures rest) ∙ ap (λ d. left_out_in_args facts (operand_before ts d rest)) c.deref-in-Case-2.ensures)))
    ∙ ap (left_out_in facts) (sym is ∙ e))

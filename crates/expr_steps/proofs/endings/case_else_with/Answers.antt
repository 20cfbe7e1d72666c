use Rattle.std.proofs.Common.{sym, subst, ap, ◌∙◌}
use Rattle.std.specs.Prelude.{Ok}
use Rattle.nim_types.specs.Table.{IsBelow}
use Rattle.nim_program.specs.Nodes.{followed_by, one_value, selecting}
use Rattle.nim_program.specs.Program.{Choose, ByLabels, NoArg, type_of}
use Rattle.nim_program.specs.View.{expr_of, picks_of, pick_labels}
use Rattle.expr_rules.specs.Answers.{node}
use Rattle.expr_parts.proofs.ForCallers.{if_ok, makes}
use Rattle.expr_steps.proofs.endings.case_else_with.Goals as goal

pub returns-clause-answers : goal.returns-clause-answers
returns-clause-answers c = λ ts.
    let n = node c.args.number c.args.at in
    let e = expr_of ts c.args.otherwise in
    let rows = ByLabels (pick_labels c.args.picks.items) in
    let all = selecting (expr_of ts c.args.selector) (followed_by (picks_of ts c.args.picks.items NoArg) (one_value e)) in
    c.typed_from.ensures.answers ts (Ok (Choose n (type_of e) rows all)) (makes (expr_of ts) (Choose n (type_of e) rows all) c.selected_else.result
    (if_ok c.selected_else.result c.selected_else.ensures.expr (λ x h. h ts ∙ ap (λ o. Choose n o rows all) (c.type_number-ty.ensures.ty ts)))
    c.selected_else.ensures.memory)

pub returns-clause-within : goal.returns-clause-within
returns-clause-within c = λ n h. c.typed_from.ensures.within n (if_ok c.selected_else.result c.selected_else.ensures.number
    (λ e k. subst (IsBelow n) (sym (k ∙ c.type_number-ty.ensures.number)) h))

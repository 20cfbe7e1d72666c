use Rattle.std.proofs.Common.{sym, subst, ap, ◌∙◌}
use Rattle.std.specs.Prelude.{Ok}
use Rattle.nim_types.specs.Table.{IsBelow}
use Rattle.nim_program.specs.Nodes.{followed_by, one_value}
use Rattle.nim_program.specs.Program.{Choose, ByConditions, NoArg, type_of}
use Rattle.nim_program.specs.View.{expr_of, choices_of}
use Rattle.expr_rules.specs.Answers.{node}
use Rattle.expr_parts.proofs.ForCallers.{if_ok, makes}
use Rattle.expr_steps.proofs.endings.if_with.Goals as goal

pub returns-clause-answers : goal.returns-clause-answers
returns-clause-answers c = λ ts.
    let n = node c.args.number c.args.at in
    let e = expr_of ts c.args.otherwise in
    let all = followed_by (choices_of ts c.args.choices.items NoArg) (one_value e) in
    c.typed_from.ensures.answers ts (Ok (Choose n (type_of e) ByConditions all)) (makes (expr_of ts) (Choose n (type_of e) ByConditions all) c.chosen.result
    (if_ok c.chosen.result c.chosen.ensures.expr
    (λ x h. h ts ∙ ap (λ o. Choose n o ByConditions all) (c.type_number-ty.ensures.ty ts))) c.chosen.ensures.memory)

pub returns-clause-within : goal.returns-clause-within
returns-clause-within c = λ n h. c.typed_from.ensures.within n (if_ok c.chosen.result c.chosen.ensures.number
    (λ e k. subst (IsBelow n) (sym (k ∙ c.type_number-ty.ensures.number)) h))

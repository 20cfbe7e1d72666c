use Rattle.std.proofs.Common.{subst, length, ◌∙◌}
use Rattle.nim_types.specs.Table.{type_at, IsBelow}
use Rattle.nim_program.specs.View.{expr_of, label_of}
use Rattle.expr_rules.specs.Answers.{value_of}
use Rattle.expr_rules.specs.Choices.{label_value}
use Rattle.expr_parts.specs.View.{valued_of}
use Rattle.expr_parts.proofs.ForCallers.{goes, stops}
use Rattle.expr_constants.proofs.ForCallers.{value_fixed}
use Rattle.expr_steps.proofs.choices.label_from.Goals as goal

pub label_value-requires-clause-value : goal.label_value-requires-clause-value
label_value-requires-clause-value c =
    subst (IsBelow (length c.args.types.now)) (c.requires.typed.0 ∙ c.in-Ok.ensures.number) c.requires.typed.1

pub label_value-requires-clause-fixed : goal.label_value-requires-clause-fixed
label_value-requires-clause-fixed c = value_fixed c.args.types.now c.args.typed.expr c.in-Ok.value c.in-Ok.ensures.answers c.requires.fixed

pub returns-in-Ok-clause-answers : goal.returns-in-Ok-clause-answers
returns-in-Ok-clause-answers c = λ ts facts u.
    goes label_of (valued_of ts) (value_of (expr_of ts c.args.typed.expr)) (label_value facts (type_at ts c.args.ty)) c.in-Ok.value c.label_value.result
    (c.in-Ok.ensures.answers ts) (c.label_value.ensures.answers ts facts u)

pub returns-in-Err-clause-answers : goal.returns-in-Err-clause-answers
returns-in-Err-clause-answers c = λ ts facts u.
    stops label_of (valued_of ts) (value_of (expr_of ts c.args.typed.expr)) (label_value facts (type_at ts c.args.ty)) c.in-Err.stop
    (c.in-Err.ensures.answers ts)

use Rattle.std.proofs.Common.{ℤ, subst, length, ◌∙◌}
use Rattle.nim_types.specs.Table.{IsBelow}
use Rattle.nim_program.specs.View.{expr_of}
use Rattle.expr_rules.specs.Answers.{value_of}
use Rattle.expr_rules.specs.Names.{length_rule}
use Rattle.expr_parts.specs.View.{valued_of}
use Rattle.expr_parts.proofs.ForCallers.{goes, stops}
use Rattle.expr_constants.proofs.ForCallers.{value_fixed}
use Rattle.expr_steps.proofs.given.length_from.Goals as goal

pub length_rule-requires-clause-fixed : goal.length_rule-requires-clause-fixed
length_rule-requires-clause-fixed c = value_fixed c.args.types.now c.args.typed.expr c.in-Ok.value c.in-Ok.ensures.answers c.requires.fixed

pub length_rule-requires-clause-value : goal.length_rule-requires-clause-value
length_rule-requires-clause-value c = subst (IsBelow (length c.args.types.now)) (c.requires.typed.0 ∙ c.in-Ok.ensures.number) c.requires.typed.1

pub returns-in-Ok : goal.returns-in-Ok
returns-in-Ok c = λ ts facts u.
    goes (λ (z : ℤ). z) (valued_of ts) (value_of (expr_of ts c.args.typed.expr)) (length_rule facts) c.in-Ok.value c.length_rule.result
    (c.in-Ok.ensures.answers ts) (c.length_rule.ensures ts facts u)

pub returns-in-Err : goal.returns-in-Err
returns-in-Err c = λ ts facts u.
    stops (λ (z : ℤ). z) (valued_of ts) (value_of (expr_of ts c.args.typed.expr)) (length_rule facts) c.in-Err.stop (c.in-Err.ensures.answers ts)

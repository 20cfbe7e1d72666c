use Rattle.std.proofs.Common.{sym, ap, ◌∙◌}
use Rattle.std.specs.Prelude.{option_map}
use Rattle.arc_base.specs.declared.place.Code.TheVariants.{NotTyped}
use Rattle.arc_base.specs.Refusal.{and_then}
use Rattle.nim_program.specs.View.{expr_of}
use Rattle.expr_rules.specs.Answers.{value, open_sequence, Valued}
use Rattle.expr_rules.specs.Operators.{binary_by, binary_rule, meaning_of, other_settled}
use Rattle.expr_parts.specs.View.{env_of, valued_of}
use Rattle.expr_parts.proofs.ForCallers.{answers_as, refuses}
use Rattle.expr_calls.proofs.operator_calls.open_and_value.Goals as goal

pub returns-in-Some-clause-answers : goal.returns-in-Some-clause-answers
returns-in-Some-clause-answers c = λ ts facts u.
    let env = env_of ts facts c.args.scope.now in
    let v = valued_of ts c.args.right in
    let n = c.args.number in
    let at = c.args.at in
    let op = c.args.op in
    let p = c.args.place in
    let go = (λ (w : Valued). binary_by env n at op (meaning_of op w.of v.of) w v) in
    answers_as (expr_of ts) (binary_rule env n at op (open_sequence p c.args.opened) (value v))
    (binary_rule env n at op (value (valued_of ts c.in-Some.left)) (value v)) c.binary_values.result
    (ap (λ o. and_then (other_settled o p) go) (sym (sym (ap (option_map (valued_of ts)) c.in-Some.is) ∙ c.settle.ensures.given ts facts u)))
    (c.binary_values.ensures.answers ts facts u)

pub returns-in-None-clause-answers : goal.returns-in-None-clause-answers
returns-in-None-clause-answers c = λ ts facts u.
    let env = env_of ts facts c.args.scope.now in
    let v = valued_of ts c.args.right in
    let n = c.args.number in
    let at = c.args.at in
    let op = c.args.op in
    let p = c.args.place in
    let go = (λ (w : Valued). binary_by env n at op (meaning_of op w.of v.of) w v) in
    refuses (expr_of ts) (binary_rule env n at op (open_sequence p c.args.opened) (value v)) NotTyped p c.refusal.result c.refusal.ensures
    (ap (λ o. and_then (other_settled o p) go) (sym (sym (ap (option_map (valued_of ts)) c.in-None.is) ∙ c.settle.ensures.given ts facts u)))

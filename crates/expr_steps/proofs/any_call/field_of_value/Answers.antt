use Rattle.std.proofs.Common.{◌≡◌, ◌<◌, sym, subst, ap, ◌∙◌, length, Some, None}
use Rattle.std.specs.Prelude.{Option, option_map, IfSome}
use Rattle.nim_program.specs.View.{expr_of}
use Rattle.nim_types.specs.Table.{IsBelow}
use Rattle.expr_rules.specs.Answers.{value}
use Rattle.expr_rules.specs.Constructions.{Found, field_named}
use Rattle.expr_rules.specs.Names.{field_or_call, field_rule, if_field}
use Rattle.expr_parts.specs.View.{valued_of, env_of, found_of}
use Rattle.expr_parts.proofs.ForCallers.{answers_as, if_ok}
use Rattle.expr_steps.proofs.Dotted.{found_read}
use Rattle.expr_steps.proofs.any_call.field_of_value.Goals as goal

pub returns-in-Some-clause-answers : goal.returns-in-Some-clause-answers
returns-in-Some-clause-answers c = λ ts facts u.
    let env = env_of ts facts c.args.scope.now in
    let v = valued_of ts c.args.base in
    let x = c.args.name.now in
    let is : field_named env x v.of ≡ Some (found_of ts c.in-Some.field) =
    sym (sym (ap (option_map (found_of ts)) c.in-Some.is) ∙ c.in-Ok.ensures.found ts facts u) in
    found_read ts env c.args.number c.args.at x v (found_of ts c.in-Some.field) c.read_field.result is
    (if_ok c.read_field.result c.read_field.ensures.expr (λ e h. ap Some (sym (h ts)))) c.read_field.ensures.memory

pub returns-in-None-clause-answers : goal.returns-in-None-clause-answers
returns-in-None-clause-answers c = λ ts facts u.
    let env = env_of ts facts c.args.scope.now in
    let v = valued_of ts c.args.base in
    let x = c.args.name.now in
    let n = c.args.number in
    let at = c.args.at in
    let is : field_named env x v.of ≡ None = sym (sym (ap (option_map (found_of ts)) c.in-None.is) ∙ c.in-Ok.ensures.found ts facts u) in
    answers_as (expr_of ts) (field_rule env n at x (value v)) (field_or_call env n at x (value v) None) c.dot_call.result
    (ap (λ (o : Option Found). field_or_call env n at x (value v) (if_field n at v o)) is) (c.dot_call.ensures.answers ts facts u)

pub returns-in-Some-clause-within : goal.returns-in-Some-clause-within
returns-in-Some-clause-within c =
    let n = length c.args.types.now in
    if_ok c.read_field.result c.read_field.ensures.number
    (λ e h. subst (IsBelow n) (sym h) (subst (λ o. IfSome o (λ f. f.ty < n)) c.in-Some.is c.in-Ok.ensures.within))

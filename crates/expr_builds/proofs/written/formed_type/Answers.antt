use Rattle.std.proofs.Common.{sym, ap, ap₂, ◌∙◌}
use Rattle.std.specs.Prelude.{map}
use Rattle.nim_types.specs.Table.{type_at}
use Rattle.expr_rules.specs.Demands.{former_of}
use Rattle.expr_rules.specs.Names.{formed_by, formed_type}
use Rattle.expr_parts.specs.View.{env_of, former_in}
use Rattle.expr_parts.proofs.ForCallers.{answers_as}
use Rattle.expr_builds.proofs.written.formed_type.Goals as goal

pub returns-clause-answers : goal.returns-clause-answers
returns-clause-answers c = λ ts facts u.
    let env = env_of ts facts c.args.scope.now in
    let at = c.args.at in
    answers_as (type_at ts) (formed_type env at c.args.text.now (map (type_at ts) c.args.given.items))
    (formed_by at (former_in c.former_of-former.result) (map (type_at ts) c.as_slice-2.result.now)) c.formed_by.result
    (ap₂ (λ f is. formed_by at f (map (type_at ts) is))
    (ap (former_of env) (sym (c.as_slice.ensures ∙ c.in_ok-name.ensures)) ∙ c.former_of-former.ensures ts facts) (sym c.as_slice-2.ensures.value))
    (c.formed_by.ensures.answers ts facts u)

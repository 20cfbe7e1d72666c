use Rattle.std.proofs.Common.{refl, ◌∙◌}
use Rattle.expr_rules.specs.Names.{own_dollars}
use Rattle.expr_parts.specs.View.{env_of, valued_of}
use Rattle.expr_calls.proofs.Echoing.{called_some, called_none}
use Rattle.expr_calls.proofs.dollars.has_own_dollar.Goals as goal

pub returns-in-Some-clause-is : goal.returns-in-Some-clause-is
returns-in-Some-clause-is c = λ ts facts u.
    let v = valued_of ts c.args.value.now in
    called_some (own_dollars (env_of ts facts c.args.scope.now) v) c.in-Some.borrowed (c.own_dollar.ensures ts facts u v refl ∙ c.in-Some.is)

pub returns-in-None-clause-is : goal.returns-in-None-clause-is
returns-in-None-clause-is c = λ ts facts u.
    let v = valued_of ts c.args.value.now in
    called_none (own_dollars (env_of ts facts c.args.scope.now) v) (c.own_dollar.ensures ts facts u v refl ∙ c.in-None.is)

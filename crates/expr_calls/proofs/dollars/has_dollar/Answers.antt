use Rattle.std.proofs.Common.{ap, ◌∙◌}
use Rattle.std.specs.Prelude.{is_some}
use Rattle.expr_rules.specs.Names.{own_dollars}
use Rattle.expr_parts.specs.View.{env_of}
use Rattle.expr_calls.proofs.Echoing.{some_first}
use Rattle.expr_calls.proofs.dollars.has_dollar.Goals as goal

pub returns-in-Some : goal.returns-in-Some
returns-in-Some c = λ ts facts u v t.
    some_first (own_dollars (env_of ts facts c.args.scope.now) v) ∙ ap is_some (c.own_dollar.ensures ts facts u v t ∙ c.in-Some.is)

pub returns-in-None : goal.returns-in-None
returns-in-None c = λ ts facts u v t.
    some_first (own_dollars (env_of ts facts c.args.scope.now) v) ∙ ap is_some (c.own_dollar.ensures ts facts u v t ∙ c.in-None.is)

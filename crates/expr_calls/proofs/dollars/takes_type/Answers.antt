use Rattle.std.proofs.Common.{[], ◌∷◌, ap, subst, length, ◌∙◌}
use Rattle.std.specs.Prelude.{is_some, map}
use Rattle.expr_rules.specs.Answers.{value}
use Rattle.expr_rules.specs.Calls.{arguments_for}
use Rattle.expr_parts.specs.View.{parameter_of, ParametersWithin}
use Rattle.expr_calls.proofs.dollars.takes_type.Goals as goal

pub takes_before-requires-clause-param : goal.takes_before-requires-clause-param
takes_before-requires-clause-param c = (subst (ParametersWithin (length c.args.types.now)) c.in-Some.ensures.cases.0 c.requires.params).0

pub returns-in-Some : goal.returns-in-Some
returns-in-Some c = λ ts facts u v t.
    ap (λ ps. is_some (arguments_for (map (parameter_of ts) ps) (value v ∷ []))) c.in-Some.ensures.cases.0 ∙ c.takes_before.ensures ts facts u v t

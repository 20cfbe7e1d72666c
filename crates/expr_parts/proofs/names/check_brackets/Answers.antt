use Rattle.std.proofs.Common.{ap, ◌∙◌}
use Rattle.arc_base.specs.declared.place.Code.TheVariants.{NotTyped}
use Rattle.expr_rules.specs.Demands.{former_of, is_former}
use Rattle.expr_parts.specs.View.{env_of}
use Rattle.expr_parts.proofs.Allowing.{allowed}
use Rattle.expr_parts.proofs.names.check_brackets.Goals as goal

pub returns : goal.returns
returns c = λ ts facts.
    allowed NotTyped c.args.at (is_former (former_of (env_of ts facts c.args.scope.now) c.args.name.now)) c.makes_types.result c.allow.result
    (ap is_former (c.former_of.ensures ts facts) ∙ c.makes_types.ensures) c.allow.ensures

use Rattle.std.proofs.Common.{ap, ◌∙◌}
use Rattle.std.specs.Prelude.{Bool, ◌||◌}
use Rattle.expr_rules.specs.Demands.{former_of, is_former}
use Rattle.expr_parts.specs.View.{env_of}
use Rattle.expr_steps.proofs.demands.is_former.Goals as goal

pub returns-then-is_type : goal.returns-then-is_type
returns-then-is_type c = λ ts facts.
    ap (λ (b : Bool). b || is_former (former_of (env_of ts facts c.args.scope.now) c.args.name.now)) (c.is_type.ensures ts facts ∙ c.if-is_type.true)

pub returns : goal.returns
returns c = λ ts facts.
    ap (λ (b : Bool). b || is_former (former_of (env_of ts facts c.args.scope.now) c.args.name.now)) (c.is_type.ensures ts facts ∙ c.if-is_type.false)
    ∙ ap is_former (c.former_of.ensures ts facts) ∙ c.makes_types.ensures

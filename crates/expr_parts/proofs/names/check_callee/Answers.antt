use Rattle.std.proofs.Common.{ap, ◌∙◌}
use Rattle.std.specs.Prelude.{if◌then◌else◌, Bool, Ok}
use Rattle.arc_base.specs.declared.place.Code.TheVariants.{UnknownName}
use Rattle.arc_base.specs.Refusal.{refused}
use Rattle.expr_rules.specs.Names.{callee_rule}
use Rattle.expr_parts.specs.View.{env_of}
use Rattle.arc_base.proofs.ForCallers.{refuses}
use Rattle.expr_parts.proofs.names.check_callee.Goals as goal

pub returns-then-is_nothing : goal.returns-then-is_nothing
returns-then-is_nothing c = λ ts facts.
    refuses {T = Unit {0}} (λ _. tt)
    (callee_rule (env_of ts facts c.args.scope.now) c.args.at c.args.name.now) UnknownName c.args.at c.refusal.result c.refusal.ensures
    (ap (λ (b : Bool). if b then refused UnknownName c.args.at else Ok tt) (c.is_nothing.ensures ts facts ∙ c.if-is_nothing.true))

pub returns : goal.returns
returns c = λ ts facts.
    ap (λ (b : Bool). if b then refused UnknownName c.args.at else Ok tt) (c.is_nothing.ensures ts facts ∙ c.if-is_nothing.false)

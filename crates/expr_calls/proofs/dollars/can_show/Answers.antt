use Rattle.std.proofs.Common.{ap, sym, ◌∙◌}
use Rattle.std.specs.Prelude.{◌||◌}
use Rattle.expr_rules.specs.Builtins.{is_shown}
use Rattle.expr_rules.specs.Names.{own_dollars, some_fits}
use Rattle.expr_parts.specs.View.{env_of}
use Rattle.expr_calls.proofs.dollars.can_show.Goals as goal

pub returns-then-is_shown : goal.returns-then-is_shown
returns-then-is_shown c = λ ts facts u v t.
    ap (λ b. b || some_fits (own_dollars (env_of ts facts c.args.scope.now) v))
    (ap is_shown (t ∙ c.entry.ensures.means ts facts u) ∙ c.is_shown.ensures ts ∙ c.if-is_shown.true)
    ∙ sym c.if-is_shown.true

pub returns-else-is_shown : goal.returns-else-is_shown
returns-else-is_shown c = λ ts facts u v t.
    ap (λ b. b || some_fits (own_dollars (env_of ts facts c.args.scope.now) v))
    (ap is_shown (t ∙ c.entry.ensures.means ts facts u) ∙ c.is_shown.ensures ts ∙ c.if-is_shown.false)
    ∙ c.has_dollar.ensures ts facts u v t

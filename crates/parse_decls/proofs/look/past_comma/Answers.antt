use Rattle.std.proofs.Common.{sym, ap, ◌∙◌}
use Rattle.std.specs.Prelude.{if◌then◌else◌}
use Rattle.parse_exprs.specs.Input.{from_at}
use Rattle.parse_decls.specs.Look.{behind}
use Rattle.parse_decls.proofs.Coming.{behind_at}
use Rattle.parse_decls.proofs.look.past_comma.Goals as goal

pub returns-then-comma_at-clause-past : goal.returns-then-comma_at-clause-past
returns-then-comma_at-clause-past c =
    sym (behind_at c.args.at c.args.input.now.tokens.now)
    ∙ ap (λ b. if b then behind (from_at c.args.input.now c.args.at) else from_at c.args.input.now c.args.at)
    (sym (sym c.comma_at.ensures ∙ c.if-comma_at.true))

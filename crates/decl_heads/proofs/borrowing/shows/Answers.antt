use Rattle.std.proofs.Common.{ap, ◌∙◌, Bool}
use Rattle.std.specs.Prelude.{◌||◌}
use Rattle.nim_types.specs.Table.{type_at}
use Rattle.expr_rules.specs.Builtins.{is_shown}
use Rattle.expr_rules.specs.Env.{callable, known_as}
use Rattle.expr_parts.specs.View.{env_of}
use Rattle.decl_rules.specs.Heads.{borrows_for}
use Rattle.decl_heads.proofs.borrowing.shows.Goals as goal

pub returns-then-is_shown : goal.returns-then-is_shown
returns-then-is_shown c = λ ts facts u.
    ap (λ (b : Bool). b || borrows_for (type_at ts c.args.ty) (callable (known_as (env_of ts facts c.args.scope.now) c.args.name.now)))
    (ap is_shown (c.entry.ensures.means ts facts u) ∙ c.is_shown.ensures ts ∙ c.if-is_shown.true)

pub returns : goal.returns
returns c = λ ts facts u.
    ap (λ (b : Bool). b || borrows_for (type_at ts c.args.ty) (callable (known_as (env_of ts facts c.args.scope.now) c.args.name.now)))
    (ap is_shown (c.entry.ensures.means ts facts u) ∙ c.is_shown.ensures ts ∙ c.if-is_shown.false)
    ∙ c.borrows_for.ensures ts facts u

use Rattle.std.proofs.Common.{ap, ◌∙◌}
use Rattle.nim_program.specs.View.{if_type}
use Rattle.expr_parts.specs.View.{env_of}
use Rattle.decl_rules.specs.Heads.{has_base}
use Rattle.decl_heads.proofs.borrowing.has_base.Goals as goal

pub returns-in-Some : goal.returns-in-Some
returns-in-Some c = λ ts facts u.
    ap (λ o. has_base (env_of ts facts c.args.scope.now) c.args.name.now (if_type ts o)) c.in-Some.is ∙ c.shows.ensures ts facts u

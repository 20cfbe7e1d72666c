use Rattle.std.proofs.Common.{ap, ◌∙◌, length}
use Rattle.expr_rules.specs.Constructions.{base_of}
use Rattle.expr_parts.specs.View.{env_of}
use Rattle.decl_rules.specs.Heads.{has_base}
use Rattle.decl_heads.proofs.borrowing.base_has.Goals as goal

pub returns : goal.returns
returns c = λ ts facts u.
    ap (has_base (env_of ts facts c.args.scope.now) c.args.name.now)
    (ap (base_of facts) (c.entry.ensures.means ts facts u) ∙ c.base_of.ensures.base ts facts (c.entry.ensures.says ts facts u))
    ∙ c.has_base.ensures ts facts u

pub has_base-requires-clause-base : goal.has_base-requires-clause-base
has_base-requires-clause-base c = c.base_of.ensures.within (length c.args.types.now) c.entry.ensures.inside

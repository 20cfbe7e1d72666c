use Rattle.std.proofs.Common.{sym, ap, ◌∙◌, Some, length}
use Rattle.nim_program.specs.View.{if_type}
use Rattle.expr_rules.specs.Constructions.{sequence_want}
use Rattle.expr_builds.proofs.tuples.sequence_want.Goals as goal

pub returns-in-Some-clause-means : goal.returns-in-Some-clause-means
returns-in-Some-clause-means c = λ ts facts u.
    c.items_of.ensures.means ts ∙ ap (λ t. sequence_want (Some t)) (sym (c.entry.ensures.means ts facts u))
    ∙ sym (ap (λ o. sequence_want (if_type ts o)) c.in-Some.is)

pub returns-in-Some-clause-within : goal.returns-in-Some-clause-within
returns-in-Some-clause-within c = c.items_of.ensures.within (length c.args.types.now) c.entry.ensures.inside

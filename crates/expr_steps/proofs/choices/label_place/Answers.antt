use Rattle.std.proofs.Common.{ap, ◌∙◌}
use Rattle.nim_tree.specs.Terms.{place_of, term_of}
use Rattle.expr_steps.proofs.Branched.{at_others, at_range}
use Rattle.expr_steps.proofs.choices.label_place.Goals as goal

pub returns-in-Some : goal.returns-in-Some
returns-in-Some c = at_range (term_of c.args.test.now) c.in-Some.at (c.range_place.ensures ∙ c.in-Some.is)

pub returns-in-None : goal.returns-in-None
returns-in-None c = c.place.ensures ∙ ap place_of c.bare.ensures ∙ at_others (term_of c.args.test.now) (c.range_place.ensures ∙ c.in-None.is)

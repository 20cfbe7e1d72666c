use Rattle.std.proofs.Common.{sym, ap, ap₂, ◌∙◌}
use Rattle.word_runner.specs.Acts.{both_of}
use Rattle.word_runner.specs.View.{held_in}
use Rattle.word_runner.proofs.act.both.Goals as goal

pub returns-in-None : goal.returns-in-None
returns-in-None c =
    ap (λ o. both_of o (held_in c.args.vars.now.items c.args.right)) (sym c.in-None.is ∙ c.get.ensures)

pub returns-in-None-get : goal.returns-in-None-get
returns-in-None-get c = ap₂ both_of (sym c.in-Some.is ∙ c.get.ensures) (sym c.in-None-get.is ∙ c.get-in-Some.ensures)

pub returns-in-Some-get : goal.returns-in-Some-get
returns-in-Some-get c = ap₂ both_of (sym c.in-Some.is ∙ c.get.ensures) (sym c.in-Some-get.is ∙ c.get-in-Some.ensures)

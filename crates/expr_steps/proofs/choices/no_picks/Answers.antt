use Rattle.std.proofs.Common.{ap, ◌∙◌}
use Rattle.nim_program.specs.Program.{NoArg}
use Rattle.nim_program.specs.View.{picks_of, pick_labels}
use Rattle.expr_rules.specs.Answers.{inner_by}
use Rattle.expr_rules.specs.Choices.{undecided}
use Rattle.expr_steps.proofs.Branched.{same_picked}
use Rattle.expr_steps.proofs.choices.no_picks.Goals as goal

pub returns-clause-picked : goal.returns-clause-picked
returns-clause-picked c = λ ts.
    same_picked c.args.next (ap pick_labels c.new.ensures.items) c.new-2.ensures (ap (λ all. picks_of ts all NoArg) c.new.ensures.items)
    (ap undecided (c.inner_by.ensures.want ts ∙ ap inner_by (c.wanted.ensures.ty ts)))

pub returns-clause-within : goal.returns-clause-within
returns-clause-within c = λ n h. c.inner_by.ensures.within n (c.wanted.ensures.within n h)

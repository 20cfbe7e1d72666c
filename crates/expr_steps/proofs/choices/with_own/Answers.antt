use Rattle.expr_steps.proofs.Branched.{labels_more}
use Rattle.expr_steps.proofs.choices.with_own.Goals as goal

pub returns-clause-made : goal.returns-clause-made
returns-clause-made c = labels_more c.args.own c.args.label c.args.all _ c.in_ok-push.ensures.ok

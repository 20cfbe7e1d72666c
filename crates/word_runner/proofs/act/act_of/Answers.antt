use Rattle.word_runner.specs.Acts.{scene_at}
use Rattle.word_runner.proofs.act.act_of.Goals as goal

pub returns-in-Branch-clause-did : goal.returns-in-Branch-clause-did
returns-in-Branch-clause-did c =
    rw c.in-Branch.is (λ input d e. c.where_holds-in-Branch.ensures.did (scene_at c.args.frame.now c.args.space.now input d))

pub returns-in-SpendIf-clause-did : goal.returns-in-SpendIf-clause-did
returns-in-SpendIf-clause-did c =
    rw c.in-SpendIf.is (λ input d e. c.where_holds.ensures.did (scene_at c.args.frame.now c.args.space.now input d))

use Rattle.std.proofs.Common.{ap, ◌∙◌}
use Rattle.word_code.specs.Words.{sets}
use Rattle.word_runner.specs.Acts.{scene_at}
use Rattle.word_runner.proofs.ActRows.{both_there, none_of}
use Rattle.word_runner.proofs.act.compute.Goals as goal

pub returns-in-None-clause-did : goal.returns-in-None-clause-did
returns-in-None-clause-did c =
    λ input d. none_of _ _ _ (rw c.in-None.is at c.both.ensures)

pub returns-in-Some-clause-did : goal.returns-in-Some-clause-did
returns-in-Some-clause-did c =
    λ input d. ap (sets (scene_at c.args.frame.now c.args.space.now input d) c.args.to) c.computed.ensures
    ∙ both_there _ _ _ _ _ (rw c.in-Some.is at c.both.ensures)

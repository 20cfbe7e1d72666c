use Rattle.std.proofs.Common.{◌∙◌}
use Rattle.word_code.specs.Memory.{number_at}
use Rattle.word_runner.specs.Acts.{scene_at}
use Rattle.word_runner.proofs.ActRows.{by_load, none_at, one_there}
use Rattle.word_runner.proofs.act.load.Goals as goal

pub returns-in-None-clause-did : goal.returns-in-None-clause-did
returns-in-None-clause-did c =
    λ input d. none_at _ _ (rw c.in-None.is at c.get.ensures)

pub returns-in-Some-clause-did : goal.returns-in-Some-clause-did
returns-in-Some-clause-did c =
    λ input d.
    let x = scene_at c.args.frame.now c.args.space.now input d in
    c.sets.ensures.did x ∙ by_load x c.args.to c.number.result (number_at x.memory c.in-Some.a c.args.size) c.number.ensures
    ∙ one_there _ _ _ (rw c.in-Some.is at c.get.ensures)

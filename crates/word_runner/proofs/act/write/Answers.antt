use Rattle.std.proofs.Common.{sym, ap, ◌∙◌}
use Rattle.std.specs.Option.{option_copied}
use Rattle.word_code.specs.Words.{shows}
use Rattle.word_runner.specs.Acts.{scene_at}
use Rattle.word_runner.proofs.ActRows.{both_there, none_of}
use Rattle.word_runner.proofs.act.write.Goals as goal

pub returns-in-None-clause-did : goal.returns-in-None-clause-did
returns-in-None-clause-did c =
    λ input d. none_of _ _ _ (rw c.in-None.is at c.both.ensures)

pub returns-in-None-bytes-clause-did : goal.returns-in-None-bytes-clause-did
returns-in-None-bytes-clause-did c =
    λ input d. ap (shows (scene_at c.args.frame.now c.args.space.now input d) c.args.stream) (sym (ap option_copied c.in-None-bytes.is) ∙ c.bytes.ensures.bytes)
    ∙ both_there _ _ _ _ _ (rw c.in-Some.is at c.both.ensures)

pub returns-in-Some-bytes-clause-did : goal.returns-in-Some-bytes-clause-did
returns-in-Some-bytes-clause-did c =
    λ input d. both_there _ _ _ _ _ (rw c.in-Some.is at c.both.ensures)

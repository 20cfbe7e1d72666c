use Rattle.rv32_runner.proofs.Telling.{tells, saw, causes}
use Rattle.rv32_runner.proofs.laws.runs.Goals as goal

pub returns : goal.returns
returns c = record {
  told = tells;
  saw = λ live image. saw live image (c.machines.ensures.stands live image) (c.machines.ensures.shows live image);
  causes = causes;
}

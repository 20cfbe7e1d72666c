use Rattle.flat_code.specs.Codes.{flat_plain, owned_plain, block_plain}
use Rattle.flat_code.proofs.LineWeights.{code_weighs}
use Rattle.flat_code.proofs.laws.weights.Goals as goal

pub returns : goal.returns
returns c = record {
  flat = λ flat. code_weighs flat_plain flat.procs;
  owned = λ owned. code_weighs owned_plain owned.procs;
  blocks = λ blocks. code_weighs block_plain blocks.procs;
}

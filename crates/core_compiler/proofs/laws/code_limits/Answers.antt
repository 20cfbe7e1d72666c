use Rattle.core_compiler.proofs.Limiting.{few_fit}
use Rattle.core_compiler.proofs.laws.code_limits.Goals as goal

pub returns : goal.returns
returns c = record { few_parts = few_fit }

use Rattle.std.proofs.Common.{◌∙◌, ap}
use Rattle.std.specs.Prelude.{nat_lt}
use Rattle.program_limits.specs.declared.summary.TheConstants.{MOST_LEVELS}
use Rattle.program_limits.proofs.Summing.{deep_is}
use Rattle.program_limits.proofs.types.is_deep.Goals as goal

pub returns : goal.returns
returns c = ap (λ s. nat_lt MOST_LEVELS s.levels) c.summary.ensures ∙ deep_is _

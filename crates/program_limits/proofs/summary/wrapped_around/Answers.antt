use Rattle.std.proofs.Common.{ap, sym, ◌∙◌}
use Rattle.program_limits.specs.Summaries.{above}
use Rattle.program_limits.proofs.Summing.{wrapped_is}
use Rattle.program_limits.proofs.summary.wrapped_around.Goals as goal

pub returns : goal.returns
returns c = λ f e. c.above.ensures ∙ ap (λ s. above s.unbuilt s.levels) e ∙ sym (wrapped_is f)

use Rattle.std.proofs.Common.{ap, ap₂, sym, ◌∙◌}
use Rattle.std.specs.Prelude.{◌||◌}
use Rattle.program_limits.specs.Summaries.{above}
use Rattle.program_limits.proofs.Summing.{object_is}
use Rattle.program_limits.proofs.summary.whole_of.Goals as goal

pub returns : goal.returns
returns c = λ fs e.
    let own = c.args.own in
    c.above.ensures ∙ ap₂ (λ u l. above u l) (c.either.ensures ∙ ap (λ s. own || s.unbuilt) e) (ap (λ s. s.levels) e) ∙ sym (object_is own fs)

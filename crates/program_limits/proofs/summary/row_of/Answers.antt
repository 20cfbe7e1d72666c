use Rattle.std.proofs.Common.{◌≡◌, ap, sym, ◌∙◌, arith}
use Rattle.nim_types.specs.Forms.{row}
use Rattle.program_limits.specs.declared.summary.Summary.{Summary}
use Rattle.program_limits.specs.Summaries.{above, summary_of}
use Rattle.program_limits.proofs.Summing.{row_is}
use Rattle.program_limits.proofs.summary.row_of.Goals as goal

pub returns-then-count-eq0 : goal.returns-then-count-eq0
returns-then-count-eq0 c = λ f e.
    let none : c.args.count ≡ 0 = omega (arith, c.if-count-eq0.true) in
    c.alone.ensures ∙ ap (λ (s : Summary). record { unbuilt = s.unbuilt; levels = 1 }) e ∙ sym (ap (λ n. summary_of (row n f)) none)

pub returns : goal.returns
returns c = λ f e. c.above.ensures ∙ ap (λ s. above s.unbuilt s.levels) e ∙ sym (row_is c.args.count f (omega (arith, c.if-count-eq0.false)))

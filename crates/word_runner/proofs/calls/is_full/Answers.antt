use Rattle.std.proofs.Common.{◌<◌, ◌+◌, ℕ, length, sym, ap, ap₂, ◌∙◌, arith}
use Rattle.std.specs.Prelude.{nat_le}
use Rattle.word_code.specs.Words.{counted, most_calls}
use Rattle.word_runner.specs.View.{callers_are, frame_is}
use Rattle.word_runner.proofs.CallRows.{counted_more, never_full}
use Rattle.word_runner.proofs.calls.is_full.Goals as goal

pub returns-then-len : goal.returns-then-len
returns-then-len c =
    let run = c.args.run.now in
    let lt : length run.callers.items < 2000 = omega (arith, c.if-len.true, c.len.ensures, run.callers.ok.0) in
    sym (never_full c.args.procs.now run.frame run.callers.items lt)

pub returns : goal.returns
returns c =
    let run = c.args.run.now in
    let procs = c.args.procs.now in
    ap (nat_le most_calls) (ap₂ (λ (m n : ℕ). m + n) c.counted.ensures.is c.own_count.ensures.is
    ∙ sym (counted_more (frame_is procs run.frame) (callers_are procs run.callers.items)))

use Rattle.std.proofs.Common.{◌≡◌, ◌<◌, ◌+◌, ℕ, List, length, sym, ap, ap₂, subst, ◌∙◌, arith, Some}
use Rattle.std.specs.Prelude.{slice_get}
use Rattle.word_runner.specs.declared.state.Frame.{Frame}
use Rattle.word_runner.proofs.BookRows.{got}
use Rattle.word_runner.proofs.CallRows.{counted_next}
use Rattle.word_runner.proofs.calls.counted.Goals as goal

pub loop-frame-preserved : goal.loop-frame-preserved
loop-frame-preserved c =
    let k = c.loop-frame.frame-index in
    let xs = c.deref-frame-items.result.now in
    let lt : k < length xs = omega (arith, c.loop-frame-test.true, c.loop-frame.auto.frame-index-end) in
    let there = subst (λ (l : List Frame). slice_get l k ≡ Some c.frame-item.result) c.deref-frame-items.ensures.value
    (got xs k c.frame-item.result lt c.frame-item.is) in
    let is = c.own_count-count.ensures in (
      ap₂ (λ (m n : ℕ). m + n) c.loop-frame.invariant.0 is.is ∙ sym (counted_next c.args.procs.now c.args.frames.now.items k c.frame-item.result there),
      omega (arith, c.loop-frame.invariant.1, is.few),
    )

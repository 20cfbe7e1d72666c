use Rattle.std.proofs.Common.{◌≡◌, ◌≤◌, take}
use Rattle.word_code.specs.Words.{counted}
use Rattle.word_runner.specs.View.{callers_are}
use Rattle.word_runner.proofs.calls.counted.Given as goal

abbrev pub invariant-loop-frame : goal.invariant-loop-frame
invariant-loop-frame l = (l.count ≡ counted (callers_are l.procs (take l.frame-index l.frames.items))) × (l.count ≤ l.frame-index)

use Rattle.std.proofs.Common.{◌≡◌, ◌++◌, drop}
use Rattle.word_lowering.specs.Layouts.{waiters, behind_waiters}
use Rattle.word_lowering.proofs.layouts.put_waiters.Given as goal

-- with what is left, it is all
abbrev pub invariant-loop-h : goal.invariant-loop-h
invariant-loop-h l = record {
  made : l.made ++ waiters l.free (drop l.h-index l.all) ≡ l.initial.made ++ waiters l.initial.free l.all;
  free : behind_waiters l.free (drop l.h-index l.all) ≡ behind_waiters l.initial.free l.all;
}

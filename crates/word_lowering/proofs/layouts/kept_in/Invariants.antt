use Rattle.std.proofs.Common.{◌≡◌, ◌≤◌, ◌+◌, drop}
use Rattle.word_lowering.specs.Layouts.{params_in, kept_in}
use Rattle.word_lowering.proofs.layouts.kept_in.Given as goal

-- with what is left, it is all; and no more than were passed
abbrev pub invariant-loop-h : goal.invariant-loop-h
invariant-loop-h l = record {
  counted : l.n + kept_in (params_in (drop l.h-index l.all)) ≡ kept_in (params_in l.all);
  passed : l.n ≤ l.h-index;
}

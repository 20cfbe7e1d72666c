use Rattle.std.proofs.Common.{◌≡◌, ◌≤◌, ◌+◌, drop}
use Rattle.word_lowering.specs.LineCode.{all_labels}
use Rattle.word_lowering.proofs.scope.few_labels.Given as goal

-- with what is left, it is all
abbrev pub invariant-loop-proc : goal.invariant-loop-proc
invariant-loop-proc l = record {
  all : l.n + all_labels (drop l.proc-index l.procs) ≡ all_labels l.procs;
  few : l.n ≤ 4294967295;
}

use Rattle.std.proofs.Common.{◌≡◌, ◌++◌, drop}
use Rattle.word_code.specs.Joined.{all_moved}
use Rattle.word_code.proofs.join.push_moved.Given as goal

-- with the procedures that are left, they are all
abbrev pub invariant-loop-proc : goal.invariant-loop-proc
invariant-loop-proc l = l.procs ++ all_moved l.before (drop l.proc-index l.others) ≡ l.initial.procs ++ all_moved l.before l.others

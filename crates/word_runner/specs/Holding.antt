-- A run that is under way.
-- It serves proofs alone: the promise of `mean_words` doesn't speak of it.
use Rattle.std.specs.Prelude.{◌≡◌, ◌≤◌, ℕ, ◌+◌, List, [], take, Option, Some, None, Result, Ok, Err}
use Rattle.arc_base.specs.Event.{Event}
use Rattle.arc_base.specs.Behaviour.{Behaviour}
use Rattle.arc_base.specs.declared.outside.Stream.TheVariants.{Out as Output, Err as Errors}
use Rattle.arc_base.specs.Outside.{Grown, Rose}
use Rattle.arc_base.specs.Stepping.{Next, run}
use Rattle.rv32_isa.specs.Machine.{Lives}
use Rattle.word_code.specs.declared.word.WordProc.{WordProc}
use Rattle.word_code.specs.Words.{WordState, step}
use Rattle.word_runner.specs.declared.mean.MeanEnd.{MeanEnd}
use Rattle.word_runner.specs.Mean.{Comes}
use Rattle.word_runner.specs.Sinks.{Told, Got, bytes_on}

-- the machine that a run carries out, where nobody has written
abbrev pub machine : Lives → List WordProc → WordState → Next Event WordState
machine live procs = step live procs []

-- what was seen goes on from a state, and the sinks got all that was written
pub record Holding {S : Type 0} (m : S → Next Event S) (shown : Behaviour Event) (s : S) (out err : Told) : Type 0 where
  pub lines : ℕ
  pub events : List Event
  pub work : ℕ
  pub same : (n : ℕ) → shown (lines + n) ≡ run m n s events work
  pub output : Got out (bytes_on Output events)
  pub errors : Got err (bytes_on Errors events)

-- it goes on where more input is wanted, or it came to its end
abbrev pub WentOn : {S : Type 0} → (S → Next Event S) → (shown : Behaviour Event) → Option MeanEnd → S → (out err : Told) → Type 0
WentOn m shown None s out err = Holding m shown s out err
WentOn m shown (Some end) s out err = Comes shown end out err

-- from a state on, the work stays within a bound
abbrev pub StopsWithin : {S : Type 0} → (S → Next Event S) → S → ℕ → Type 0
StopsWithin m s most = (n : ℕ) → (run m n s [] 0).work ≤ most

-- a sink got all bytes, or a front of them where one of its calls failed
abbrev pub Put : {T E : Type 0} → Result T E → (written : Option (List ℕ)) → (faults : ℕ) → (written_then : Option (List ℕ)) → (faults_then : ℕ) → List ℕ →
    Type 0
Put (Ok x) a m b n bytes = Grown a b bytes × (n ≡ m)
Put (Err e) a m b n bytes = ((k : ℕ) × Grown a b (take k bytes)) × Rose m n

-- What running word code on a source and sinks comes to.
use Rattle.std.specs.Prelude.{◌≡◌, ◌≤◌, ℕ, ◌+◌, List, [], ◌++◌}
use Rattle.arc_base.specs.Event.{Event}
use Rattle.arc_base.specs.declared.outside.Stream.TheVariants.{Out as Output, Err as Errors}
use Rattle.arc_base.specs.Outside.{Rose}
use Rattle.arc_base.specs.Behaviour.{Behaviour, Live, Seen, Running, Ended, Faulted}
use Rattle.rv32_isa.specs.Machine.{Lives}
use Rattle.rv32_runner.specs.Streams.{Feed, Gave, MayGive}
use Rattle.word_code.specs.declared.word.WordCode.{WordCode}
use Rattle.word_code.specs.Words.{Fresh, word_by_units}
use Rattle.word_runner.specs.declared.mean.MeanEnd.{MeanEnd}
use Rattle.word_runner.specs.declared.mean.MeanEnd.TheVariants as M
use Rattle.word_runner.specs.Sinks.{Told, BothGot, BothGotFronts}

-- ---- word code

-- where nobody has written, zeros stand
abbrev pub no_fresh : Fresh
no_fresh n = []

-- The stack is of no matter to word code: nothing that it reads says how large it is but the second word of the data, and no program reads that.
abbrev pub shown_by : Lives → WordCode → (heap units : ℕ) → (input : List ℕ) → Behaviour Event
shown_by live code heap units input = word_by_units live code no_fresh heap 0 input units

-- ---- ends

-- What a run says of what is seen of code and of the sinks of its two streams. Nothing makes word code wrong.
abbrev pub Means : Seen Event → MeanEnd → (out err : Told) → Type 0
Means seen (M.Ended status) out err = ((live : Live) × (seen.phase ≡ Ended status live)) × BothGot seen out err
Means seen M.Going out err = (seen.phase ≡ Running) × BothGot seen out err
Means seen M.Wrong out err = ⊥
Means seen M.Faulted out err = (seen.phase ≡ Faulted) × BothGot seen out err
Means seen M.ReadFault out err = BothGotFronts seen out err
Means seen (M.WriteFault Output) out err = Rose out.faults_before out.faults_now × BothGotFronts seen out err
Means seen (M.WriteFault Errors) out err = Rose err.faults_before err.faults_now × BothGotFronts seen out err
Means seen M.Memory out err = BothGotFronts seen out err

-- It says so of what is seen after some number of lines, and ever after.
abbrev pub Comes : Behaviour Event → MeanEnd → (out err : Told) → Type 0
Comes seen end out err = (lines : ℕ) × ((more : ℕ) → Means (seen (lines + more)) end out err)

-- a call of the source failed where the end says so, and none else
abbrev pub Failed : MeanEnd → (old new : Feed) → Type 0
Failed M.ReadFault old new = Rose old.faults new.faults
Failed end old new = new.faults ≡ old.faults

-- The run came to its end with what the source gave, whatever it may still give.
pub record Came (shown : (input : List ℕ) → Behaviour Event) (old : Feed) (end : MeanEnd) (new : Feed) (out err : Told) : Type 0 where
  pub given : List ℕ
  pub gave : Gave old new given
  pub failed : Failed end old new
  pub comes : (rest : List ℕ) → MayGive new.left new.ended rest → Comes (shown (given ++ rest)) end out err

-- ---- how long it may go on

-- with each input the work of the run stays within a bound
abbrev pub Stops : (shown : (input : List ℕ) → Behaviour Event) → (most : (input : List ℕ) → ℕ) → Type 0
Stops shown most = (input : List ℕ) (n : ℕ) → (shown input n).work ≤ most input

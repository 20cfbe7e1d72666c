-- What running the meaning of a typed program on a source and sinks comes to: never to a fault, and never to what is wrong.
use Rattle.std.specs.Prelude.{◌≡◌, ℕ, List, ◌++◌}
use Rattle.arc_base.specs.Event.{Event}
use Rattle.arc_base.specs.Behaviour.{Seen, Ended, no_objects}
use Rattle.rv32_runner.specs.Streams.{Feed, Gave, MayGive}
use Rattle.word_runner.specs.declared.mean.MeanEnd.{MeanEnd}
use Rattle.word_runner.specs.declared.mean.MeanEnd.TheVariants as M
use Rattle.word_runner.specs.Mean.{Failed}
use Rattle.word_runner.specs.Mean as words
use Rattle.word_runner.specs.Sinks.{Told, BothGot}

abbrev pub IsEnd : MeanEnd → Type 0
IsEnd M.Faulted = ⊥
IsEnd M.Wrong = ⊥
IsEnd end = Unit {0}

-- What a run says of what is seen of a meaning, and of the sinks of its two streams: as of word code, and where it ends no objects are live.
abbrev pub Means : Seen Event → MeanEnd → (out err : Told) → Type 0
Means seen (M.Ended status) out err = (seen.phase ≡ Ended status no_objects) × BothGot seen out err
Means seen end out err = words.Means seen end out err

-- It came to its end with what the source gave, whatever it may still give.
pub record CameTo (meant : (input : List ℕ) → Seen Event) (old : Feed) (end : MeanEnd) (new : Feed) (out err : Told) : Type 0 where
  pub given : List ℕ
  pub gave : Gave old new given
  pub failed : Failed end old new
  pub means : (rest : List ℕ) → MayGive new.left new.ended rest → Means (meant (given ++ rest)) end out err

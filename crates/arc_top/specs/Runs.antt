-- What a run of an image is answered, and what it says of a source's meaning.
use Rattle.std.specs.Prelude.{◌≡◌, ℕ, List, ◌++◌}
use Rattle.arc_base.specs.declared.outside.Stream.{Stream}
use Rattle.arc_base.specs.declared.outside.Stream.TheVariants.{Out, Err}
use Rattle.arc_base.specs.Event.{Event}
use Rattle.arc_base.specs.Behaviour.{Behaviour, Live, Seen, IsPrefix, Ended as HasEnded}
use Rattle.rv32_isa.specs.Image.{Image}
use Rattle.rv32_isa.specs.State.{State, first_state}
use Rattle.rv32_runner.specs.declared.runner.RunEnd.{RunEnd}
use Rattle.rv32_runner.specs.declared.runner.RunEnd.TheVariants as end
use Rattle.rv32_runner.specs.Streams.{Streams, Tally, MayGive, Got, Lost, bytes_on}
use Rattle.rv32_runner.specs.Runs.{Ran}
use Rattle.arc_top.specs.declared.answer.Answer.{Answer}
use Rattle.arc_top.specs.declared.answer.Answer.TheVariants.{Ended, MachineFault, StepsSpent, ReadFault, WriteFault}

-- the answer to a command whose machine ended so, of so many instructions at most
abbrev pub answer_of : (steps : ℕ) → RunEnd → Answer
answer_of steps (end.Exited status) = Ended status
answer_of steps end.Spent = StepsSpent steps
answer_of steps (end.Fault kind pc word) = MachineFault kind pc word
answer_of steps end.ReadFault = ReadFault
answer_of steps (end.WriteFault stream) = WriteFault stream

-- The machine of the image ran to the end or to so many instructions, and the answer says how it stands. What it read was
-- taken from the input, and what it wrote went to the sinks.
pub record HasRun (steps : ℕ) (image : Image) (answer : Answer) (old new : Streams) : Type 0 where
  pub end : RunEnd
  pub last : State
  pub ran : Ran steps old (first_state image) end last new
  pub answers : answer ≡ answer_of steps end

-- ---- what it says of a meaning

-- A run that was answered so and showed these events is seen in a meaning: that has ended with the same events and status, or,
-- where the run was stopped, its events begin with these.
abbrev pub IsSeen : Answer → List Event → Seen Event → Type 0
IsSeen (Ended status) shown seen = (seen.events ≡ shown) × ((live : Live) × (seen.phase ≡ HasEnded status live))
IsSeen (StepsSpent steps) shown seen = IsPrefix shown seen.events
IsSeen ReadFault shown seen = IsPrefix shown seen.events
IsSeen (WriteFault stream) shown seen = IsPrefix shown seen.events
IsSeen _ shown seen = ⊥

-- a sink got what was due to it; where the answer is that it failed, a front of that
abbrev pub Received : Answer → Stream → (old new : Tally) → (due : List ℕ) → Type 0
Received (WriteFault Out) Out old new due = Lost old new due
Received (WriteFault Err) Err old new due = Lost old new due
Received _ stream old new due = Got old new due

-- What the sinks received is what the meaning writes, on the input that was taken and this rest of it.
pub record DoesMeaning (meaning : (input : List ℕ) → Behaviour Event) (answer : Answer) (old new : Streams) (rest : List ℕ) : Type 0 where
  pub given : List ℕ
  pub gave : new.input.gave ≡ old.input.gave ++ given
  pub input : MayGive old.input.left old.input.ended (given ++ rest)
  pub shown : List Event
  pub units : ℕ
  pub seen : IsSeen answer shown (meaning (given ++ rest) units)
  pub out : Received answer Out old.out new.out (bytes_on Out shown)
  pub err : Received answer Err old.err new.err (bytes_on Err shown)

-- so it is whatever rest the input may still give
abbrev pub Does : (meaning : (input : List ℕ) → Behaviour Event) → Answer → (old new : Streams) → Type 0
Does meaning answer old new = (rest : List ℕ) → MayGive new.input.left new.input.ended rest → DoesMeaning meaning answer old new rest

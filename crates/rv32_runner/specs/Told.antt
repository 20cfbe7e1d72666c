-- What a run of a runner says of the machine of the definition.
use Rattle.std.specs.Prelude.{◌≡◌, ℕ, List, [], ◌++◌}
use Rattle.arc_base.specs.declared.outside.Stream.TheVariants.{Out, Err}
use Rattle.arc_base.specs.Event.{Event}
use Rattle.arc_base.specs.Behaviour.{Phase, Running, Ended, Faulted}
use Rattle.arc_base.specs.Outside.{Rose}
use Rattle.rv32_isa.specs.declared.image.HookAt.{HookAt}
use Rattle.rv32_isa.specs.Image.{Image}
use Rattle.rv32_isa.specs.State.{State}
use Rattle.rv32_isa.specs.Machine.{Standing, Runs, HasExited, HasFaulted, standing, Lives, machine}
use Rattle.rv32_runner.specs.declared.runner.RunEnd.{RunEnd}
use Rattle.rv32_runner.specs.declared.runner.RunEnd.TheVariants.{Exited, Spent, Fault, ReadFault, WriteFault}
use Rattle.rv32_runner.specs.Streams.{Streams, MayGive, Got, bytes_on}
use Rattle.rv32_runner.specs.Runs.{on}

-- no source and no sink failed
abbrev pub IsOfMachine : RunEnd → Type 0
IsOfMachine Spent = Unit {0}
IsOfMachine (Exited status) = Unit {0}
IsOfMachine (Fault kind pc word) = Unit {0}
IsOfMachine ReadFault = ⊥
IsOfMachine (WriteFault stream) = ⊥

-- the machine stands so, and has shown these events
abbrev pub Tells : RunEnd → State → List ℕ → List Event → Standing → Type 0
Tells Spent t rest shown x = x ≡ Runs shown (on t rest)
Tells (Exited status) t rest shown x = x ≡ HasExited shown status (on t rest)
Tells (Fault kind pc word) t rest shown x = x ≡ HasFaulted shown kind pc word (on t rest)
Tells ReadFault t rest shown x = ⊥
Tells (WriteFault stream) t rest shown x = ⊥

-- After n instructions on what the source gave and may still give, the machine, whose image has these hooks, stands as the
-- answer says, and the sinks got what it wrote.
pub record Told (hooks : List HookAt) (n : ℕ) (old : Streams) (s : State) (answer : RunEnd) (t : State) (new : Streams) (rest : List ℕ) : Type 0 where
  pub given : List ℕ
  pub gave : new.input.gave ≡ old.input.gave ++ given
  pub input : MayGive old.input.left old.input.ended (given ++ rest)
  pub faults : new.input.faults ≡ old.input.faults
  pub shown : List Event
  pub stands : Tells answer t rest shown (standing hooks n (on s (given ++ rest)) [])
  pub out : Got old.out new.out (bytes_on Out shown)
  pub err : Got old.err new.err (bytes_on Err shown)

-- how a run that ended so in this state is seen
abbrev pub IsSeen : Lives → RunEnd → State → Phase → Type 0
IsSeen live Spent t phase = phase ≡ Running
IsSeen live (Exited status) t phase = phase ≡ Ended status (live t)
IsSeen live (Fault kind pc word) t phase = phase ≡ Faulted
IsSeen live ReadFault t phase = ⊥
IsSeen live (WriteFault stream) t phase = ⊥

-- After n instructions of the image on what the source gave and may still give, the machine is seen as the answer says, and
-- the sinks got the bytes that it wrote.
pub record Saw (live : Lives) (image : Image) (n : ℕ) (old : Streams) (answer : RunEnd) (t : State) (new : Streams) (rest : List ℕ) : Type 0 where
  pub given : List ℕ
  pub gave : new.input.gave ≡ old.input.gave ++ given
  pub input : MayGive old.input.left old.input.ended (given ++ rest)
  pub faults : new.input.faults ≡ old.input.faults
  pub phase : IsSeen live answer t (machine live image (given ++ rest) n).phase
  pub out : Got old.out new.out (bytes_on Out (machine live image (given ++ rest) n).events)
  pub err : Got old.err new.err (bytes_on Err (machine live image (given ++ rest) n).events)

-- Which count of faults rose: that of the stream that the answer names, and no other.
abbrev pub Causes : RunEnd → Streams → Streams → Type 0
Causes Spent old new = (new.input.faults ≡ old.input.faults) × ((new.out.faults ≡ old.out.faults) × (new.err.faults ≡ old.err.faults))
Causes (Exited status) old new = (new.input.faults ≡ old.input.faults) × ((new.out.faults ≡ old.out.faults) × (new.err.faults ≡ old.err.faults))
Causes (Fault kind pc word) old new = (new.input.faults ≡ old.input.faults) × ((new.out.faults ≡ old.out.faults) × (new.err.faults ≡ old.err.faults))
Causes ReadFault old new = Rose old.input.faults new.input.faults × ((new.out.faults ≡ old.out.faults) × (new.err.faults ≡ old.err.faults))
Causes (WriteFault Out) old new = Rose old.out.faults new.out.faults × ((new.input.faults ≡ old.input.faults) × (new.err.faults ≡ old.err.faults))
Causes (WriteFault Err) old new = Rose old.err.faults new.err.faults × ((new.input.faults ≡ old.input.faults) × (new.out.faults ≡ old.out.faults))

-- How far a runner brings its machine, with what it takes from a source and what it gives to two sinks.
use Rattle.std.specs.Prelude.{◌≡◌, ◌<◌, ℕ, ◌+◌, List, [], ◌++◌, length, Some, true}
use Rattle.arc_base.specs.declared.outside.Stream.{Stream}
use Rattle.arc_base.specs.declared.outside.Stream.TheVariants.{Out, Err}
use Rattle.arc_base.specs.Event.{Event, writes}
use Rattle.arc_base.specs.Outside.{Rose}
use Rattle.rv32_isa.specs.Regions.{as_bytes}
use Rattle.rv32_isa.specs.declared.image.HookAt.{HookAt}
use Rattle.rv32_isa.specs.State.{State, reg, readable, writable, filled}
use Rattle.rv32_isa.specs.Steps.{Calls, outcome}
use Rattle.rv32_isa.specs.Machine.{Run, On, Runs, advance, standing, stream_of}
use Rattle.rv32_isa.specs.Machine as comes
use Rattle.rv32_runner.specs.declared.runner.RunEnd.{RunEnd}
use Rattle.rv32_runner.specs.declared.runner.RunEnd.TheVariants.{Exited, Spent, Fault, ReadFault, WriteFault}
use Rattle.rv32_runner.specs.Streams.{Streams, Gave, MayGive, Got, Lost, bytes_on}

-- a runner: its machine, and its last answer, which is Spent as long as nothing has ended the run
pub record RunnerState : Type 0 where
  pub machine : State
  pub last : RunEnd

-- a state of the machine with an input
abbrev pub on : State → List ℕ → Run
on s input = record { state = s; input = input }

-- With these hooks a run of so many instructions leads from one state to another, and the sinks got what it wrote.
pub record Leads (hooks : List HookAt) (count : ℕ) (old : Streams) (first last : Run) (new : Streams) : Type 0 where
  pub shown : List Event
  pub stands : standing hooks count first [] ≡ Runs shown last
  pub out : Got old.out new.out (bytes_on Out shown)
  pub err : Got old.err new.err (bytes_on Err shown)

-- The machine came so many instructions further, whatever hooks its image has. Its input is what the source gave, and whatever
-- it may still give; the sinks got what the machine wrote; and no call of them failed.
pub record Carried (count : ℕ) (old : Streams) (s : State) (t : State) (new : Streams) : Type 0 where
  pub given : List ℕ
  pub gave : Gave old.input new.input given
  pub faults : new.input.faults ≡ old.input.faults
  pub leads : (hooks : List HookAt) (rest : List ℕ) → MayGive new.input.left new.input.ended rest → Leads hooks count old (on s (given ++ rest)) (on t rest) new

-- machine and streams are as they were
abbrev pub Same : State → Streams → State → Streams → Type 0
Same s old t new = (t ≡ s) × (new ≡ old)

-- the machine is about to read input
pub record IsRead (s : State) : Type 0 where
  pub due : outcome s ≡ Calls
  pub number : reg s 17 ≡ 63
  pub from_input : reg s 10 ≡ 0
  pub to : writable s (reg s 11) (reg s 12) ≡ true

-- It asks for more bytes than the source gave before it failed; these were put into the memory.
pub record ReadFails (s : State) (old : Streams) (t : State) (new : Streams) : Type 0 where
  pub asks : IsRead s
  pub given : List ℕ
  pub fewer : length given < reg s 12
  pub gave : Gave old.input new.input given
  pub state : t ≡ filled s (reg s 11) (as_bytes given)
  pub rose : Rose old.input.faults new.input.faults
  pub out : new.out ≡ old.out
  pub err : new.err ≡ old.err

-- the machine is about to write these bytes to a stream, and what comes of it where the stream takes them
pub record IsWrite (s : State) (stream : Stream) (bytes : List ℕ) : Type 0 where
  pub due : outcome s ≡ Calls
  pub number : reg s 17 ≡ 64
  pub names : stream_of (reg s 10) ≡ Some stream
  pub from : readable s (reg s 11) (reg s 12) ≡ Some bytes
  pub next : State
  pub comes : (input : List ℕ) → advance (on s input) ≡ On (on next input) (writes stream bytes)

-- what the next instruction comes to, where the run ends there
abbrev pub Halts : State → Streams → RunEnd → State → Streams → Type 0
Halts s old Spent t new = ⊥
Halts s old (Exited status) t new = Same s old t new × ((input : List ℕ) → advance (on s input) ≡ comes.Exited status)
Halts s old (Fault kind pc word) t new = Same s old t new × ((input : List ℕ) → advance (on s input) ≡ comes.Faulted kind pc word)
Halts s old ReadFault t new = ReadFails s old t new
Halts s old (WriteFault Out) t new =
    (bytes : List ℕ) × (IsWrite s Out bytes × (Lost old.out new.out bytes × ((t ≡ s) × ((new.input ≡ old.input) × (new.err ≡ old.err)))))
Halts s old (WriteFault Err) t new =
    (bytes : List ℕ) × (IsWrite s Err bytes × (Lost old.err new.err bytes × ((t ≡ s) × ((new.input ≡ old.input) × (new.out ≡ old.out)))))

-- where the answer is Spent, no instruction is left; else there is one that ends the run
abbrev pub Ends : (left : ℕ) → State → Streams → RunEnd → State → Streams → Type 0
Ends left s old Spent t new = (left ≡ 0) × Same s old t new
Ends left s old answer t new = (0 < left) × Halts s old answer t new

-- The machine was carried some instructions on, and then no instruction of these n was left, or the next one ended the run.
pub record Ran (n : ℕ) (old : Streams) (s : State) (answer : RunEnd) (t : State) (new : Streams) : Type 0 where
  pub done : ℕ
  pub left : ℕ
  pub all : n ≡ done + left
  pub at : State
  pub mid : Streams
  pub carried : Carried done old s at mid
  pub ends : Ends left at mid answer t new

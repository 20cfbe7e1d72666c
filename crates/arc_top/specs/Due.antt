-- Which answer is due where the outside tells what it holds, and no count of faults rose: by what stands under the name that the
-- command reads, and by where the machine stands.
use Rattle.std.specs.Prelude.{◌≡◌, ◌<◌, ◌≤◌, ℕ, List, length, ⊤, Option, Some, None}
use Rattle.arc_base.specs.Event.{Event}
use Rattle.arc_base.specs.Behaviour.{Behaviour, Live, Ended as HasEnded}
use Rattle.arc_base.specs.Outside.{Held, Rose}
use Rattle.arc_base.specs.declared.outside.Stream.TheVariants.{Out, Err}
use Rattle.arc_base.specs.declared.place.Place.{Place}
use Rattle.arc_base.specs.declared.place.Code.{Code}
use Rattle.elf32.specs.declared.file.ElfFault.{ElfFault}
use Rattle.elf32.specs.Elf.{File, Elf}
use Rattle.elf32.specs.Faults.{HasFault}
use Rattle.rv32_isa.specs.Machine.{Standing, Runs, HasExited, HasFaulted, shown_by}
use Rattle.rv32_runner.specs.Streams.{Streams, Got, bytes_on}
use Rattle.command_words.specs.Command.{Command, check, build, run, mean, exec, file_of}
use Rattle.core_compiler.specs.Compile.{time_for}
use Rattle.source_compiler.specs.Compile.{IsProgram, IsNoProgram, source_most}
use Rattle.arc_top.specs.declared.answer.Answer.{Answer}
use Rattle.arc_top.specs.declared.answer.Answer.TheVariants.{Done, Ended, NoFile, TooLong, Refused, BadElf, MachineFault, StepsSpent, Memory}
use Rattle.arc_top.specs.Top.{World, Carries, limits_of, MakesCode, file_most}

-- ---- what the outside tells

-- no count of the streams rose
pub record NoStreamFails (old new : Streams) : Type 0 where
  pub input : Rose old.input.faults new.input.faults → ⊥
  pub out : Rose old.out.faults new.out.faults → ⊥
  pub err : Rose old.err.faults new.err.faults → ⊥

-- no count rose
pub record NothingFails (old new : World) : Type 0 where
  pub loads : Rose old.files.load_faults new.files.load_faults → ⊥
  pub stores : Rose old.files.store_faults new.files.store_faults → ⊥
  pub streams : NoStreamFails old.streams new.streams

-- files tell that these bytes stand under the name, or that nothing does
abbrev pub TellsEntry : Option Held → List ℕ → Option (List ℕ) → Type 0
TellsEntry None name entry = ⊥
TellsEntry (Some held) name entry = held name ≡ entry

-- the command was answered so where this stood under the name that it reads, and no count rose
pub record WasAnswered (command : Command) (entry : Option (List ℕ)) (answer : Answer) : Type 0 where
  pub old : World
  pub new : World
  pub carries : Carries command answer old new
  pub told : TellsEntry old.files.held (file_of command) entry
  pub fine : NothingFails old new

-- ---- by what was read

-- it reads a source
abbrev pub ReadsSource : Command → Type 0
ReadsSource (check main) = ⊤
ReadsSource (build main out heap) = ⊤
ReadsSource (run main heap steps) = ⊤
ReadsSource (mean main heap steps) = ⊤
ReadsSource (exec name steps) = ⊥

abbrev pub Executes : Command → Type 0
Executes (check main) = ⊥
Executes (build main out heap) = ⊥
Executes (run main heap steps) = ⊥
Executes (mean main heap steps) = ⊥
Executes (exec name steps) = ⊤

-- the most bytes that it reads
abbrev pub most_of : Command → ℕ
most_of (check main) = source_most
most_of (build main out heap) = source_most
most_of (run main heap steps) = source_most
most_of (mean main heap steps) = source_most
most_of (exec name steps) = file_most

-- the command came to its end
abbrev pub IsCarriedOut : Command → Answer → Type 0
IsCarriedOut (check main) Done = ⊤
IsCarriedOut (build main out heap) Done = ⊤
IsCarriedOut (run main heap steps) (Ended status) = ⊤
IsCarriedOut (run main heap steps) (StepsSpent n) = ⊤
IsCarriedOut (mean main heap steps) (Ended status) = ⊤
IsCarriedOut (mean main heap steps) (StepsSpent n) = ⊤
IsCarriedOut (exec name steps) (Ended status) = ⊤
IsCarriedOut (exec name steps) (StepsSpent n) = ⊤
IsCarriedOut (exec name steps) (MachineFault kind pc word) = ⊤
IsCarriedOut _ _ = ⊥

-- The answers that are due, where the code that the command makes has so many bytes (`MakesCode`). No two of the first six fit one entry, since a
-- source is a program or is refused, and bytes are a file or have a fault.
pub data IsDue (command : Command) (entry : Option (List ℕ)) (code : ℕ) : Answer → Type 0 where
  lacks : entry ≡ None → IsDue command entry code (NoFile (file_of command))
  long : (bytes : List ℕ) → entry ≡ Some bytes → most_of command < length bytes → IsDue command entry code (TooLong (file_of command))
  refused : (source : List ℕ) (why : Code) (at : Place) → ReadsSource command → entry ≡ Some source → MakesCode command source code →
      IsNoProgram (limits_of command code) (file_of command) source why at → IsDue command entry code (Refused why at)
  accepted : (source : List ℕ) (answer : Answer) → ReadsSource command → entry ≡ Some source → MakesCode command source code →
      IsProgram (limits_of command code) (file_of command) source → IsCarriedOut command answer → IsDue command entry code answer
  bad : (bytes : List ℕ) (fault : ElfFault) → Executes command → entry ≡ Some bytes → length bytes ≤ file_most → HasFault bytes fault →
      IsDue command entry code (BadElf fault)
  executed : (bytes : List ℕ) (file : File) (answer : Answer) → Executes command → entry ≡ Some bytes → length bytes ≤ file_most →
      Elf bytes file → IsCarriedOut command answer → IsDue command entry code answer
  wanting : IsDue command entry code Memory

-- the command came to its end, or memory was wanting
abbrev pub IsComplete : Command → Answer → Type 0
IsComplete command Memory = ⊤
IsComplete command answer = IsCarriedOut command answer

-- ---- by where the machine stands

-- the answer where the machine stands so after so many instructions
abbrev pub answer_at : (steps : ℕ) → Standing → Answer
answer_at steps (Runs shown at) = StepsSpent steps
answer_at steps (HasExited shown status at) = Ended status
answer_at steps (HasFaulted shown kind pc word at) = MachineFault kind pc word

-- that is the answer, and the sinks got what the machine has written
pub record IsAnswerAt (steps : ℕ) (stands : Standing) (answer : Answer) (old new : Streams) : Type 0 where
  pub answers : answer ≡ answer_at steps stands
  pub out : Got old.out new.out (bytes_on Out (shown_by stands))
  pub err : Got old.err new.err (bytes_on Err (shown_by stands))

-- ---- by how long a meaning takes

-- where the meaning ends, the instructions in which the machine has to end by its work are more than these
abbrev pub IsCutShort : (steps : ℕ) → (meaning : Behaviour Event) → Type 0
IsCutShort steps meaning = (units status : ℕ) (live : Live) → (meaning units).phase ≡ HasEnded status live → steps < time_for (meaning units).work

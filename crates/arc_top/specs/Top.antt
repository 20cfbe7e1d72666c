-- What the top call promises, command by command.
--
--     MAIN ──load──> source ──compile──> file ──write──> bytes ──store──> OUT
--                       └── Reads: a program ─┐   └─ Elf ─┘
--                                  meaning  ──┼── Agrees ── the machine on the file's image
--                                             └── CameTo ── `mean`
use Rattle.std.specs.Prelude.{◌≡◌, ℕ, List, [], ◌∷◌, ◌++◌, length, ⊤, ◌⊎◌, Some, Ok}
use Rattle.arc_base.specs.FileCalls.{load, store}
use Rattle.arc_base.specs.Outside.{Rose, KeepsOthers, Stores, Writes}
use Rattle.arc_base.specs.declared.outside.Loaded.TheVariants as loaded
use Rattle.arc_base.specs.declared.place.Place.{Place}
use Rattle.arc_base.specs.declared.place.Code.{Code}
use Rattle.elf32.specs.declared.file.ElfFault.{ElfFault}
use Rattle.elf32.specs.Elf.{File, Elf}
use Rattle.elf32.specs.Faults.{HasFault}
use Rattle.nim_program.specs.Program.{Program}
use Rattle.nim_meaning.specs.Meaning.{meaning}
use Rattle.plain_plan.specs.Plain.{plain_plan}
use Rattle.rv32_runner.specs.Streams.{Streams, Tally}
use Rattle.word_runner.specs.declared.mean.MeanEnd.{MeanEnd}
use Rattle.word_runner.specs.declared.mean.MeanEnd.TheVariants as end
use Rattle.word_runner.specs.Sinks.{Told}
use Rattle.command_words.specs.Command.{Command, check, build, run, mean, exec}
use Rattle.source_compiler.specs.Source.{Module, alone, Reads}
use Rattle.program_limits.specs.Limits.{tree_limits}
use Rattle.source_compiler.specs.Limits.{build_limits, check_limits}
use Rattle.core_compiler.specs.Compile.{HasImageWhereBuilt}
use Rattle.core_compiler.specs.Mean.{CameTo, IsEnd}
use Rattle.source_compiler.specs.Limits.{Limits, no_limits}
use Rattle.source_compiler.specs.Compile.{Compiled, HaveCodeWhereWithin, IsProgram, IsNoProgram, source_most}
use Rattle.arc_top.specs.declared.answer.Answer.{Answer}
use Rattle.arc_top.specs.declared.answer.Answer.TheVariants.{Done, Ended, NoFile, TooLong, Refused, BadElf, MachineFault, StepsSpent, ReadFault, WriteFault}
use Rattle.arc_top.specs.declared.answer.Answer.TheVariants.{StoreFault, Memory}
use Rattle.arc_top.specs.Answer.{OnQuiet}
use Rattle.arc_top.specs.Loads.{FilesState, OnEntry, Gives, Lacks, IsLong, LoadFails, Wants}
use Rattle.arc_top.specs.Report.{report_of}
use Rattle.arc_top.specs.Runs.{HasRun, Does}

-- THE HEADLINE. The bytes are one file, and that is the modules compiled: they are one program, and for every input and every
-- number of steps the machine on the file's image agrees with the meaning of the program under the file's plan and heap.
pub record IsFileOf (modules : List Module) (heap : ℕ) (bytes : List ℕ) : Type 0 where
  pub file : File
  pub elf : Elf bytes file
  pub elf_only : (other : File) → Elf bytes other → other ≡ file
  pub compiled : Compiled modules heap file

-- the longest file that is executed, in bytes
abbrev pub file_most : ℕ
file_most = 4194304

-- ---- what stops a command that reads a source

-- which typed programs a command takes, by how many bytes their code has
abbrev pub Taking : Type 0
Taking = (code : ℕ) → Limits

-- whatever their code
abbrev pub always : Limits → Taking
always limits code = limits

-- The main module is no program that a command takes, by so many bytes of code. Where it is a program that isn't refused before it has code,
-- code of so many bytes does what it means.
pub record IsTurnedDown (limits : Taking) (main source : List ℕ) (why : Code) (at : Place) : Type 0 where
  pub bytes : ℕ
  pub code : HaveCodeWhereWithin (alone main source) bytes
  pub refused : IsNoProgram (limits bytes) main source why at

-- the main module can't be loaded, or the command refuses it so
abbrev pub Stops : (refuses : (source : List ℕ) → Code → Place → Type 0) → (main : List ℕ) → Answer → (old new : FilesState) → Type 0
Stops refuses main (NoFile name) old new = (name ≡ main) × Lacks old new main
Stops refuses main (TooLong name) old new = (name ≡ main) × IsLong old new main source_most
Stops refuses main (Refused why at) old new = (source : List ℕ) × Gives old new main source_most source × refuses source why at
Stops refuses main ReadFault old new = LoadFails old new
Stops refuses main _ old new = ⊥

-- ---- `check MAIN`

-- The main module is a program that can be compiled, by so many bytes of code, or has a form that isn't built yet. Where it has none and
-- isn't refused before it has code, code of so many bytes does what it means, and so does an image with such code.
pub record IsChecked (main source : List ℕ) : Type 0 where
  pub bytes : ℕ
  pub code : HaveCodeWhereWithin (alone main source) bytes
  pub program : IsProgram (check_limits bytes) main source
  pub image : HasImageWhereBuilt program.program (plain_plan program.program) bytes

abbrev pub Checks : (main : List ℕ) → Answer → (old new : FilesState) → Type 0
Checks main Done old new = (source : List ℕ) × Gives old new main source_most source × IsChecked main source
Checks main Memory old new = Wants old new main
Checks main answer old new = Stops (IsTurnedDown check_limits main) main answer old new

-- ---- `build MAIN OUT`

-- A load of MAIN gave bytes, and the bytes of their file were handed over, to be stored as OUT. No other call was made, and no
-- other entry changed.
pub record HandsOver (main out : List ℕ) (heap : ℕ) (old new : FilesState) : Type 0 where
  pub source : List ℕ
  pub bytes : List ℕ
  pub calls : new.calls ≡ old.calls ++ load main loaded.Whole source ∷ store out bytes ∷ []
  pub told : OnEntry old.held main (λ entry. entry ≡ Some source)
  pub file : IsFileOf (alone main source) heap bytes
  pub program : IsProgram (build_limits (length file.file.image.code)) main source
  pub others : KeepsOthers old.held new.held out
  pub loads : new.load_faults ≡ old.load_faults

-- they were stored
abbrev pub Stored : (out bytes : List ℕ) → (old new : FilesState) → Type 0
Stored out bytes old new = Stores new.held out bytes × (new.store_faults ≡ old.store_faults)

abbrev pub Builds : (main out : List ℕ) (heap : ℕ) → Answer → (old new : FilesState) → Type 0
Builds main out heap Done old new = (over : HandsOver main out heap old new) × Stored out over.bytes old new
Builds main out heap StoreFault old new = HandsOver main out heap old new × Rose old.store_faults new.store_faults
-- (before the store, or in it)
Builds main out heap Memory old new = Wants old new main ⊎ (HandsOver main out heap old new × (new.store_faults ≡ old.store_faults))
Builds main out heap answer old new = Stops (IsTurnedDown build_limits main) main answer old new

-- ---- what the outside tells

pub record World : Type 0 where
  pub files : FilesState
  pub streams : Streams

abbrev pub world : FilesState → Streams → World
world files streams = record { files = files; streams = streams }

-- a fact of files, where the streams are as they were
abbrev pub OfFiles : (FilesState → FilesState → Type 0) → (old new : World) → Type 0
OfFiles P old new = P old.files new.files × (new.streams ≡ old.streams)

-- ---- `run MAIN`

-- A load of MAIN gave a source, and the machine of its file has run: what it wrote is what the source means.
pub record RunsProgram (main : List ℕ) (heap steps : ℕ) (answer : Answer) (old new : World) : Type 0 where
  pub source : List ℕ
  pub gives : Gives old.files new.files main source_most source
  pub file : File
  pub compiled : Compiled (alone main source) heap file
  pub ran : HasRun steps file.image answer old.streams new.streams
  pub means : Does (meaning compiled.program file.plan heap) answer old.streams new.streams

-- (the machine of a compiled file has no fault)
abbrev pub Runs : (main : List ℕ) (heap steps : ℕ) → Answer → (old new : World) → Type 0
Runs main heap steps (Ended status) old new = RunsProgram main heap steps (Ended status) old new
Runs main heap steps (StepsSpent n) old new = RunsProgram main heap steps (StepsSpent n) old new
Runs main heap steps (WriteFault stream) old new = RunsProgram main heap steps (WriteFault stream) old new
Runs main heap steps ReadFault old new = OfFiles LoadFails old new ⊎ RunsProgram main heap steps ReadFault old new
Runs main heap steps Memory old new = OfFiles (λ before after. Wants before after main) old new
Runs main heap steps answer old new = OfFiles (Stops (IsTurnedDown build_limits main) main answer) old new

-- ---- `mean MAIN`

-- a sink before and after the command
abbrev pub told : (old new : Tally) → Told
told old new = record { before = old.written; now = new.written; faults_before = old.faults; faults_now = new.faults }

-- the answer where running the meaning came to this, with so many units
abbrev pub meant : (steps : ℕ) → MeanEnd → Answer
meant steps (end.Ended status) = Ended status
meant steps end.Going = StepsSpent steps
meant steps end.Wrong = Memory
meant steps end.Faulted = Memory
meant steps end.ReadFault = ReadFault
meant steps (end.WriteFault stream) = WriteFault stream
meant steps end.Memory = Memory

-- A load of MAIN gave a source, which is a typed program whose meaning is built and whose procedures and data aren't too large. What
-- the sinks got is what that writes with so many units, on what the source gave.
pub record MeansProgram (main : List ℕ) (heap steps : ℕ) (answer : Answer) (old new : World) : Type 0 where
  pub source : List ℕ
  pub gives : Gives old.files new.files main source_most source
  pub program : Program
  pub reads : Reads (alone main source) program
  pub taken : tree_limits program ≡ Ok tt
  pub end : MeanEnd
  pub came : CameTo (λ (input : List ℕ). meaning program (plain_plan program) heap input steps) old.streams.input end new.streams.input
      (told old.streams.out new.streams.out) (told old.streams.err new.streams.err)
  pub ends : IsEnd end
  pub answers : answer ≡ meant steps end

-- (no meaning is wrong or at a fault)
abbrev pub RunsMeaning : (main : List ℕ) (heap steps : ℕ) → Answer → (old new : World) → Type 0
RunsMeaning main heap steps (Ended status) old new = MeansProgram main heap steps (Ended status) old new
RunsMeaning main heap steps (StepsSpent n) old new = MeansProgram main heap steps (StepsSpent n) old new
RunsMeaning main heap steps (WriteFault stream) old new = MeansProgram main heap steps (WriteFault stream) old new
-- (before the run, or in it)
RunsMeaning main heap steps ReadFault old new = OfFiles LoadFails old new ⊎ MeansProgram main heap steps ReadFault old new
RunsMeaning main heap steps Memory old new =
    OfFiles (λ before after. Wants before after main) old new ⊎ MeansProgram main heap steps Memory old new
RunsMeaning main heap steps answer old new = OfFiles (Stops (IsNoProgram tree_limits main) main answer) old new

-- ---- `exec ELF`

-- a load of the file gave the bytes of one, and the machine of that has run
pub record RunsFile (name : List ℕ) (steps : ℕ) (answer : Answer) (old new : World) : Type 0 where
  pub bytes : List ℕ
  pub gives : Gives old.files new.files name file_most bytes
  pub file : File
  pub elf : Elf bytes file
  pub ran : HasRun steps file.image answer old.streams new.streams

-- a load gave bytes that are no file, since this part is not as in one
abbrev pub IsBad : (name : List ℕ) → ElfFault → (old new : FilesState) → Type 0
IsBad name fault old new = (bytes : List ℕ) × Gives old new name file_most bytes × HasFault bytes fault

abbrev pub Executes : (name : List ℕ) (steps : ℕ) → Answer → (old new : World) → Type 0
Executes name steps (Ended status) old new = RunsFile name steps (Ended status) old new
Executes name steps (MachineFault kind pc word) old new = RunsFile name steps (MachineFault kind pc word) old new
Executes name steps (StepsSpent n) old new = RunsFile name steps (StepsSpent n) old new
Executes name steps (WriteFault stream) old new = RunsFile name steps (WriteFault stream) old new
Executes name steps ReadFault old new = OfFiles LoadFails old new ⊎ RunsFile name steps ReadFault old new
Executes name steps (NoFile lacking) old new = (lacking ≡ name) × OfFiles (λ before after. Lacks before after name) old new
Executes name steps (TooLong long) old new = (long ≡ name) × OfFiles (λ before after. IsLong before after name file_most) old new
Executes name steps (BadElf fault) old new = OfFiles (IsBad name fault) old new
Executes name steps Memory old new = OfFiles (λ before after. Wants before after name) old new
Executes name steps _ old new = ⊥

-- ---- commands

-- the names of the modules that the command reads, by their numbers
abbrev pub modules_of : Command → List (List ℕ)
modules_of (check main) = main ∷ []
modules_of (build main out heap) = main ∷ []
modules_of (run main heap steps) = main ∷ []
modules_of (mean main heap steps) = main ∷ []
modules_of (exec name steps) = []

-- which typed programs the command takes
abbrev pub limits_of : Command → Taking
limits_of (check main) = check_limits
limits_of (build main out heap) = build_limits
limits_of (run main heap steps) = build_limits
limits_of (mean main heap steps) = always tree_limits
limits_of (exec name steps) = always no_limits

-- so many bytes are those of the code that the command makes of a main module; `mean` and `exec` make none
abbrev pub MakesCode : Command → (source : List ℕ) → (bytes : ℕ) → Type 0
MakesCode (check main) source bytes = HaveCodeWhereWithin (alone main source) bytes
MakesCode (build main out heap) source bytes = HaveCodeWhereWithin (alone main source) bytes
MakesCode (run main heap steps) source bytes = HaveCodeWhereWithin (alone main source) bytes
MakesCode (mean main heap steps) source bytes = ⊤
MakesCode (exec name steps) source bytes = ⊤

-- what an answer to a command says of the outside before the command, and after it but for the line of the answer
abbrev pub Answered : Command → Answer → (old new : World) → Type 0
Answered (check main) answer old new = OfFiles (Checks main answer) old new
Answered (build main out heap) answer old new = OfFiles (Builds main out heap answer) old new
Answered (run main heap steps) answer old new = Runs main heap steps answer old new
Answered (mean main heap steps) answer old new = RunsMeaning main heap steps answer old new
Answered (exec name steps) answer old new = Executes name steps answer old new

-- the outside, with standard error as it was before the line
abbrev pub before_line : World → Tally → World
before_line w err = world w.files (record { input = w.streams.input; out = w.streams.out; err = err })

-- standard error got the line of the answer, or a front of it and its count of faults rose; an answer without a line leaves it
abbrev pub Reports : (names : List (List ℕ)) → Answer → (old new : Tally) → Type 0
Reports names answer old new = Writes old.written new.written old.faults new.faults (report_of names answer)

-- the command was answered, and then the answer was said
pub record Carries (command : Command) (answer : Answer) (old new : World) : Type 0 where
  pub err : Tally
  pub answered : Answered command answer old (before_line new err)
  pub said : Reports (modules_of command) answer err new.streams.err
  pub quiet : OnQuiet answer (new.streams.err ≡ err)

-- `check` and `build` leave the input and standard output alone
abbrev pub WithoutStreams : Command → Type 0 → Type 0
WithoutStreams (check main) P = P
WithoutStreams (build main out heap) P = P
WithoutStreams (run main heap steps) P = ⊤
WithoutStreams (mean main heap steps) P = ⊤
WithoutStreams (exec name steps) P = ⊤

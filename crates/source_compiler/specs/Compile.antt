-- What the compiler promises of a source and its file.
--
--     source ──Reads──> program ──meaning──> behaviour
--       │                                       │
--       └─────compile────> file ──machine──> behaviour that agrees
use Rattle.std.specs.Prelude.{◌≡◌, ◌≤◌, ℕ, List, [], length, ⊤, Result, Ok, Err, IfErr, None}
use Rattle.arc_base.specs.Behaviour.{Agrees, Sound}
use Rattle.arc_base.specs.Pace.{PacedFrom}
use Rattle.arc_base.specs.Refusal.{IsRefusal}
use Rattle.arc_base.specs.declared.place.Place.{Place}
use Rattle.arc_base.specs.declared.place.Code.{Code}
use Rattle.arc_base.specs.declared.place.Stop.{Stop}
use Rattle.arc_base.specs.declared.place.Stop.TheVariants as stop
use Rattle.nim_plan.specs.declared.plan.Plan.{Plan}
use Rattle.nim_program.specs.Program.{Program}
use Rattle.nim_meaning.specs.Meaning.{meaning}
use Rattle.plain_plan.specs.Plain.{plain_plan}
use Rattle.rv32_isa.specs.Machine.{machine}
use Rattle.elf32.specs.Elf.{File, IsFile}
use Rattle.source_compiler.specs.declared.compiler.NotCompiled.{NotCompiled}
use Rattle.source_compiler.specs.declared.compiler.NotCompiled.TheVariants.{TooLong, Refused, Memory}
use Rattle.source_compiler.specs.declared.source.TheConstants.{SOURCE_MOST}
use Rattle.source_compiler.specs.Source.{Module, alone, Reads, Refuses}
use Rattle.core_compiler.specs.declared.program.TheConstants.{IMAGE_PACE, IMAGE_LATE}
use Rattle.core_compiler.specs.Compile.{live_objects, EndsInTime, HasCode, HasCodeWhereWithin, image_with}
use Rattle.source_compiler.specs.Limits.{Limits, build_limits}
use Rattle.holders.specs.Released.{LeavesNoBlock}
use Rattle.nim_meaning.specs.LeftOut.{first_left_out}

-- THE HEADLINE. The modules are one typed program, which can be compiled. For every input and every number of steps the machine on the
-- file's image agrees with the meaning of the program under the file's plan and this heap, in bytes; its work is in proportion, and where
-- the meaning ends the machine has ended in time. No run of the program is wrong or at a fault, under this plan or another, whatever the heap, and where
-- one comes to its normal end no block is live: each was given back, once.
-- The image is that of code which does the same, with just the stack that its calls need.
-- The file is one that can be written, its plan copies at each site of the program, and there are no hooks.
pub record Compiled (modules : List Module) (heap : ℕ) (file : File) : Type 0 where
  pub program : Program
  pub reads : Reads modules program
  pub reads_only : (other : Program) → Reads modules other → other ≡ program
  pub built : build_limits (length file.image.code) program ≡ Ok tt
  pub allowed : IsFile file
  pub agrees : (input : List ℕ) → Agrees (machine live_objects file.image input) (meaning program file.plan heap input)
  pub paced : (input : List ℕ) → PacedFrom IMAGE_PACE IMAGE_LATE (machine live_objects file.image input) (meaning program file.plan heap input)
  pub in_time : (input : List ℕ) → EndsInTime (machine live_objects file.image input) (meaning program file.plan heap input)
  pub sound : (plan : Plan) (bytes : ℕ) (input : List ℕ) → Sound (meaning program plan bytes input)
  pub released : (plan : Plan) (bytes : ℕ) (input : List ℕ) → LeavesNoBlock program plan bytes input
  pub code : HasCode program file.plan (length file.image.code)
  pub made : file.image ≡ image_with heap code
  pub plan : file.plan ≡ plain_plan program
  pub heap_is : file.image.heap ≡ heap
  pub hooks : file.image.hooks ≡ []

-- no block is left where a run ends normally, where all of the program is built
abbrev pub ReleasesWhereBuilt : Program → Plan → Type 0
ReleasesWhereBuilt program plan = first_left_out program ≡ None → (heap : ℕ) (input : List ℕ) → LeavesNoBlock program plan heap input

-- Where the modules are a typed program that isn't refused before it has code, code of so many bytes does what that means under its plan.
abbrev pub HaveCodeWhereWithin : List Module → (bytes : ℕ) → Type 0
HaveCodeWhereWithin modules bytes = (program : Program) → Reads modules program → HasCodeWhereWithin program (plain_plan program) bytes

-- the longest source
abbrev pub source_most : ℕ
source_most = SOURCE_MOST

-- The bytes are those of a main module that is within the limit and is a typed program, and a command with these limits
-- can do what it says with it.
pub record IsProgram (limits : Limits) (name source : List ℕ) : Type 0 where
  pub within : length source ≤ source_most
  pub program : Program
  pub reads : Reads (alone name source) program
  pub taken : limits program ≡ Ok tt

-- modules are refused: they are no typed program, else the command can't do with it what it says
pub data AreTurnedDown (limits : Limits) (modules : List Module) (code : Code) (at : Place) : Type 0 where
  by_reading : Refuses modules code at → AreTurnedDown limits modules code at
  by_limits : (program : Program) → Reads modules program → IsRefusal (limits program) code at → AreTurnedDown limits modules code at

-- the bytes are those of a main module that is within the limit and is refused
pub record IsNoProgram (limits : Limits) (name source : List ℕ) (code : Code) (at : Place) : Type 0 where
  pub within : length source ≤ source_most
  pub refused : AreTurnedDown limits (alone name source) code at

-- ---- answers

abbrev pub OnTooLong : NotCompiled → Type 0 → Type 0
OnTooLong TooLong P = P
OnTooLong (Refused code at) P = ⊤
OnTooLong Memory P = ⊤

abbrev pub OnRefused : NotCompiled → (Code → Place → Type 0) → Type 0
OnRefused TooLong P = ⊤
OnRefused (Refused code at) P = P code at
OnRefused Memory P = ⊤

abbrev pub IsOkOrMemory : {T : Type 0} → Result T NotCompiled → Type 0
IsOkOrMemory (Ok x) = ⊤
IsOkOrMemory (Err TooLong) = ⊥
IsOkOrMemory (Err (Refused code at)) = ⊥
IsOkOrMemory (Err Memory) = ⊤

-- it is compiled or refused
abbrev pub WhereDecided : {T : Type 0} → Result T NotCompiled → Type 0 → Type 0
WhereDecided (Ok x) P = P
WhereDecided (Err TooLong) P = ⊤
WhereDecided (Err (Refused code at)) P = P
WhereDecided (Err Memory) P = ⊤

-- a source is compiled, or refused as the limits of `build` say of so many bytes of code; and so many has its code
pub record DecidedBy (bytes : ℕ) (source : List ℕ) {T : Type 0} (result : Result T NotCompiled) : Type 0 where
  pub refused : IfErr result (λ e. OnRefused e (λ code at. (name : List ℕ) → IsNoProgram (build_limits bytes) name source code at))
  pub complete : (name : List ℕ) → IsProgram (build_limits bytes) name source → IsOkOrMemory result
  pub code : WhereDecided result ((name : List ℕ) → HaveCodeWhereWithin (alone name source) bytes)

-- what a front-end call said, said of the source
abbrev pub IsStop : Stop → NotCompiled → Type 0
IsStop (stop.Refused code at) e = e ≡ Refused code at
IsStop stop.Memory e = e ≡ Memory

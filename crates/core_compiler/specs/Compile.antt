-- What code of a typed program does and how many bytes it has, and what its image does.
use Rattle.std.specs.Prelude.{◌≡◌, ◌≢◌, ◌≤◌, ℕ, ◌+◌, ◌*◌, All, List, [], length, Some, None, Ok, Result, Err}
use Rattle.arc_base.specs.Event.{Event}
use Rattle.arc_base.specs.Behaviour.{Live, Ended, Behaviour, Agrees, Sound, no_objects}
use Rattle.arc_base.specs.Pace.{PacedFrom}
use Rattle.arc_base.specs.declared.place.Stop.{Stop}
use Rattle.arc_base.specs.declared.place.Stop.TheVariants.{Refused, Memory}
use Rattle.nim_types.specs.Types.{Ty, members, Facts, fact_of}
use Rattle.nim_plan.specs.declared.plan.Plan.{Plan}
use Rattle.nim_program.specs.Program.{Program}
use Rattle.nim_program.specs.Typed.{IsTyped}
use Rattle.nim_meaning.specs.Meaning.{meaning}
use Rattle.nim_meaning.specs.LeftOut.{first_left_out}
use Rattle.rv32_isa.specs.declared.label.LabelLine.{LabelLine}
use Rattle.rv32_isa.specs.Image.{Image}
use Rattle.rv32_isa.specs.Labels.{AreLines}
use Rattle.rv32_isa.specs.Machine.{Lives, machine}
use Rattle.word_code.specs.declared.word.WordCode.{WordCode}
use Rattle.word_code.specs.Words.{word_meaning, Fresh}
use Rattle.nim_types.specs.declared.types.TheConstants.{WORD_BYTES}
use Rattle.program_limits.specs.declared.texts.TheConstants.{FEW_TEXTS}
use Rattle.word_code.specs.declared.routine.TheConstants.{RUNTIME_DATA}
use Rattle.heap_memory.specs.declared.numbers.TheConstants.{HEAP_DATA}
use Rattle.program_limits.specs.Data.{data_counted}
use Rattle.word_lowering.specs.declared.lowering.TheConstants.{MOST_HEAP, MORE_DATA}
use Rattle.reg_scan.specs.declared.homes.Homes.{Homes}
use Rattle.rv32_codegen.specs.Layout.{code_size, laid_out}
use Rattle.rv32_codegen.specs.Lowering.{AllHomes, CanRun, AlwaysDoes, MakeFrames}
use Rattle.rv32_codegen.specs.Stack.{stack_need}
use Rattle.core_compiler.specs.declared.program.TheConstants.{IMAGE_PACE, IMAGE_LATE, TIME_PACE, TIME_LATE}
use Rattle.program_limits.specs.Limits.{tree_limits}
use Rattle.core_compiler.specs.Limits.{code_bound}

-- a program has no objects yet
abbrev pub live_objects : Lives
live_objects state = no_objects

-- each member of an enum has a name
pub record MembersNamed (facts : Facts) : Type 0 where
  pub names : (ty : Ty) (all : List (List ℕ)) → fact_of facts ty ≡ Some (members all) → All (λ name. name ≢ []) all

-- the instructions after which a machine has exited whose program ends with so much work
abbrev pub time_for : (work : ℕ) → ℕ
time_for work = TIME_PACE * (work + TIME_LATE)

-- where high ends, low has ended with the same status in the time that this takes
abbrev pub EndsInTime : (low high : Behaviour Event) → Type 0
EndsInTime low high = (n status : ℕ) (live : Live) → (high n).phase ≡ Ended status live →
    (other : Live) × ((low (time_for (high n).work)).phase ≡ Ended status other)

-- ---- code

-- The lines are label code of word code whose variables have these homes: they do what the word code does, with each heap and each stack
-- from what these homes need on that a machine may have, and the frames and places that they make are those of these homes and procedures.
-- A machine may have just the stack that is needed, with each heap.
pub record IsLabelCode (words : WordCode) (homes : List Homes) (lines : List LabelLine) : Type 0 where
  pub right : AllHomes words.procs homes
  pub fits : AreLines lines
  pub does : AlwaysDoes lines words homes
  pub frames : MakeFrames lines words.procs homes
  pub can : (heap : ℕ) → heap ≤ MOST_HEAP → CanRun words homes heap (stack_need words.procs homes)

-- Code of so many bytes does what the program means under a plan: label code of word code that means the same, with each heap and each stack
-- that a machine may have, whatever bytes new places bring. The bytes are those that the lines have where they are laid out, and no more than the
-- bound for the program under the plan, with its types by number; a program that is read from a source has no list of these, and then it is one under
-- which it is typed. Its data are at most those of the program that count, and 6,268 bytes more.
pub record HasCode (program : Program) (plan : Plan) (bytes : ℕ) : Type 0 where
  pub words : WordCode
  pub homes : List Homes
  pub lines : List LabelLine
  pub code : IsLabelCode words homes lines
  pub agrees : (fresh : Fresh) (heap stack : ℕ) (input : List ℕ) → CanRun words homes heap stack →
      Agrees (word_meaning live_objects words fresh heap stack input) (meaning program plan heap input)
  pub size : code_size lines ≡ bytes
  pub types : List Ty
  pub own : program.types ≢ [] → types ≡ program.types
  pub typed : IsTyped (record program { types = types })
  pub bound : bytes ≤ code_bound program plan types
  pub data_most : length words.statics ≤ data_counted program + (WORD_BYTES * FEW_TEXTS + (HEAP_DATA + MORE_DATA + RUNTIME_DATA))

-- the image of code with such a heap, and with just the stack that it needs
abbrev pub image_with : {program : Program} {plan : Plan} {bytes : ℕ} → (heap : ℕ) → HasCode program plan bytes → Image
image_with heap has = laid_out has.lines has.words.statics heap (stack_need has.words.procs has.homes)

-- ---- the number of bytes by which a program is taken or refused

-- so many are those of its code, where it isn't refused before it has any
abbrev pub HasCodeWhereWithin : Program → Plan → (bytes : ℕ) → Type 0
HasCodeWhereWithin program plan bytes = tree_limits program ≡ Ok tt → HasCode program plan bytes

-- there was an answer or a refusal; where memory was wanting, code need not be made
abbrev pub UnlessMemory : {T : Type 0} → Result T Stop → Type 0 → Type 0
UnlessMemory (Ok x) P = P
UnlessMemory (Err (Refused code at)) P = P
UnlessMemory (Err Memory) P = Unit {0}

-- ---- the image

-- For every input the machine on the image does what the program means under the plan, with the heap that the image has; its work is in
-- proportion, and it ends in time. The image is that of code which does the same.
pub record DoesProgram (program : Program) (plan : Plan) (heap : ℕ) (image : Image) : Type 0 where
  pub agrees : (input : List ℕ) → Agrees (machine live_objects image input) (meaning program plan heap input)
  pub paced : (input : List ℕ) → PacedFrom IMAGE_PACE IMAGE_LATE (machine live_objects image input) (meaning program plan heap input)
  pub in_time : (input : List ℕ) → EndsInTime (machine live_objects image input) (meaning program plan heap input)
  pub code : HasCode program plan (length image.code)
  pub made : image ≡ image_with heap code
  pub heap_is : image.heap ≡ heap
  pub hooks : image.hooks ≡ []

-- some image, with some heap, does what the program means, and so many bytes are its code
pub record HasImage (program : Program) (plan : Plan) (code : ℕ) : Type 0 where
  pub heap : ℕ
  pub image : Image
  pub does : DoesProgram program plan heap image
  pub bytes : length image.code ≡ code

-- the image of which the limits of `check` speak, where all of the program is built
abbrev pub HasImageWhereBuilt : Program → Plan → (code : ℕ) → Type 0
HasImageWhereBuilt program plan code = first_left_out program ≡ None → HasImage program plan code

-- no run of it is wrong, where all of it is built
abbrev pub IsSoundWhereBuilt : Program → Plan → Type 0
IsSoundWhereBuilt program plan = first_left_out program ≡ None → (heap : ℕ) (input : List ℕ) → Sound (meaning program plan heap input)

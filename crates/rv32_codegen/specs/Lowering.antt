-- What the label code of word code does.
--
--     word code ──code──> label code ──lay_out──> image
use Rattle.std.specs.Prelude.{◌≡◌, ◌≤◌, ◌<◌, ℕ, ◌+◌, ◌*◌, ◌%◌, ◌^◌, Bool, true, false, not, ◌&&◌}
use Rattle.std.specs.Prelude.{List, [], ◌∷◌, ◌++◌, map, length, Option, Some, None}
use Rattle.arc_base.specs.Behaviour.{Agrees, Sound}
use Rattle.arc_base.specs.Pace.{Paced}
use Rattle.rv32_isa.specs.Machine.{Lives}
use Rattle.rv32_isa.specs.State.{State, reg}
use Rattle.rv32_isa.specs.Image.{stack_at}
use Rattle.rv32_isa.specs.Values.{added, subtracted}
use Rattle.rv32_isa.specs.Steps.{Goes, obey}
use Rattle.rv32_isa.specs.declared.instr.Instr.{Instr}
use Rattle.rv32_isa.specs.declared.instr.Instr.TheVariants.{Jalr, Ebreak}
use Rattle.rv32_isa.specs.declared.label.Test.{Test}
use Rattle.rv32_isa.specs.declared.label.HookLabel.{HookLabel}
use Rattle.rv32_isa.specs.declared.label.LabelName.TheVariants.{Entry, Inner}
use Rattle.rv32_isa.specs.declared.label.LabelLine.{LabelLine}
use Rattle.rv32_isa.specs.declared.label.LabelLine.TheVariants.{Label, Do, Jump, Branch}
use Rattle.rv32_isa.specs.Labels.{is_jalr, from_label, Addresses, Rise, marks}
use Rattle.rv32_isa.specs.LabelsMeaning.{OfDataAndHeap, is_straight, start, label_meaning}
use Rattle.word_code.specs.declared.word.WordProc.{WordProc}
use Rattle.word_code.specs.declared.word.WordCode.{WordCode}
use Rattle.word_code.specs.Memory.{data_of}
use Rattle.word_code.specs.Sizes.{word_line_count, has_no_circle}
use Rattle.word_code.specs.Words.{Fresh, from_proc, first_of, has_number, word_meaning}
use Rattle.reg_scan.specs.declared.homes.Homes.{Homes}
use Rattle.reg_scan.specs.Homes.{IsHomes}
use Rattle.rv32_codegen.specs.declared.label_code.TheConstants.{CODE_PACE, LINES_OF_LINE, LINES_OF_PROC, LINES_OF_START}
use Rattle.rv32_codegen.specs.Stack.{frame_for, stack_need}

-- homes for each procedure, in order
abbrev pub AllHomes : List WordProc → List Homes → Type 0
AllHomes [] [] = Unit {0}
AllHomes [] (h ∷ homes) = ⊥
AllHomes (p ∷ procs) [] = ⊥
AllHomes (p ∷ procs) (h ∷ homes) = IsHomes p h × AllHomes procs homes

-- Data, heap and stack with which it may run.
pub record CanRun (code : WordCode) (homes : List Homes) (heap stack : ℕ) : Type 0 where
  pub no_circle : has_no_circle code.procs ≡ true
  pub statics_most : length code.statics ≤ 1048568
  pub heap_most : heap ≤ 16777216
  pub stack_whole : stack % 16 ≡ 0
  pub stack_least : stack_need code.procs homes ≤ stack
  pub stack_most : stack ≤ 268435456

-- The lines do what the word code does, where their marks have these addresses, on this heap, stack and input, and nobody has written these
-- bytes of new places.
pub record DoesWords (lines : List LabelLine) (code : WordCode) (live : Lives) (at : Addresses) (fresh : Fresh) (heap stack : ℕ) (input : List ℕ) :
    Type 0 where
  pub agrees : Agrees (label_meaning live lines at (data_of heap stack code.statics) heap stack input) (word_meaning live code fresh heap stack input)
  pub paced : Paced CODE_PACE (label_meaning live lines at (data_of heap stack code.statics) heap stack input)
      (word_meaning live code fresh heap stack input)

-- They do so under all addresses that rise, whatever is said of live objects, on each heap and stack with which it may run, where new places
-- have the bytes that calls which are over have left in the stack.
abbrev pub AlwaysDoes : List LabelLine → WordCode → List Homes → Type 0
AlwaysDoes lines code homes =
    (live : Lives) (at : Addresses) (heap stack : ℕ) (input : List ℕ) → OfDataAndHeap live → Rise at (marks lines) →
    CanRun code homes heap stack →
    (fresh : Fresh) × (Sound (word_meaning live code fresh heap stack input) → DoesWords lines code live at fresh heap stack input)

-- ---- the frames and places that lines make: x2 is where the frame of the running call begins, x3 where its places end

-- behind it the next line follows, if any does
abbrev pub has_next : Instr → Bool
has_next i = is_straight i && not (is_jalr i)

-- From a state on, these instructions go on one after another, and this holds behind the last of them.
pub data HoldsBehind (There : State → Type 0) : State → List Instr → Type 0 where
  there : {s : State} → There s → HoldsBehind There s []
  first : {s next : State} {i : Instr} {is : List Instr} → has_next i ≡ true → obey s 0 0 i ≡ Goes next → HoldsBehind There next is →
      HoldsBehind There s (i ∷ is)

-- where an address leads that moves up by so many bytes, and down
abbrev pub up_by : (bytes address : ℕ) → ℕ
up_by bytes address = added address bytes

abbrev pub down_by : (bytes address : ℕ) → ℕ
down_by bytes address = subtracted address (bytes % 2 ^ 32)

-- what x2 and x3 are now comes from what they were
abbrev pub Moved : (frame places : ℕ → ℕ) → (old new : State) → Type 0
Moved frame places old new = (reg new 2 ≡ frame (reg old 2)) × (reg new 3 ≡ places (reg old 3))

-- Instructions move x2 and x3 so, whatever the state is.
abbrev pub MovesStack : (frame places : ℕ → ℕ) → List Instr → Type 0
MovesStack frame places is =
    (s : State) → length s.regs ≡ 32 → reg s 2 < 2 ^ 32 → reg s 3 < 2 ^ 32 → HoldsBehind (Moved frame places s) s is

-- An instruction leaves x2 and x3 as they are. (The environment's calls write x10 alone.)
pub record LeavesStack (i : Instr) : Type 0 where
  pub on : has_next i ≡ true
  pub frame : (s next : State) → obey s 0 0 i ≡ Goes next → reg next 2 ≡ reg s 2
  pub places : (s next : State) → obey s 0 0 i ≡ Goes next → reg next 3 ≡ reg s 3

-- These lines of a procedure, up to the next one, leave x2 and x3 as they are: only before a return x2 goes up by the frame, and x3 down by
-- the room of the places. Control stays in them but for calls and returns: jumps lead to the procedure's own labels, and the last line is an
-- `ebreak`.
pub data KeepsStack (number frame room : ℕ) : List LabelLine → Type 0 where
  last : KeepsStack number frame room (Do Ebreak ∷ [])
  last_before : {other : ℕ} {hook : Option HookLabel} {lines : List LabelLine} →
      KeepsStack number frame room (Do Ebreak ∷ Label (Entry other) hook ∷ lines)
  labelled : {name : ℕ} {hook : Option HookLabel} {lines : List LabelLine} → KeepsStack number frame room lines →
      KeepsStack number frame room (Label (Inner number name) hook ∷ lines)
  leaves : {i : Instr} {lines : List LabelLine} → LeavesStack i → KeepsStack number frame room lines → KeepsStack number frame room (Do i ∷ lines)
  jumps : {name : ℕ} {lines : List LabelLine} → KeepsStack number frame room lines → KeepsStack number frame room (Jump 0 (Inner number name) ∷ lines)
  branches : {test : Test} {left right name : ℕ} {lines : List LabelLine} → KeepsStack number frame room lines →
      KeepsStack number frame room (Branch test left right (Inner number name) ∷ lines)
  calls : {callee : ℕ} {lines : List LabelLine} → KeepsStack number frame room lines → KeepsStack number frame room (Jump 1 (Entry callee) ∷ lines)
  returns : (before : List Instr) {lines : List LabelLine} → MovesStack (up_by frame) (down_by room) before → KeepsStack number frame room lines →
      KeepsStack number frame room (map Do before ++ Do (Jalr 0 1 0) ∷ lines)

-- Right behind its label the procedure of that number makes a frame of so many bytes, and places of so many behind those of the call that
-- called it; and its lines keep them, also where its labels lead.
pub record MakesFrame (lines : List LabelLine) (number frame room : ℕ) : Type 0 where
  pub hook : Option HookLabel
  pub made : List Instr
  pub body : List LabelLine
  pub begins : from_label (Entry number) lines ≡ Some (Label (Entry number) hook ∷ (map Do made ++ body))
  pub makes : MovesStack (down_by frame) (up_by room) made
  pub keeps : KeepsStack number frame room body
  pub labels : (name : ℕ) (found : List LabelLine) → from_label (Inner number name) lines ≡ Some found → KeepsStack number frame room found

-- The lines begin with these instructions, behind which x2 is the end of the stack and x3 where it begins: there are no frames and no
-- places yet. They go on in procedure 0.
pub record SetUp (lines : List LabelLine) : Type 0 where
  pub made : List Instr
  pub rest : List LabelLine
  pub begins : lines ≡ map Do made ++ Jump 0 (Entry 0) ∷ rest
  pub makes : (statics : List ℕ) (heap stack : ℕ) (input : List ℕ) → stack_at + stack < 2 ^ 32 →
      HoldsBehind (λ t. (reg t 2 ≡ stack_at + stack) × (reg t 3 ≡ stack_at)) (start lines (data_of heap stack statics) heap stack input).state made

-- The lines make the frames of these homes and the places of these procedures, and there are no other procedures in them.
pub record MakeFrames (lines : List LabelLine) (procs : List WordProc) (homes : List Homes) : Type 0 where
  pub from_start : SetUp lines
  pub each : (number : ℕ) → has_number number procs ≡ true →
      MakesFrame lines number (frame_for procs homes number) (first_of (from_proc number procs)).room
  pub only : (number : ℕ) → has_number number procs ≡ false → from_label (Entry number) lines ≡ None

-- ---- sizes

-- so many lines at most
abbrev pub most_lines : List WordProc → ℕ
most_lines procs = LINES_OF_START + (LINES_OF_PROC * length procs + LINES_OF_LINE * word_line_count procs)

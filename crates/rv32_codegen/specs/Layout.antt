-- Where label code stands in an image, and the image.
--
--     label code --lay_out--> image
--
-- Its machine does what the label code does under the addresses that the marks have there: `lay_out`, clause `agrees`.
--
-- A branch is laid out as one instruction, or, where it is too far, as a branch over a jump. Points are told by how many bytes of the
-- code there are from them on.
use Rattle.std.specs.Prelude.{◌≡◌, ◌<◌, ◌≤◌, ℕ, ◌+◌, ◌-◌, ◌%◌, ◌^◌, Bool, true, false, not, nat_le, nat_lt, ◌&&◌}
use Rattle.std.specs.Prelude.{if◌then◌else◌, List, [], ◌∷◌, ◌++◌, Option, Some, None}
use Rattle.std.specs.List.{flat_map}
use Rattle.std.specs.Option.{option_map}
use Rattle.arc_base.specs.Behaviour.{Agrees, Sound}
use Rattle.arc_base.specs.Pace.{Paced}
use Rattle.rv32_isa.specs.declared.image.HookAt.{HookAt}
use Rattle.rv32_isa.specs.declared.instr.Instr.{Instr}
use Rattle.rv32_isa.specs.declared.instr.Instr.TheVariants.{Jal, Beq, Bne, Blt, Bge, Bltu, Bgeu}
use Rattle.rv32_isa.specs.declared.label.Test.{Test}
use Rattle.rv32_isa.specs.declared.label.Test.TheVariants as test
use Rattle.rv32_isa.specs.declared.label.HookLabel.{HookLabel}
use Rattle.rv32_isa.specs.declared.label.LabelName.{LabelName}
use Rattle.rv32_isa.specs.declared.label.LabelLine.{LabelLine}
use Rattle.rv32_isa.specs.declared.label.LabelLine.TheVariants.{Label, Do, Jump, Branch}
use Rattle.rv32_isa.specs.Row.{bytes_of}
use Rattle.rv32_isa.specs.Hooks.{code_at}
use Rattle.rv32_isa.specs.Image.{Image}
use Rattle.rv32_isa.specs.Machine.{Lives, machine}
use Rattle.rv32_isa.specs.Labels.{from_label, marks, Addresses, Rise}
use Rattle.rv32_isa.specs.LabelsMeaning.{label_meaning}
use Rattle.word_code.specs.Memory.{data_of}
use Rattle.rv32_codegen.specs.declared.layout.LayFault.{LayFault}
use Rattle.rv32_codegen.specs.declared.layout.LayFault.TheVariants.{TooLarge, Memory}
use Rattle.rv32_codegen.specs.declared.layout.TheConstants.{BRANCH_REACH, MOST_CODE_BYTES, LAYOUT_PACE}

-- ---- lines

-- the user's hook whose label a line is
abbrev pub hook_of : LabelLine → Option HookLabel
hook_of (Label name hook) = hook
hook_of line = None

-- ---- sizes

-- which branches are too far, by the lines that begin with the branch
abbrev pub Far : Type 0
Far = List LabelLine → Bool

abbrev pub all_far : Far
all_far lines = true

-- the bytes of a line
abbrev pub line_size : (is_far : Bool) → LabelLine → ℕ
line_size is_far (Label name hook) = 0
line_size is_far (Do i) = 4
line_size is_far (Jump rd to) = 4
line_size is_far (Branch test left right to) = if is_far then 8 else 4

-- the bytes of lines
abbrev pub size : Far → List LabelLine → ℕ
size far [] = 0
size far (line ∷ lines) = line_size (far (line ∷ lines)) line + size far lines

-- ---- the branches that are too far

-- the bytes from a label on
abbrev pub left_at : Far → List LabelLine → LabelName → Option ℕ
left_at far whole name = option_map (size far) (from_label name whole)

-- A branch with so many bytes from it on reaches a label with so many: it goes at most 4,096 bytes back, or fewer ahead.
abbrev pub reaches : (from : ℕ) → (to : Option ℕ) → Bool
reaches from None = false
reaches from (Some to) = nat_le (to - from) BRANCH_REACH && nat_lt (from - to) BRANCH_REACH

-- where a branch leads
abbrev pub branch_to : LabelLine → Option LabelName
branch_to (Branch test left right to) = Some to
branch_to line = None

abbrev pub misses : List LabelLine → (from : ℕ) → Option LabelName → Bool
misses whole from None = false
misses whole from (Some to) = not (reaches from (left_at all_far whole to))

-- the branches that wouldn't reach if all were laid out as too far; the others reach, since code only gets shorter
abbrev pub too_far : List LabelLine → Far
too_far whole [] = false
too_far whole (line ∷ lines) = misses whole (size all_far (line ∷ lines)) (branch_to line)

-- the bytes of whole code
abbrev pub code_size : List LabelLine → ℕ
code_size code = size (too_far code) code

-- ---- instructions

-- how far one address is from another, as a number of so many bits
abbrev pub distance : (bits from to : ℕ) → ℕ
distance bits from to = (to + 2 ^ 32 - from) % 2 ^ bits

abbrev pub branch_of : Test → (left right offset : ℕ) → Instr
branch_of test.Equal left right offset = Beq left right offset
branch_of test.Unequal left right offset = Bne left right offset
branch_of test.Less left right offset = Blt left right offset
branch_of test.AtLeast left right offset = Bge left right offset
branch_of test.Below left right offset = Bltu left right offset
branch_of test.NotBelow left right offset = Bgeu left right offset

abbrev pub opposite : Test → Test
opposite test.Equal = test.Unequal
opposite test.Unequal = test.Equal
opposite test.Less = test.AtLeast
opposite test.AtLeast = test.Less
opposite test.Below = test.NotBelow
opposite test.NotBelow = test.Below

-- a branch from one address to another
abbrev pub branched : (is_far : Bool) → Test → (left right from to : ℕ) → List Instr
branched true test left right from to = branch_of (opposite test) left right 8 ∷ Jal 0 (distance 21 (from + 4) to) ∷ []
branched false test left right from to = branch_of test left right (distance 13 from to) ∷ []

module _ (far : Far) (whole : List LabelLine) where
  -- the address of lines of the code
  abbrev pub laid_at : List LabelLine → ℕ
  laid_at lines = code_at + (size far whole - size far lines)

  abbrev pub place_of : Option (List LabelLine) → ℕ
  place_of None = code_at
  place_of (Some lines) = laid_at lines

  -- the address of a label; one that isn't there is never reached
  abbrev pub target : LabelName → ℕ
  target name = place_of (from_label name whole)

  -- the instructions of a line before these
  abbrev pub laid : LabelLine → List LabelLine → List Instr
  laid (Label name hook) lines = []
  laid (Do i) lines = i ∷ []
  laid (Jump rd to) lines = Jal rd (distance 21 (laid_at (Jump rd to ∷ lines)) (target to)) ∷ []
  laid (Branch test left right to) lines =
      branched (far (Branch test left right to ∷ lines)) test left right (laid_at (Branch test left right to ∷ lines)) (target to)

  abbrev pub instrs : List LabelLine → List Instr
  instrs [] = []
  instrs (line ∷ lines) = laid line lines ++ instrs lines

  -- ---- the hooks of users

  abbrev pub entry : Option HookLabel → (at : ℕ) → List HookAt → List HookAt
  entry None at others = others
  entry (Some hook) at others = record { kind = hook.kind; of = hook.of; addr = at } ∷ others

  abbrev pub hook_table : List LabelLine → List HookAt
  hook_table [] = []
  hook_table (line ∷ lines) = entry (hook_of line) (laid_at (line ∷ lines)) (hook_table lines)

-- ---- the image

abbrev pub code_bytes : List Instr → List ℕ
code_bytes is = flat_map bytes_of is

-- its data begins with the sizes of heap and stack
abbrev pub laid_out : List LabelLine → (statics : List ℕ) → (heap stack : ℕ) → Image
laid_out code statics heap stack = record {
  code = code_bytes (instrs (too_far code) code code);
  statics = data_of heap stack statics;
  heap = heap;
  stack = stack;
  hooks = hook_table (too_far code) code code;
}

-- For some addresses of the marks, an image does on every input what the code does under them.
abbrev pub DoesCode : Lives → Image → (code : List LabelLine) → (statics : List ℕ) → (heap stack : ℕ) → Type 0
DoesCode live image code statics heap stack =
    (at : Addresses) × Rise at (marks code) × ((input : List ℕ) → Sound (label_meaning live code at statics heap stack input) →
    Agrees (machine live image input) (label_meaning live code at statics heap stack input) ×
    Paced LAYOUT_PACE (machine live image input) (label_meaning live code at statics heap stack input))

-- code of so many bytes isn't laid out: it is too large, or no memory was found
abbrev pub IsFault : (bytes : ℕ) → LayFault → Type 0
IsFault bytes (TooLarge n) = (n ≡ bytes) × (MOST_CODE_BYTES < n)
IsFault bytes Memory = Unit {0}

-- ---- code without hooks

abbrev pub is_none : Option HookLabel → Bool
is_none None = true
is_none (Some hook) = false

-- no label is the entry of a user's hook
abbrev pub enters_no_hook : List LabelLine → Bool
enters_no_hook [] = true
enters_no_hook (line ∷ lines) = is_none (hook_of line) && enters_no_hook lines

-- ---- near branches

-- where a branch that isn't laid out as too far stands, and where its label does
abbrev pub Reaches : (is_far : Bool) → (from to : ℕ) → Type 0
Reaches true from to = Unit {0}
Reaches false from to = (from ≤ to + BRANCH_REACH) × (to < from + BRANCH_REACH)

abbrev pub LineReaches : Far → (whole : List LabelLine) → LabelLine → List LabelLine → Type 0
LineReaches far whole (Branch test left right to) lines =
    Reaches (far (Branch test left right to ∷ lines)) (laid_at far whole (Branch test left right to ∷ lines)) (target far whole to)
LineReaches far whole line lines = Unit {0}

abbrev pub AllReach : Far → (whole : List LabelLine) → List LabelLine → Type 0
AllReach far whole [] = Unit {0}
AllReach far whole (line ∷ lines) = LineReaches far whole line lines × AllReach far whole lines

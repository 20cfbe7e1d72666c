-- Label code: a list of instructions and labels, before addresses are chosen. Its points, and the marks in it.
--
-- A point of the code is the list of the lines behind it. A mark is a label, or the point behind a jump that keeps the address of
-- what follows. Where no instruction stands between two of them, they are one mark. Marks have numbers, from the end of the code
-- on: the last one has 1. So they have the same numbers in code in which other instructions stand between them.
use Rattle.std.specs.Prelude.{◌≡◌, ◌≤◌, ◌<◌, ℕ, suc, ◌%◌, ◌^◌, Bool, true, false, not, nat_lt, ◌==◌, ◌&&◌}
use Rattle.std.specs.Prelude.{if◌then◌else◌, List, [], ◌∷◌, Option, Some, None}
use Rattle.rv32_isa.specs.declared.instr.Instr.{Instr}
use Rattle.rv32_isa.specs.declared.instr.Instr.TheVariants.{Jalr}
use Rattle.rv32_isa.specs.declared.label.Test.{Test}
use Rattle.rv32_isa.specs.declared.label.Test.TheVariants as test
use Rattle.rv32_isa.specs.declared.label.HookLabel.{HookLabel}
use Rattle.rv32_isa.specs.declared.label.LabelName.{LabelName}
use Rattle.rv32_isa.specs.declared.label.LabelName.TheVariants.{Entry, Inner}
use Rattle.rv32_isa.specs.declared.label.LabelLine.{LabelLine}
use Rattle.rv32_isa.specs.declared.label.LabelLine.TheVariants.{Label, Do, Jump, Branch}
use Rattle.rv32_isa.specs.Row.{IsInRange}
use Rattle.rv32_isa.specs.Values.{is_less_signed}

-- a comparison of two words
abbrev pub holds : Test → ℕ → ℕ → Bool
holds test.Equal a b = a == b
holds test.Unequal a b = not (a == b)
holds test.Less a b = is_less_signed a b
holds test.AtLeast a b = not (is_less_signed a b)
holds test.Below a b = nat_lt a b
holds test.NotBelow a b = not (nat_lt a b)

-- ---- labels

abbrev pub same_name : LabelName → LabelName → Bool
same_name (Entry p) (Entry q) = p == q
same_name (Entry p) (Inner q name) = false
same_name (Inner p name) (Entry q) = false
same_name (Inner p name) (Inner q other) = (p == q) && (name == other)

abbrev pub is_label : LabelName → LabelLine → Bool
is_label name (Label other hook) = same_name other name
is_label name line = false

-- the point of a label
abbrev pub from_label : LabelName → List LabelLine → Option (List LabelLine)
from_label name [] = None
from_label name (line ∷ lines) = if is_label name line then Some (line ∷ lines) else from_label name lines

-- lines that begin with a label
abbrev pub is_labelled : List LabelLine → Bool
is_labelled [] = false
is_labelled (Label name hook ∷ lines) = true
is_labelled (line ∷ lines) = false

-- ---- marks

abbrev pub is_jalr : Instr → Bool
is_jalr (Jalr rd rs1 offset) = true
is_jalr i = false

-- the line makes a mark
abbrev pub is_mark : LabelLine → Bool
is_mark (Label name hook) = true
is_mark (Do i) = is_jalr i
is_mark (Jump rd to) = true
is_mark (Branch test left right to) = false

-- the point that it marks: the one in front of a label, the one behind a jump
abbrev pub marked : LabelLine → List LabelLine → List LabelLine
marked (Label name hook) lines = Label name hook ∷ lines
marked line lines = lines

-- The number of a mark in front of lines with so many marks: it is one more, and where they begin with a label it is that one's.
abbrev pub next_mark : (labelled : Bool) → ℕ → ℕ
next_mark true count = count
next_mark false count = suc count

-- how many marks lines make
abbrev pub marks : List LabelLine → ℕ
marks [] = 0
marks (line ∷ lines) = if is_mark line then next_mark (is_labelled lines) (marks lines) else marks lines

-- the number of the mark that the line before these makes, if it makes one
abbrev pub mark_before : List LabelLine → ℕ
mark_before lines = next_mark (is_labelled lines) (marks lines)

-- ---- addresses

-- of the mark of each number
abbrev pub Addresses : Type 0
Addresses = ℕ → ℕ

-- Those of so many marks: multiples of 4 below 2^32, and what stands later in the code has a higher one.
pub record Rise (at : Addresses) (count : ℕ) : Type 0 where
  pub whole : (mark : ℕ) → 0 < mark → mark ≤ count → at mark % 4 ≡ 0
  pub fits : (mark : ℕ) → 0 < mark → mark ≤ count → at mark < 2 ^ 32
  pub rises : (earlier later : ℕ) → 0 < later → later < earlier → earlier ≤ count → at earlier < at later

-- the point of the mark with an address
abbrev pub from_mark : Addresses → (address : ℕ) → List LabelLine → Option (List LabelLine)
from_mark at address [] = None
from_mark at address (line ∷ lines) =
    if is_mark line && (at (mark_before lines) == address) then Some (marked line lines) else from_mark at address lines

-- ---- what label code must be, so that it can be laid out

-- registers and other fields fit
abbrev pub IsLine : LabelLine → Type 0
IsLine (Label name hook) = Unit {0}
IsLine (Do i) = IsInRange i
IsLine (Jump rd to) = rd < 32
IsLine (Branch test left right to) = (left < 32) × (right < 32)

abbrev pub AreLines : List LabelLine → Type 0
AreLines [] = Unit {0}
AreLines (line ∷ lines) = IsLine line × AreLines lines

abbrev pub is_instruction : LabelLine → Bool
is_instruction (Label name hook) = false
is_instruction line = true

-- lines that begin with an instruction
abbrev pub begins : List LabelLine → Bool
begins [] = false
begins (line ∷ lines) = is_instruction line

-- there is an instruction
abbrev pub has_instruction : List LabelLine → Bool
has_instruction [] = false
has_instruction (line ∷ lines) = if is_instruction line then true else has_instruction lines

-- a line before these is no label of a hook, or that of one of the four kinds with an instruction right behind it
abbrev pub leads : Option HookLabel → List LabelLine → Bool
leads None lines = true
leads (Some hook) lines = nat_lt hook.kind 4 && begins lines

abbrev pub line_leads : LabelLine → List LabelLine → Bool
line_leads (Label name hook) lines = leads hook lines
line_leads line lines = true

-- each label of a hook has one of the four kinds, and an instruction right behind it
abbrev pub hooks_lead : List LabelLine → Bool
hooks_lead [] = true
hooks_lead (line ∷ lines) = line_leads line lines && hooks_lead lines

-- What label code means under given addresses of its marks: the machine's lines, over a list of instructions.
--
-- Two more things than on the machine are a fault: a jump to an address that no mark has, and a load or a write that takes from the
-- code region. An instruction that depends on where it stands is one too. A call of a user's hook is seen when a step comes to the
-- point of its label.
use Rattle.std.specs.Prelude.{◌≡◌, ℕ, ◌/◌, ◌*◌, List, [], ◌∷◌, ◌++◌, replicate, Option, Some, None, Bool, true, false}
use Rattle.std.specs.Prelude.{if◌then◌else◌}
use Rattle.arc_base.specs.Event.{Event, Hook}
use Rattle.arc_base.specs.Behaviour.{Behaviour}
use Rattle.arc_base.specs.Stepping.{Next, Goes, Ends, Faults, behaviour}
use Rattle.rv32_isa.specs.declared.instr.Instr.{Instr}
use Rattle.rv32_isa.specs.declared.instr.Instr.TheVariants.{Auipc, Jal, Jalr, Beq, Bne, Blt, Bge, Bltu, Bgeu}
use Rattle.rv32_isa.specs.declared.label.HookLabel.{HookLabel}
use Rattle.rv32_isa.specs.declared.label.LabelLine.{LabelLine}
use Rattle.rv32_isa.specs.declared.label.LabelLine.TheVariants.{Label, Do, Jump, Branch}
use Rattle.rv32_isa.specs.State.{State, reg, with_reg}
use Rattle.rv32_isa.specs.Steps.{Outcome, address, obey}
use Rattle.rv32_isa.specs.Steps as leads
use Rattle.rv32_isa.specs.Machine.{Reply, Answers, Exits, Fails, Lives, call}
use Rattle.rv32_isa.specs.Labels.{holds, from_label, mark_before, Addresses, from_mark}

-- what is said of live objects depends on data and heap alone
abbrev pub OfDataAndHeap : Lives → Type 0
OfDataAndHeap live = (s t : State) → s.statics ≡ t.statics → s.heap ≡ t.heap → live s ≡ live t

-- The machine without its code, whose program counter stays 0; the lines that are left, which say where it is; and the input that is
-- left.
pub record LabelRun : Type 0 where
  pub state : State
  pub left : List LabelLine
  pub input : List ℕ

-- it doesn't matter where the instruction stands
abbrev pub is_straight : Instr → Bool
is_straight (Auipc rd imm) = false
is_straight (Jal rd offset) = false
is_straight (Beq rs1 rs2 offset) = false
is_straight (Bne rs1 rs2 offset) = false
is_straight (Blt rs1 rs2 offset) = false
is_straight (Bge rs1 rs2 offset) = false
is_straight (Bltu rs1 rs2 offset) = false
is_straight (Bgeu rs1 rs2 offset) = false
is_straight i = true

-- ---- where a step comes to

abbrev pub hook_or : Option HookLabel → List Event → List Event
hook_or None others = others
hook_or (Some hook) others = Hook hook.kind hook.of ∷ []

-- the call of the user's hook that begins at these lines
abbrev pub hook_at : List LabelLine → List Event
hook_at [] = []
hook_at (Label name hook ∷ lines) = hook_or hook (hook_at lines)
hook_at (line ∷ lines) = []

abbrev pub still : State → State
still s = record s { pc = 0 }

-- to a point
abbrev pub comes : (shown : List Event) → State → (left : List LabelLine) → (input : List ℕ) → Next Event LabelRun
comes shown s left input = Goes (shown ++ hook_at left) 1 (record { state = still s; left = left; input = input })

-- to a point that was looked up
abbrev pub goto : State → Option (List LabelLine) → (input : List ℕ) → Next Event LabelRun
goto s None input = Faults
goto s (Some left) input = comes [] s left input

-- ---- lines

module _ (live : Lives) (code : List LabelLine) (at : Addresses) where
  abbrev pub replied : LabelRun → List LabelLine → Reply → Next Event LabelRun
  replied r rest (Answers next input shown) = comes shown next rest input
  replied r rest (Exits status) = Ends [] 1 status (live r.state)
  replied r rest (Fails kind) = Faults

  abbrev pub led : LabelRun → List LabelLine → Outcome → Next Event LabelRun
  led r rest (leads.Goes next) = comes [] next rest r.input
  led r rest leads.Calls = replied r rest (call r.state r.input)
  led r rest (leads.Faults kind pc word) = Faults

  -- an instruction, which does what it does on the machine; a jump to an address leads to the mark that has it
  abbrev pub did : LabelRun → List LabelLine → Instr → Next Event LabelRun
  did r rest (Jalr rd rs1 offset) =
      goto (with_reg r.state rd (at (mark_before rest))) (from_mark at (address r.state rs1 offset / 2 * 2) code) r.input
  did r rest i = if is_straight i then led r rest (obey r.state 0 0 i) else Faults

  -- the next line; a label does nothing and is no work; it is a fault where no line is left
  abbrev pub step_lines : LabelRun → List LabelLine → Next Event LabelRun
  step_lines r [] = Faults
  step_lines r (Label name hook ∷ rest) = Goes [] 0 (record r { left = rest })
  step_lines r (Do i ∷ rest) = did r rest i
  step_lines r (Jump rd to ∷ rest) = goto (with_reg r.state rd (at (mark_before rest))) (from_label to code) r.input
  step_lines r (Branch test left right to ∷ rest) =
      if holds test (reg r.state left) (reg r.state right) then goto r.state (from_label to code) r.input else comes [] r.state rest r.input

  abbrev pub step : LabelRun → Next Event LabelRun
  step r = step_lines r r.left

-- ---- runs

-- All registers are 0. Heap and stack hold zeros. There is no code region, so that nothing can be loaded from it.
unfoldable pub start : List LabelLine → (statics : List ℕ) → (heap stack : ℕ) → (input : List ℕ) → LabelRun
start code statics heap stack input = record {
  state = record { regs = replicate 32 0; pc = 0; code = []; statics = statics; heap = replicate heap 0; stack = replicate stack 0 };
  left = code;
  input = input;
}

-- what is seen of label code under addresses, over that data, after n steps
abbrev pub label_meaning : Lives → List LabelLine → Addresses → (statics : List ℕ) → (heap stack : ℕ) → (input : List ℕ) → Behaviour Event
label_meaning live code at statics heap stack input = behaviour (step live code at) (start code statics heap stack input)

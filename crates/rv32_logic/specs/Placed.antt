-- Instructions that stand in the code, and a machine that is before them.
use Rattle.std.specs.Prelude.{◌≡◌, ◌≤◌, ℕ, ◌+◌, List, [], ◌∷◌, length, take, drop, Some}
use Rattle.rv32_isa.specs.declared.instr.Instr.{Instr}
use Rattle.rv32_isa.specs.Words.{little}
use Rattle.rv32_isa.specs.Row.{row, word_of}
use Rattle.rv32_isa.specs.Hooks.{code_at}
use Rattle.rv32_isa.specs.State.{State}
use Rattle.rv32_isa.specs.Steps.{Outcome, obey, next_pc}

-- these instructions stand in the code from an offset on
abbrev pub Stands : List ℕ → ℕ → List Instr → Type 0
Stands code off [] = Unit {0}
Stands code off (i ∷ is) = (off + 4 ≤ length code) × (little (take 4 (drop off code)) ≡ word_of i) × (row (word_of i) ≡ Some i) × Stands code (off + 4) is

-- the state is before these instructions, at an offset of its code
pub record Before (s : State) (off : ℕ) (is : List Instr) : Type 0 where
  pub place : s.pc ≡ code_at + off
  pub code : Stands s.code off is
  pub small : length s.code ≤ 524288

-- the outcome of an instruction at the program counter
abbrev pub outcome_of : State → Instr → Outcome
outcome_of s i = obey s (next_pc s) (word_of i) i

-- the state with other registers, at another place
abbrev pub moved : State → List ℕ → ℕ → State
moved s regs pc = record s { regs = regs; pc = pc }

-- The 32 registers, as a list of words.
use Rattle.std.specs.Prelude.{◌≡◌, ℕ, zero, suc, List, length, set, get_or}

-- all registers are there, and register 0 is 0
pub record IsRegs (regs : List ℕ) : Type 0 where
  pub all : length regs ≡ 32
  pub none : get_or regs 0 0 ≡ 0

-- registers after a write of one; register 0 stays 0
abbrev pub put : List ℕ → ℕ → ℕ → List ℕ
put regs zero value = regs
put regs (suc r) value = set regs (suc r) value

-- Where branches lead.
use Rattle.std.specs.Prelude.{ℕ, ◌+◌, ◌%◌, ◌^◌, Bool, if◌then◌else◌}
use Rattle.rv32_isa.specs.State.{State}
use Rattle.rv32_isa.specs.Values.{with_sign}
use Rattle.rv32_isa.specs.Steps.{ahead}
use Rattle.rv32_logic.specs.Placed.{moved}

-- at another place
abbrev pub placed : State → ℕ → State
placed s pc = moved s s.regs pc

-- where a branch goes on
abbrev pub branches_to : State → Bool → ℕ → ℕ
branches_to s taken offset = if taken then ahead s (with_sign (2 ^ 12) offset) else (s.pc + 4) % 2 ^ 32

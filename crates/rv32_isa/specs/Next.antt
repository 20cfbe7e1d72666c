-- The instruction that is carried out next. No public contract speaks of it.
use Rattle.std.specs.Prelude.{◌≡◌, Some}
use Rattle.rv32_isa.specs.declared.table.Decoded.{Decoded}
use Rattle.rv32_isa.specs.Row.{row, IsInRange}
use Rattle.rv32_isa.specs.State.{State}
use Rattle.rv32_isa.specs.Steps.{fetch}

-- it stands at the program counter
pub record IsNext (s : State) (d : Decoded) : Type 0 where
  pub fetched : fetch s ≡ Some d.word
  pub row : row d.word ≡ Some d.instr
  pub fields : IsInRange d.instr

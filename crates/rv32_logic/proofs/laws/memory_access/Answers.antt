use Rattle.rv32_logic.proofs.Data.{holds_read}
use Rattle.rv32_logic.proofs.Memory.{stack_read, stack_put, lw_goes, sw_goes}
use Rattle.rv32_logic.proofs.laws.memory_access.Goals as goal

pub returns : goal.returns
returns c =
    record {
      holds = holds_read;
      stack = stack_read;
      into_stack = stack_put;
      load_word = lw_goes;
      store_word = sw_goes;
    }

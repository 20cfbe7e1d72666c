-- Words that may be written may be read.
use Rattle.std.proofs.Common.{◌≡◌, ℕ, ◌-◌, ◌%◌, ◌∙◌, true, Err, take, drop, ap, arith}
use Rattle.std.specs.Prelude.{◌==◌}
use Rattle.std.proofs.lemmas.Bool.{and_parts, cond-true}
use Rattle.rv32_isa.specs.declared.micro_op.Size.TheVariants.{Word}
use Rattle.rv32_isa.specs.declared.machine.FaultKind.TheVariants.{Misaligned}
use Rattle.rv32_isa.specs.State.{writable}
use Rattle.rv32_isa.specs.Steps.{number_of}
use Rattle.rv32_isa.specs.Words.{little}
use Rattle.word_code.specs.Memory.{Memory, as_state, bytes_at, may_put}
use Rattle.word_code.specs.RoutineTable.{Cell}
use Rattle.word_code.proofs.ForCallers.{Sized}
use Rattle.heap_memory.proofs.ForCallers.{written_in}

-- what may be put somewhere can be read there
pub cell_by : (m : Memory) → Sized m → (a : ℕ) → may_put m a Word ≡ true → Cell m a
cell_by m sized a may =
    let parts = and_parts (a % 4 == 0) (writable (as_state m) a 4) may in
    let r = written_in m sized a 4 (omega arith) parts.1 in
    record {
      may = may;
      word = little (take 4 (drop (a - r.region.base) r.region.bytes));
      reads = cond-true (a % 4 == 0) (number_of (bytes_at m a 4)) (Err Misaligned) parts.0 ∙ ap number_of (r.region.reads a 4 r.low r.high);
    }

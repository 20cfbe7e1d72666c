-- Words are carried where memory changes beside them: by a write, and by a routine of the heap.
use Rattle.std.proofs.Common.{◌≡◌, inl, inr, ℕ, ◌+◌, ◌%◌, ◌≤◌, Ok, ◌∙◌, arith}
use Rattle.rv32_isa.specs.declared.micro_op.Size.TheVariants.{Word}
use Rattle.rv32_isa.specs.Image.{heap_at}
use Rattle.std.specs.Prelude.{length}
use Rattle.word_code.specs.Memory.{Memory, number_at}
use Rattle.word_code.specs.RoutineTable.{Beside, IsRewritten}
use Rattle.word_code.proofs.ForCallers.{Apart}
use Rattle.heap_memory.specs.declared.numbers.TheConstants.{HEAP_WORD_BYTES}
use Rattle.heap_memory.specs.HeapRoutines.{IsBesideHeap}
use Rattle.word_lowering.proofs.InMemory.{Carries}
use Rattle.word_lowering.proofs.RoutineMemory.{same_word}

-- a part of what is beside a range
part_beside : (a n at bytes o k : ℕ) → o + k ≤ n → Beside a n at bytes → Beside (a + o) k at bytes
part_beside a n at bytes o k within (inl h) = inl (omega (arith, h, within))
part_beside a n at bytes o k within (inr h) = inr (omega (arith, h))

pub rewritten_carried : (m other : Memory) (at bytes a n : ℕ) → IsRewritten m other at bytes → Beside a n at bytes → Carries m other a a n
rewritten_carried m other at bytes a n new beside o w within whole reads =
    same_word m other (a + o) (new.beside (a + o) 4 (part_beside a n at bytes o 4 within beside)) ∙ reads

pub beside_carried : (m other : Memory) (at a n : ℕ) → IsBesideHeap at m other → Beside a n at HEAP_WORD_BYTES → Beside a n heap_at (length m.heap)
    → Carries m other a a n
beside_carried m other at a n new words heap o w within whole reads =
    same_word m other (a + o)
    (new.beside (a + o) 4 (part_beside a n at HEAP_WORD_BYTES o 4 within words) (part_beside a n heap_at (length m.heap) o 4 within heap)) ∙ reads

-- a word that is apart from a write is as it was
pub rewritten_spares : (m other : Memory) (at bytes a n : ℕ) → IsRewritten m other at bytes
    → (o w : ℕ) → o + 4 ≤ n → o % 4 ≡ 0 → Apart (a + o) at bytes → number_at m (a + o) Word ≡ Ok w → number_at other (a + o) Word ≡ Ok w
rewritten_spares m other at bytes a n new o w within whole apart reads = same_word m other (a + o) (new.beside (a + o) 4 (as_beside apart)) ∙ reads
  where
    as_beside : Apart (a + o) at bytes → Beside (a + o) 4 at bytes
    as_beside (inl h) = inl (omega (arith, h))
    as_beside (inr h) = inr (omega (arith, h))

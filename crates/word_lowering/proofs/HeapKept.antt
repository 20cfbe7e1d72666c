-- The heap where memory changes in places alone: its bytes, and all data in front of a program's, stay as they are.
use Rattle.std.proofs.Common.{◌≡◌, ◌⊎◌, inl, inr, ℕ, suc, ◌+◌, ◌*◌, ◌≤◌, List, [], ◌∷◌, length, take, Ok}
use Rattle.std.proofs.Common.{refl, sym, ap, ◌∙◌, arith}
use Rattle.std.proofs.lemmas.Option.{same_Some}
use Rattle.rv32_isa.specs.declared.micro_op.Size.TheVariants.{Word}
use Rattle.rv32_isa.specs.Image.{statics_at, heap_at}
use Rattle.nim_program.specs.Traps.{OutOfMemory}
use Rattle.nim_meaning.specs.Heap.{Class, Heap}
use Rattle.word_code.specs.Memory.{Memory, number_at, bytes_at, own_data_at}
use Rattle.word_code.specs.RoutineTable.{Beside, trap_line}
use Rattle.word_code.proofs.ForCallers.{Sized}
use Rattle.heap_memory.specs.declared.numbers.TheConstants.{HEAP_WORD_BYTES}
use Rattle.heap_memory.specs.HeapState.{Stands, IsHeap}
use Rattle.heap_memory.proofs.ForCallers.{heap_part, is_there as block_is_there}
use Rattle.word_lowering.specs.Lowered.{data_at}
use Rattle.word_lowering.proofs.Blocks.{Blocks, HasHeap}
use Rattle.word_lowering.proofs.HeapChanged.{TwoMemories}
use Rattle.word_lowering.proofs.HeapsThen.{heap_still}
use Rattle.word_lowering.proofs.RoutineMemory.{same_word}

-- ---- what stays

pub record SameHeap (m m' : Memory) : Type 0 where
  pub statics : length m'.statics ≡ length m.statics
  pub long : length m'.heap ≡ length m.heap
  pub front : (b n : ℕ) → statics_at ≤ b → b + n ≤ data_at → bytes_at m' b n ≡ bytes_at m b n
  pub inside : (b n : ℕ) → heap_at ≤ b → b + n ≤ heap_at + length m.heap → bytes_at m' b n ≡ bytes_at m b n

pub heap_same : (m : Memory) → SameHeap m m
heap_same m = record { statics = refl; long = refl; front = λ b n low high. refl; inside = λ b n low high. refl }

pub heap_turned : (m m' : Memory) → SameHeap m m' → SameHeap m' m
heap_turned m m' s = record {
  statics = sym s.statics;
  long = sym s.long;
  front = λ b n low high. sym (s.front b n low high);
  inside = λ b n low high. sym (s.inside b n low (let l = s.long in omega (arith, high, l)));
}

pub heap_more : (m m' m'' : Memory) → SameHeap m m' → SameHeap m' m'' → SameHeap m m''
heap_more m m' m'' s t = record {
  statics = t.statics ∙ s.statics;
  long = t.long ∙ s.long;
  front = λ b n low high. t.front b n low high ∙ s.front b n low high;
  inside = λ b n low high. t.inside b n low (let l = s.long in omega (arith, high, l)) ∙ s.inside b n low high;
}

in_heap : (m : Memory) (a n b k : ℕ) → heap_at ≤ b → b + k ≤ heap_at + length m.heap → Beside heap_at (length m.heap) a n → (b + k ≤ a) ⊎ (a + n ≤ b)
in_heap m a n b k low high (inl h) = inl (omega (arith, high, h))
in_heap m a n b k low high (inr h) = inr (omega (arith, low, h))

-- where a range is other than it was that is beside the heap and behind that data
pub heap_beside : (m m' : Memory) (a n : ℕ) → length m'.statics ≡ length m.statics → length m'.heap ≡ length m.heap
    → ((b k : ℕ) → (b + k ≤ a) ⊎ (a + n ≤ b) → bytes_at m' b k ≡ bytes_at m b k) → data_at ≤ a → Beside heap_at (length m.heap) a n → SameHeap m m'
heap_beside m m' a n statics long beside behind away = record {
  statics = statics;
  long = long;
  front = λ b k low high. beside b k (inl (omega (arith, high, behind)));
  inside = λ b k low high. beside b k (in_heap m a n b k low high away);
}

-- the same of two ranges
pub heap_beside_both : (m m' : Memory) (a c n : ℕ) → length m'.statics ≡ length m.statics → length m'.heap ≡ length m.heap
    → ((b k : ℕ) → (b + k ≤ a) ⊎ (a + n ≤ b) → (b + k ≤ c) ⊎ (c + n ≤ b) → bytes_at m' b k ≡ bytes_at m b k)
    → (data_at ≤ a) × Beside heap_at (length m.heap) a n → (data_at ≤ c) × Beside heap_at (length m.heap) c n → SameHeap m m'
heap_beside_both m m' a c n statics long beside one other = record {
  statics = statics;
  long = long;
  front = λ b k low high. beside b k (inl (let h = one.0 in omega (arith, high, h))) (inl (let h = other.0 in omega (arith, high, h)));
  inside = λ b k low high. beside b k (in_heap m a n b k low high one.1) (in_heap m c n b k low high other.1);
}

-- ---- so the heap does

take_all : (xs : List ℕ) → take (length xs) xs ≡ xs
take_all [] = refl
take_all (x ∷ xs) = ap (λ l. x ∷ l) (take_all xs)

module _ (m m' : Memory) (sized : Sized m) (sized_then : Sized m') (s : SameHeap m m') where
  bytes_are : m'.heap ≡ m.heap
  bytes_are =
      let l = s.long in
      sym (take_all m'.heap) ∙ ap (λ n. take n m'.heap) l
      ∙ same_Some (take (length m.heap) m'.heap) (take (length m.heap) m.heap)
      (sym (heap_part m' sized_then heap_at (length m.heap) (omega arith) (omega (arith, l))) ∙ s.inside heap_at (length m.heap) (omega arith) (omega arith)
      ∙ heap_part m sized heap_at (length m.heap) (omega arith) (omega arith))
      ∙ take_all m.heap

  word_stays : (a : ℕ) → statics_at ≤ a → a + 4 ≤ data_at → number_at m' a Word ≡ number_at m a Word
  word_stays a low high = same_word m m' a (s.front a 4 low high)

  heap_stays : (classes : List Class) (stands : Stands) → IsHeap own_data_at classes stands m → IsHeap own_data_at classes stands m'
  heap_stays classes stands h = record {
    blocks = h.blocks;
    frees = h.frees;
    spare = h.spare;
    kept = h.kept;
    none = h.none;
    bytes = bytes_are ∙ h.bytes;
    words = record {
      whole = h.words.whole;
      low = h.words.low;
      high = (let g = h.words.high in let l = s.statics in omega (arith, g, l));
      line = s.front (own_data_at + HEAP_WORD_BYTES) (length (trap_line OutOfMemory)) (omega arith) (omega arith) ∙ h.words.line;
    };
    room = word_stays statics_at (omega arith) (omega arith) ∙ h.room ∙ ap (λ (l : List ℕ). Ok (length l)) (sym bytes_are);
    next = word_stays own_data_at (omega arith) (omega arith) ∙ h.next;
    heads = λ class most. word_stays (own_data_at + 4 * suc class) (omega arith) (omega (arith, most)) ∙ h.heads class most;
  }

module _ (StandsFixed : (place : ℕ) → List ℕ → Type 0) where
  -- a heap before and behind a change, each block of which is where it stands
  pub two_memories : (d : Blocks) (heap : Heap) (m other : Memory) → Sized m → Sized other → HasHeap StandsFixed d heap m → length other.heap ≡ length m.heap
      → TwoMemories StandsFixed d heap m other
  two_memories d heap m other sized sized_after has long = record {
    sized = sized;
    sized_after = sized_after;
    has = has;
    there = λ k y e. block_is_there own_data_at heap.classes d.stands m has.kept k y e sized;
    long = long;
    there_after = λ h stands is k y e. block_is_there own_data_at h.classes stands other is k y e sized_after;
  }

  pub heap_then : (d : Blocks) (heap : Heap) (m m' : Memory) → Sized m → Sized m' → SameHeap m m' → HasHeap StandsFixed d heap m
      → HasHeap StandsFixed d heap m'
  heap_then d heap m m' sized sized_then s has =
      heap_still StandsFixed d heap m m' (two_memories d heap m m' sized sized_then has s.long)
      (heap_stays m m' sized sized_then s heap.classes d.stands has.kept)

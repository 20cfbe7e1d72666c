-- What whoever holds blocks may rely on: where they stand, and what changes of memory leave them as they are.
use Rattle.std.specs.Prelude.{◌≡◌, ◌<◌, ◌≤◌, ◌⊎◌, ℕ, ◌+◌, ◌%◌, List, length, Some, true}
use Rattle.nim_types.specs.declared.blocks.TheConstants.{HEADER_BYTES}
use Rattle.nim_meaning.specs.Heap.{Class, size_count}
use Rattle.rv32_isa.specs.Image.{statics_at, heap_at}
use Rattle.word_code.specs.Memory.{Memory, bytes_at, may_fill}
use Rattle.word_code.specs.RoutineTable.{Beside}
use Rattle.heap_memory.specs.declared.numbers.TheConstants.{HEAP_SCRATCH}
use Rattle.heap_memory.specs.HeapBlocks.{size_at}
use Rattle.heap_memory.specs.HeapState.{Standing, Stands, with_block, IsHeap}

-- A block's payload is in the heap, may be written, and is as long as its size says.
pub record IsThere (m : Memory) (s : Standing) : Type 0 where
  pub sized : s.class < size_count
  pub whole : HEADER_BYTES + length s.payload ≡ size_at s.class
  pub aligned : s.place % 8 ≡ 0
  pub low : heap_at + HEADER_BYTES ≤ s.place
  pub high : s.place + length s.payload ≤ heap_at + length m.heap
  pub bytes : bytes_at m s.place (length s.payload) ≡ Some s.payload
  pub may : may_fill m s.place (length s.payload) ≡ true

-- neither begins, with its header, before the other one ends
abbrev pub AreDistant : (s t : Standing) → Type 0
AreDistant s t = (s.place + (length s.payload + HEADER_BYTES) ≤ t.place) ⊎ (t.place + (length t.payload + HEADER_BYTES) ≤ s.place)

-- a block has a payload of the same length; all others are as they were
pub record IsRefilled (at : ℕ) (classes : List Class) (stands : Stands) (k : ℕ) (s : Standing) (other : Memory) : Type 0 where
  pub payload : List ℕ
  pub long : length payload ≡ length s.payload
  pub heap : IsHeap at classes (with_block stands k (record s { payload = payload })) other

-- a range in which nothing belongs to the heap; it may be that of the scratch bytes
pub record IsElsewhere (at : ℕ) (m : Memory) (a n : ℕ) : Type 0 where
  pub heap : Beside heap_at (length m.heap) a n
  pub words : Beside at HEAP_SCRATCH a n
  pub room : Beside statics_at 4 a n

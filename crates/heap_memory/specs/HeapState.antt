-- What memory holds where blocks were taken and given: the blocks by their identities, the free ones of each size one after another, and the
-- next byte that no block has.
use Rattle.std.specs.Prelude.{◌≡◌, ◌≤◌, ℕ, suc, ◌+◌, ◌*◌, ◌%◌, List, [], ◌∷◌, ◌++◌, length, take, replicate, Option, Some, None, Ok}
use Rattle.std.specs.Prelude.{◌==◌, if◌then◌else◌}
use Rattle.nim_program.specs.Traps.{OutOfMemory}
use Rattle.nim_meaning.specs.Heap.{Class, demand, size_count}
use Rattle.rv32_isa.specs.declared.micro_op.Size.TheVariants.{Word}
use Rattle.rv32_isa.specs.Image.{statics_at, heap_at}
use Rattle.rv32_isa.specs.Words.{little}
use Rattle.word_code.specs.Memory.{Memory, number_at, bytes_at, own_data_at}
use Rattle.word_code.specs.RoutineTable.{trap_line}
use Rattle.heap_memory.specs.declared.numbers.TheConstants.{HEAP_WORD_BYTES, HEAP_DATA}
use Rattle.heap_memory.specs.HeapBlocks.{size_at, Holder, Nobody, Held, Block, AreBlocks, all_bytes, all_size, block_in}

-- ---- blocks by their identities

-- where a block's payload begins, the class of its size, its kind, the second word of its header, and its payload
pub record Standing : Type 0 where
  pub place : ℕ
  pub class : ℕ
  pub kind : ℕ
  pub word : ℕ
  pub payload : List ℕ

-- of each identity whose block is live
abbrev pub Stands : Type 0
Stands = ℕ → Option Standing

abbrev pub none_stands : Stands
none_stands = λ k. None

abbrev pub with_block : Stands → ℕ → Standing → Stands
with_block stands k s j = if j == k then Some s else stands j

abbrev pub without_block : Stands → ℕ → Stands
without_block stands k j = if j == k then None else stands j

abbrev pub held_block : ℕ → Standing → Block
held_block k s = record { class = s.class; holder = Held k s.kind s.word; payload = s.payload }

-- these are the blocks that are held
pub record AreHeld (stands : Stands) (blocks : List Block) : Type 0 where
  pub there : (k : ℕ) (s : Standing) → stands k ≡ Some s → block_in s.place blocks ≡ Some (held_block k s)
  pub only : (k : ℕ) (s : Standing) → block_in s.place blocks ≡ Some (held_block k s) → stands k ≡ Some s

-- ---- free blocks

-- the first of a list of places, 0 where it is empty
abbrev pub first_of : List ℕ → ℕ
first_of [] = 0
first_of (place ∷ places) = place

abbrev pub free_block : (class : ℕ) (payload : List ℕ) → Block
free_block class payload = record { class = class; holder = Nobody; payload = payload }

-- a free block of a size, whose payload begins with a word
pub record IsFree (blocks : List Block) (class place word : ℕ) : Type 0 where
  pub payload : List ℕ
  pub there : block_in place blocks ≡ Some (free_block class payload)
  pub link : little (take 4 payload) ≡ word

abbrev pub IsAway : ℕ → List ℕ → Type 0
IsAway place [] = Unit {0}
IsAway place (other ∷ places) = (place ≡ other → ⊥) × IsAway place places

-- free blocks of a size, each of which holds the place of the next
abbrev pub AreLinked : List Block → (class : ℕ) → List ℕ → Type 0
AreLinked blocks class [] = Unit {0}
AreLinked blocks class (place ∷ places) = IsFree blocks class place (first_of places) × IsAway place places × AreLinked blocks class places

-- ---- how many there are

abbrev pub if_held : Holder → ℕ
if_held Nobody = 0
if_held (Held identity kind word) = 1

-- how many blocks of a size are held
abbrev pub held_count : (class : ℕ) → List Block → ℕ
held_count class [] = 0
held_count class (b ∷ blocks) = (if b.class == class then if_held b.holder else 0) + held_count class blocks

-- the blocks of a size that are held are its live ones, and with the free ones they are as many as its peak
pub record IsCounted (blocks : List Block) (frees : (class : ℕ) → List ℕ) (class : ℕ) (c : Class) : Type 0 where
  pub size : c.size ≡ size_at class
  pub live : held_count class blocks ≡ c.live
  pub peak : length (frees class) + c.live ≡ c.peak

-- from a class on
abbrev pub AreCounted : List Block → (frees : (class : ℕ) → List ℕ) → (class : ℕ) → List Class → Type 0
AreCounted blocks frees class [] = Unit {0}
AreCounted blocks frees class (c ∷ classes) = IsCounted blocks frees class c × AreCounted blocks frees (suc class) classes

-- Blocks that are held, and free ones of each size, where so many of each size are and were live. All of them together are the demand.
pub record AreKept (classes : List Class) (stands : Stands) (blocks : List Block) (frees : (class : ℕ) → List ℕ) : Type 0 where
  pub all : AreBlocks blocks
  pub held : AreHeld stands blocks
  pub linked : (class : ℕ) → AreLinked blocks class (frees class)
  pub counted : AreCounted blocks frees 0 classes
  pub sizes : length classes ≡ size_count
  pub demanded : all_size blocks ≡ demand classes

-- ---- memory

-- The heap's words, the line of its trap and scratch bytes stand at an address in the data of routines.
pub record HasHeapData (at : ℕ) (m : Memory) : Type 0 where
  pub whole : at % 4 ≡ 0
  pub low : own_data_at ≤ at
  pub high : at + HEAP_DATA ≤ statics_at + length m.statics
  pub line : bytes_at m (at + HEAP_WORD_BYTES) (length (trap_line OutOfMemory)) ≡ Some (trap_line OutOfMemory)

-- So memory is where so many blocks of each size are and were live, and these stand: the heap has blocks, and zeros behind them. Its words are
-- the address behind all blocks, and the place of the first free one of each size; of the last one, which is no size, there is none.
pub record IsHeap (at : ℕ) (classes : List Class) (stands : Stands) (m : Memory) : Type 0 where
  pub blocks : List Block
  pub frees : (class : ℕ) → List ℕ
  pub spare : ℕ
  pub kept : AreKept classes stands blocks frees
  pub none : frees size_count ≡ []
  pub bytes : m.heap ≡ all_bytes blocks ++ replicate spare 0
  pub words : HasHeapData at m
  -- the heap's size stands in front of all data
  pub room : number_at m statics_at Word ≡ Ok (length m.heap)
  pub next : number_at m at Word ≡ Ok (heap_at + all_size blocks)
  pub heads : (class : ℕ) → class ≤ size_count → number_at m (at + 4 * suc class) Word ≡ Ok (first_of (frees class))

-- What the bytes of a heap are: blocks that stand end to end from its first byte.
use Rattle.std.specs.Prelude.{◌≡◌, ◌<◌, ℕ, zero, suc, ◌+◌, ◌*◌, ◌^◌, List, [], ◌∷◌, ◌++◌, length, Option, Some, None, ◌==◌, if◌then◌else◌}
use Rattle.rv32_isa.specs.Image.{heap_at}
use Rattle.rv32_isa.specs.Words.{word_bytes}
use Rattle.nim_types.specs.declared.blocks.TheConstants.{HEADER_BYTES, LEAST_BLOCK}
use Rattle.nim_meaning.specs.Heap.{size_count}

-- the size that stands at that place among the sizes, from 0: its class
abbrev pub size_at : (class : ℕ) → ℕ
size_at zero = LEAST_BLOCK
size_at (suc c) = 2 * size_at c

-- ---- a block

-- Nobody holds a free block. One that is held has an identity, its kind, from 1 on, and a word of its own.
pub data Holder : Type 0 where
  Nobody : Holder
  Held : (identity kind word : ℕ) → Holder

pub record Block : Type 0 where
  pub class : ℕ
  pub holder : Holder
  pub payload : List ℕ

abbrev pub kind_of : Holder → ℕ
kind_of Nobody = 0
kind_of (Held identity kind word) = kind

abbrev pub word_of : Holder → ℕ
word_of Nobody = 0
word_of (Held identity kind word) = word

-- the first word of a header: the kind, and the place of the size among the sizes, here from 1
abbrev pub first_word : (kind class : ℕ) → ℕ
first_word kind class = 128 * kind + suc class

abbrev pub header : Block → List ℕ
header b = word_bytes (first_word (kind_of b.holder) b.class) ++ word_bytes (word_of b.holder)

abbrev pub block_bytes : Block → List ℕ
block_bytes b = header b ++ b.payload

abbrev pub block_size : Block → ℕ
block_size b = size_at b.class

abbrev pub HasWords : (class : ℕ) → Holder → Type 0
HasWords class Nobody = Unit {0}
HasWords class (Held identity kind word) = (0 < kind) × (first_word kind class < 2 ^ 32) × (word < 2 ^ 32)

-- it has one of the sizes, its bytes are as many, and its header's words are words
pub record IsBlock (b : Block) : Type 0 where
  pub sized : b.class < size_count
  pub whole : HEADER_BYTES + length b.payload ≡ block_size b
  pub words : HasWords b.class b.holder

-- ---- blocks end to end

abbrev pub AreBlocks : List Block → Type 0
AreBlocks [] = Unit {0}
AreBlocks (b ∷ blocks) = IsBlock b × AreBlocks blocks

abbrev pub all_bytes : List Block → List ℕ
all_bytes [] = []
all_bytes (b ∷ blocks) = block_bytes b ++ all_bytes blocks

-- how many bytes they are
abbrev pub all_size : List Block → ℕ
all_size [] = 0
all_size (b ∷ blocks) = block_size b + all_size blocks

-- the place of a block is the address of its payload: that of the heap's first one
abbrev pub first_place : ℕ
first_place = heap_at + HEADER_BYTES

-- the block at a place, where this is the place of the first
abbrev pub block_from : (first place : ℕ) → List Block → Option Block
block_from first place [] = None
block_from first place (b ∷ blocks) = if first == place then Some b else block_from (first + block_size b) place blocks

-- the block of the heap at a place
abbrev pub block_in : (place : ℕ) → List Block → Option Block
block_in place blocks = block_from first_place place blocks

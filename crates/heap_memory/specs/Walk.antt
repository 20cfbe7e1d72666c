-- The walk over the bytes of a heap, which finds its blocks by their headers alone.
use Rattle.std.specs.Prelude.{◌≡◌, ◌<◌, ◌⊎◌, Some, ℕ, zero, suc, ◌+◌, ◌-◌, ◌/◌, ◌%◌, List, [], ◌∷◌, length, take, Result, Ok, Err, nat_lt, nat_le, ◌==◌, ◌&&◌}
use Rattle.std.specs.Prelude.{not}
use Rattle.std.specs.Prelude.{if◌then◌else◌}
use Rattle.nim_meaning.specs.Heap.{size_count}
use Rattle.rv32_isa.specs.Words.{little}
use Rattle.heap_memory.specs.HeapBlocks.{size_at}
use Rattle.heap_memory.specs.HeapState.{Standing, Stands}

-- what stands where a block may begin: no more blocks, a block of a kind and a size, or neither
pub data Found : Type 0 where
  Over : Found
  Block : (kind size : ℕ) → Found
  Neither : Found

-- It is a block where the index, from 1, names one of the sizes, the kind is one of so many, and as many bytes are there.
abbrev pub block_of : (kinds word left : ℕ) → Found
block_of kinds word left =
    if not (word % 128 == 0) && (nat_le (word % 128) size_count && (nat_lt (word / 128) kinds && nat_le (size_at (word % 128 - 1)) left))
    then Block (word / 128) (size_at (word % 128 - 1)) else Neither

-- blocks are over where fewer bytes are left than a word has, and where the next word is 0
abbrev pub found : (kinds : ℕ) → List ℕ → Found
found kinds bytes = if nat_lt (length bytes) 4 then Over else if little (take 4 bytes) == 0 then Over else block_of kinds (little (take 4 bytes)) (length bytes)

-- with a kind in front
abbrev pub and_kind : ℕ → Result (List ℕ) ℕ → Result (List ℕ) ℕ
and_kind kind (Ok kinds) = Ok (kind ∷ kinds)
and_kind kind (Err offset) = Err offset

-- what comes of what was found at an offset
abbrev pub on_found : (offset : ℕ) → Found → (behind : (size : ℕ) → Result (List ℕ) ℕ) → Result (List ℕ) ℕ
on_found offset Over behind = Ok []
on_found offset (Block kind size) behind = and_kind kind (behind size)
on_found offset Neither behind = Err offset

-- Behind so many bytes, where a block that was found has `left` more: the kind of each further block, or the offset of the first that is none.
abbrev pub walk_from : (kinds offset left : ℕ) → List ℕ → Result (List ℕ) ℕ
walk_from kinds offset left [] = Ok []
walk_from kinds offset (suc left) (byte ∷ bytes) = walk_from kinds (suc offset) left bytes
walk_from kinds offset zero (byte ∷ bytes) =
    on_found offset (found kinds (byte ∷ bytes)) (λ size. walk_from kinds (suc offset) (size - 1) bytes)

-- the kinds of all blocks of a heap, which are below so many, or the offset of the first that is none
abbrev pub walk : (kinds : ℕ) → (heap : List ℕ) → Result (List ℕ) ℕ
walk kinds heap = walk_from kinds 0 0 heap

-- how many blocks are of a kind
abbrev pub how_many : (kind : ℕ) → List ℕ → ℕ
how_many kind [] = 0
how_many kind (other ∷ kinds) = (if other == kind then 1 else 0) + how_many kind kinds

-- ---- what it says of memory

abbrev pub IsOneOf : ℕ → List ℕ → Type 0
IsOneOf k [] = ⊥
IsOneOf k (other ∷ others) = (k ≡ other) ⊎ IsOneOf k others

abbrev pub AreOnce : List ℕ → Type 0
AreOnce [] = Unit {0}
AreOnce (k ∷ others) = (IsOneOf k others → ⊥) × AreOnce others

-- these identities, each once, are those whose blocks stand and are of a kind
pub record AreOfKind (stands : Stands) (kind : ℕ) (ids : List ℕ) : Type 0 where
  pub once : AreOnce ids
  pub each : (k : ℕ) → IsOneOf k ids → (s : Standing) × (stands k ≡ Some s) × (s.kind ≡ kind)
  pub all : (k : ℕ) (s : Standing) → stands k ≡ Some s → s.kind ≡ kind → IsOneOf k ids

-- The walk meets no fault, and finds as many blocks of each kind as there are identities whose blocks stand and are of that kind.
pub record WalksRight (kinds : ℕ) (stands : Stands) (heap : List ℕ) : Type 0 where
  pub found : List ℕ
  pub walked : walk kinds heap ≡ Ok found
  pub live : (kind : ℕ) → 0 < kind → (ids : List ℕ) × AreOfKind stands kind ids × (how_many kind found ≡ length ids)

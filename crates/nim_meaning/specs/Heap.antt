-- The heap: blocks by identity, the demand, and what happened to what is owned.
use Rattle.std.specs.Prelude.{ℕ, zero, suc, ◌+◌, ◌*◌, ◌-◌, Bool, false, nat_le, nat_lt, if◌then◌else◌, List, [], ◌∷◌, ◌++◌, length, max}
use Rattle.std.specs.Prelude.{Option, Some, None, slice_get, slice_set}
use Rattle.nim_types.specs.Types.{Ty}
use Rattle.nim_types.specs.declared.blocks.TheConstants.{HEADER_BYTES, LEAST_BLOCK}
use Rattle.nim_meaning.specs.Values.{Value, Values}

-- what stands in a block: the bytes of a text, the elements of a sequence, or the object of a ref type
pub data Contents : Type 0 where
  Characters : (text : List ℕ) → Contents
  Elements : (all : Values) → Contents
  Object : (of : Ty) (value : Value) → Contents

-- a block: the place of its size among the sizes, from 0, and its contents
pub record Block : Type 0 where
  pub class : ℕ
  pub contents : Contents

-- for a size how many blocks are live, and how many were at most
pub record Class : Type 0 where
  pub size : ℕ
  pub live : ℕ
  pub peak : ℕ

-- The bytes that it may take. A block's identity is its position; one that was given back leaves its position empty.
pub record Heap : Type 0 where
  pub room : ℕ
  pub classes : List Class
  pub blocks : List (Option Block)

-- the sum over the sizes of the size times the most blocks of it that were live
abbrev pub demand : List Class → ℕ
demand [] = 0
demand (c ∷ classes) = c.size * c.peak + demand classes

-- each size is twice the one before
abbrev pub sizes_from : (count size : ℕ) → List Class
sizes_from zero size = []
sizes_from (suc n) size = record { size = size; live = 0; peak = 0 } ∷ sizes_from n (2 * size)

-- how many sizes there are
abbrev pub size_count : ℕ
size_count = 21

abbrev pub heap_of : (room : ℕ) → Heap
heap_of room = record { room = room; classes = sizes_from size_count LEAST_BLOCK; blocks = [] }

-- the smallest size that holds so many bytes behind its header
abbrev pub class_for : (payload : ℕ) → List Class → ℕ
class_for payload [] = 0
class_for payload (c ∷ classes) = if nat_le (payload + HEADER_BYTES) c.size then 0 else suc (class_for payload classes)

abbrev pub one_more : Class → Class
one_more c = record c { live = suc c.live; peak = max (suc c.live) c.peak }

abbrev pub one_less : Class → Class
one_less c = record c { live = c.live - 1 }

abbrev pub at_class : (Class → Class) → ℕ → List Class → List Class
at_class f i [] = []
at_class f zero (c ∷ classes) = f c ∷ classes
at_class f (suc i) (c ∷ classes) = c ∷ at_class f i classes

abbrev pub flat : Option (Option Block) → Option Block
flat None = None
flat (Some found) = found

abbrev pub block_at : Heap → ℕ → Option Block
block_at heap k = flat (slice_get heap.blocks k)

-- with other contents of a block that is there
abbrev pub refilled : Option Block → Contents → Option Block
refilled None contents = None
refilled (Some block) contents = Some (record block { contents = contents })

abbrev pub with_contents : Heap → ℕ → Contents → Heap
with_contents heap k contents = record heap { blocks = slice_set heap.blocks k (refilled (block_at heap k) contents) }

-- ---- taking and giving

-- with one more block of a size
abbrev pub taken : Heap → ℕ → Contents → Heap
taken heap class contents = record heap {
  classes = at_class one_more class heap.classes;
  blocks = heap.blocks ++ Some (record { class = class; contents = contents }) ∷ [];
}

-- whether one may be taken: it is one of the sizes, and the demand stays within what the heap may take
abbrev pub has_room : Heap → ℕ → Bool
has_room heap class =
    if nat_lt class (length heap.classes) then nat_le (demand (at_class one_more class heap.classes)) heap.room else false

abbrev pub without : Heap → ℕ → Option Block → Heap
without heap k None = heap
without heap k (Some block) = record heap { classes = at_class one_less block.class heap.classes; blocks = slice_set heap.blocks k None }

-- with a block given back
abbrev pub given : Heap → ℕ → Heap
given heap k = without heap k (block_at heap k)

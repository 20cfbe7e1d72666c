-- What memory holds of values with texts and sequences, by their shapes, and of the blocks that hold their contents. A text or a sequence is a handle
-- where it stands: its length, and the place of its block.
use Rattle.std.specs.Prelude.{◌≡◌, ◌<◌, ◌≤◌, ℕ, ◌+◌, ◌*◌, ◌^◌, true, List, length, take, Option, Some, None, Ok}
use Rattle.nim_meaning.specs.Values.{Value, Number, Parts, Handle, Fixed, Vacant, Values, Nil, More, count}
use Rattle.nim_meaning.specs.Heap.{Contents, Characters, Elements, Block, Heap, block_at}
use Rattle.flat_code.specs.Shapes.{Shape, number, block, elements, row, parts, Shapes, no_shapes, shapes, is_ordinal}
use Rattle.rv32_isa.specs.declared.micro_op.Size.TheVariants.{Word}
use Rattle.word_code.specs.Memory.{Memory, number_at, own_data_at}
use Rattle.heap_memory.specs.declared.numbers.TheConstants.{CONTENTS_KIND}
use Rattle.heap_memory.specs.HeapState.{Standing, Stands, IsHeap}
use Rattle.word_lowering.specs.Operations.{word}
use Rattle.word_lowering.proofs.ShapeFacts.{shape_bytes, of_numbers, all_of_numbers}

-- ---- blocks by their identities

-- what a block holds: characters, or elements of a shape
pub data Inside : Type 0 where
  Bytes : Inside
  Each : (of : Shape) → Inside

-- So many identities were born. Of each, what its block holds, which never changes; and where that stands, while it does.
pub record Blocks : Type 0 where
  pub born : ℕ
  pub inside : ℕ → Inside
  pub stands : Stands

-- what stands there is as before, or does no more; and what is new has a new identity
pub record AreLater (d later : Blocks) : Type 0 where
  pub born : d.born ≤ later.born
  pub inside : (k : ℕ) → k < d.born → later.inside k ≡ d.inside k
  pub places : (k : ℕ) (x : Standing) → k < d.born → later.stands k ≡ Some x → (y : Standing) × (d.stands k ≡ Some y) × (y.place ≡ x.place)

-- ---- handles

-- a text's block has characters, a sequence's elements of its shape
abbrev pub Holds_for : Shape → Inside → Type 0
Holds_for block Bytes = Unit {0}
Holds_for (elements s) (Each t) = t ≡ s
Holds_for s i = ⊥

-- The word in a handle is the place of its block while that stands. Nobody knows what it is where the block was given back.
abbrev pub IsPlace : Blocks → Shape → Option ℕ → (place : ℕ) → Type 0
IsPlace d s None place = place ≡ 0
IsPlace d s (Some k) place = (k < d.born) × Holds_for s (d.inside k) × ((x : Standing) → d.stands k ≡ Some x → place ≡ x.place)

-- what has no block is empty
abbrev pub IsEmptyIf : Option ℕ → ℕ → Type 0
IsEmptyIf None n = n ≡ 0
IsEmptyIf (Some k) n = Unit {0}

pub record IsHandle (d : Blocks) (m : Memory) (a : ℕ) (s : Shape) (n : ℕ) (k : Option ℕ) : Type 0 where
  pub place : ℕ
  pub long : number_at m a Word ≡ Ok n
  pub few : n < 2 ^ 32
  pub empty : IsEmptyIf k n
  pub there : number_at m (a + 4) Word ≡ Ok place
  pub near : place < 2 ^ 32
  pub is : IsPlace d s k place

-- ---- values, where it is said which texts stand at which places of the data

-- Nothing may stand where a block is held, and where all is without hooks as long as none of it is there.
abbrev pub MayBeVacant : Shape → Type 0
MayBeVacant (row n s) = of_numbers (row n s) ≡ true
MayBeVacant (parts ss) = all_of_numbers ss ≡ true
MayBeVacant s = Unit {0}

module _ (StandsFixed : (place : ℕ) → List ℕ → Type 0) where
  -- the handle of a literal text
  pub record IsLiteralHandle (m : Memory) (a : ℕ) (text : List ℕ) : Type 0 where
    pub place : ℕ
    pub long : number_at m a Word ≡ Ok (length text)
    pub few : length text < 2 ^ 32
    pub there : number_at m (a + 4) Word ≡ Ok place
    pub near : place < 2 ^ 32
    pub stands : StandsFixed place text

  -- Where nothing stands there may be any bytes.
  abbrev mutual
    pub Stored : Blocks → Memory → (a : ℕ) → Shape → Value → Type 0
    Stored d m a s Vacant = MayBeVacant s
    Stored d m a (number values) (Number z) = (number_at m a Word ≡ Ok (word z)) × (is_ordinal values (Number z) ≡ true)
    Stored d m a block (Handle n k) = IsHandle d m a block n k
    Stored d m a block (Fixed text) = IsLiteralHandle m a text
    Stored d m a (elements s) (Handle n k) = IsHandle d m a (elements s) n k
    Stored d m a (row n s) (Parts vs) = (count vs ≡ n) × AreStored d m a s vs
    Stored d m a (parts ss) (Parts vs) = PartsStored d m a ss vs
    Stored d m a s v = ⊥

    -- of one shape, one behind the other
    pub AreStored : Blocks → Memory → (a : ℕ) → Shape → Values → Type 0
    AreStored d m a s Nil = Unit {0}
    AreStored d m a s (More v vs) = Stored d m a s v × AreStored d m (a + shape_bytes s) s vs

    pub PartsStored : Blocks → Memory → (a : ℕ) → Shapes → Values → Type 0
    PartsStored d m a no_shapes Nil = Unit {0}
    PartsStored d m a (shapes s ss) (More v vs) = Stored d m a s v × PartsStored d m (a + shape_bytes s) ss vs
    PartsStored d m a ss vs = ⊥

  -- ---- the heap

  -- a payload begins with the contents
  abbrev pub HasContents : Blocks → Memory → Standing → Inside → Contents → Type 0
  HasContents d m x Bytes (Characters text) = take (length text) x.payload ≡ text
  HasContents d m x (Each s) (Elements vs) = AreStored d m x.place s vs × (count vs * shape_bytes s ≤ length x.payload)
  HasContents d m x i c = ⊥

  pub record IsBlockThere (d : Blocks) (m : Memory) (k : ℕ) (b : Block) : Type 0 where
    pub standing : Standing
    pub stands : d.stands k ≡ Some standing
    pub class : standing.class ≡ b.class
    pub kind : standing.kind ≡ CONTENTS_KIND
    pub word : standing.word ≡ 0
    pub holds : HasContents d m standing (d.inside k) b.contents

  abbrev pub IfBlockThere : Blocks → Memory → (k : ℕ) → Option Block → Type 0
  IfBlockThere d m k None = d.stands k ≡ None
  IfBlockThere d m k (Some b) = IsBlockThere d m k b

  -- memory holds the heap of the meaning
  pub record HasHeap (d : Blocks) (heap : Heap) (m : Memory) : Type 0 where
    pub kept : IsHeap own_data_at heap.classes d.stands m
    pub room : length m.heap ≡ heap.room
    pub born : d.born ≡ length heap.blocks
    pub blocks : (k : ℕ) → IfBlockThere d m k (block_at heap k)

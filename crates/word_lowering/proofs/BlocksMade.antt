-- Memory where a text or a sequence got a block, or another one: it holds the heap that the meaning has then.
use Rattle.std.proofs.Common.{◌≡◌, ℕ, zero, suc, ◌<◌, ◌≤◌, List, length, take, Option, Some, None, Bool, true, false, refl, sym, ap, subst, ◌∙◌, arith}
use Rattle.std.specs.Prelude.{nat_le}
use Rattle.std.proofs.lemmas.Bool.{lt-leb, le-leb}
use Rattle.nim_meaning.specs.Heap.{Contents, Block, Heap, block_at, class_for, taken, given, with_contents}
use Rattle.nim_meaning.specs.State.{World}
use Rattle.nim_meaning.specs.Lifted.{holds_class, has_place}
use Rattle.flat_code.specs.Shapes.{Shape}
use Rattle.word_code.specs.Memory.{Memory, own_data_at}
use Rattle.word_code.proofs.ForCallers.{Sized}
use Rattle.heap_memory.specs.HeapState.{Standing}
use Rattle.heap_memory.specs.HeapUse.{IsThere}
use Rattle.heap_memory.specs.HeapRoutines.{class_of}
use Rattle.heap_memory.specs.GrowRoutine.{Owned, holds_it}
use Rattle.heap_memory.specs.AppendRoutine.{IsFilled}
use Rattle.heap_memory.proofs.ForCallers.{is_there, class_same, room_same}
use Rattle.word_lowering.proofs.Blocks.{Inside, Blocks, AreLater, Holds_for, IsPlace, HasContents, IsBlockThere, HasHeap}
use Rattle.word_lowering.proofs.BlocksBorn.{later_same}
use Rattle.word_lowering.proofs.HeapChanged.{TwoMemories}
use Rattle.word_lowering.proofs.HeapsThen.{heap_on, heap_still}
use Rattle.word_lowering.proofs.ContentsGrown.{growing_in, Grown, grown_new, grown_other, grown_within}

-- ---- the heap then

-- a new block for so many bytes; for none there is no block
abbrev pub heap_fresh : Heap → (bytes : ℕ) → Contents → Heap
heap_fresh heap zero contents = heap
heap_fresh heap (suc n) contents = taken heap (class_for (suc n) heap.classes) contents

abbrev pub block_fresh : Heap → (bytes : ℕ) → Option ℕ
block_fresh heap zero = None
block_fresh heap (suc n) = Some (length heap.blocks)

-- other contents in its block, or in a larger one, behind which its own is given back
abbrev pub heap_resized : (has_place : Bool) → Heap → Option ℕ → (bytes : ℕ) → Contents → Heap
heap_resized true heap None bytes contents = heap
heap_resized true heap (Some k) bytes contents = with_contents heap k contents
heap_resized false heap None bytes contents = taken heap (class_for bytes heap.classes) contents
heap_resized false heap (Some k) bytes contents = heap_on heap (class_for bytes heap.classes) contents k

abbrev pub block_resized : (has_place : Bool) → Heap → Option ℕ → Option ℕ
block_resized true heap k = k
block_resized false heap k = Some (length heap.blocks)

module _ (StandsFixed : (place : ℕ) → List ℕ → Type 0) where
  -- a block stands at a place, with room for so many bytes
  abbrev pub HasRoom : Blocks → Option ℕ → (place bytes : ℕ) → Type 0
  HasRoom after None place bytes = Unit {0}
  HasRoom after (Some k) place bytes = (x : Standing) × (after.stands k ≡ Some x) × (x.place ≡ place) × (bytes ≤ length x.payload)

  -- memory holds it, and a text or a sequence has its block at a place, if it has one
  pub record IsMade (d : Blocks) (heap_after : Heap) (other : Memory) (s : Shape) (k : Option ℕ) (place bytes : ℕ) : Type 0 where
    pub after : Blocks
    pub ahead : AreLater d after
    pub has : HasHeap StandsFixed after heap_after other
    pub is_place : IsPlace after s k place
    pub room : HasRoom after k place bytes

  -- a block has room for what the meaning finds room for in it
  pub place_same : (d : Blocks) (w : World) (m : Memory) → HasHeap StandsFixed d w.heap m → (k : ℕ) (b : Block) → block_at w.heap k ≡ Some b
      → (at : IsBlockThere StandsFixed d m k b) → (bytes : ℕ)
      → has_place w (Some k) bytes ≡ holds_it (Some (record { identity = k; block = at.standing })) bytes
  place_same d w m has k b there at zero = sym (le-leb 0 (length at.standing.payload) (omega arith))
  place_same d w m has k b there at (suc n) =
      ap (λ o. holds_class o (class_for (suc n) w.heap.classes)) there
      ∙ ap (λ c. nat_le c b.class) (class_same own_data_at w.heap.classes d.stands m has.kept (suc n))
      ∙ ap (nat_le (class_of (suc n))) (sym at.class)
      ∙ sym (room_same own_data_at w.heap.classes d.stands m has.kept k at.standing at.stands (suc n))

  pub two_memories : (d : Blocks) (heap : Heap) (m other : Memory) → HasHeap StandsFixed d heap m → Sized m → Sized other
      → length other.heap ≡ length m.heap → TwoMemories StandsFixed d heap m other
  two_memories d heap m other has sized sized_after long = record {
    sized = sized;
    sized_after = sized_after;
    has = has;
    there = λ k y e. is_there own_data_at heap.classes d.stands m has.kept k y e sized;
    long = long;
    there_after = λ h stands is k y e. is_there own_data_at h.classes stands other is k y e sized_after;
  }

  module _ (d : Blocks) (w : World) (m other : Memory) (t : TwoMemories StandsFixed d w.heap m other) (place bytes : ℕ) (front : List ℕ) (s : Shape)
      (i : Inside) (is_for : Holds_for s i) (contents : Contents)
      (holds : (after : Blocks) → AreLater d after → (x : Standing) → IsThere other x → take (length front) x.payload ≡ front → bytes ≤ length x.payload
      → HasContents StandsFixed after other x i contents)
    where
      abbrev heap : Heap
      heap = w.heap

      class_is : (n : ℕ) → class_of n ≡ class_for n heap.classes
      class_is n = sym (class_same own_data_at heap.classes d.stands m t.has.kept n)

      from_grown : (heap_after : Heap) (k j : ℕ) → k ≡ j → (heap_then : Heap) → heap_after ≡ heap_then → Grown StandsFixed d heap_after other s k place bytes
          → IsMade d heap_then other s (Some j) place bytes
      from_grown heap_after k j same heap_then same_heap x = record {
        after = x.after;
        ahead = x.ahead;
        has = subst (λ h. HasHeap StandsFixed x.after h other) same_heap x.has;
        is_place = subst (λ n. IsPlace x.after s (Some n) place) same x.is_place;
        room = (x.standing, subst (λ n. x.after.stands n ≡ Some x.standing) same x.stands, x.at, x.room);
      }

      -- a new one
      made_fresh : (kept n : ℕ) → n ≡ bytes → IsFilled (holds_it None n) own_data_at (growing_in d heap None kept n) front other place
          → IsMade d (heap_fresh heap n contents) other s (block_fresh heap n) place bytes
      made_fresh kept zero e f = record {
        after = d;
        ahead = later_same d;
        has = heap_still StandsFixed d heap m other t f.heap;
        is_place = sym f.there;
        room = tt;
      }
      made_fresh kept (suc n) e f =
          let g : IsFilled false own_data_at (growing_in d heap None kept bytes) front other place
          = subst (λ b. IsFilled false own_data_at (growing_in d heap None kept b) front other place) e
          (subst (λ c. IsFilled c own_data_at (growing_in d heap None kept (suc n)) front other place) (lt-leb (suc n) 0 (omega arith)) f) in
          from_grown (taken heap (class_of bytes) contents) d.born (length heap.blocks) t.has.born
          (taken heap (class_for (suc n) heap.classes) contents) (ap (λ c. taken heap c contents) (class_is bytes ∙ ap (λ b. class_for b heap.classes) (sym e)))
          (grown_new StandsFixed d heap m other t kept bytes place front s i is_for contents holds g)

      pub is_fresh : (kept : ℕ) → IsFilled (holds_it None bytes) own_data_at (growing_in d heap None kept bytes) front other place
          → IsMade d (heap_fresh heap bytes contents) other s (block_fresh heap bytes) place bytes
      is_fresh kept f = made_fresh kept bytes refl f

      -- one without a block gets other contents
      pub is_first : (kept : ℕ) → IsFilled (holds_it None bytes) own_data_at (growing_in d heap None kept bytes) front other place
          → IsMade d (heap_resized (has_place w None bytes) heap None bytes contents) other s (block_resized (has_place w None bytes) heap None) place bytes
      is_first kept f = by bytes (is_fresh kept f)
        where
          by : (n : ℕ) → IsMade d (heap_fresh heap n contents) other s (block_fresh heap n) place bytes
              → IsMade d (heap_resized (has_place w None n) heap None n contents) other s (block_resized (has_place w None n) heap None) place bytes
          by zero x = x
          by (suc n) x = x

      -- one with a block does
      module _ (k : ℕ) (b : Block) (there : block_at heap k ≡ Some b) (at : IsBlockThere StandsFixed d m k b) where
        abbrev pub present : Owned
        present = record { identity = k; block = at.standing }

        pub is_next : (kept : ℕ) → d.inside k ≡ i → k < d.born
            → IsFilled (holds_it (Some present) bytes) own_data_at (growing_in d heap (Some present) kept bytes) front other place
            → IsMade d (heap_resized (has_place w (Some k) bytes) heap (Some k) bytes contents) other s
            (block_resized (has_place w (Some k) bytes) heap (Some k))
            place bytes
        is_next kept inside born f =
            by (has_place w (Some k) bytes)
            (subst (λ c. IsFilled c own_data_at (growing_in d heap (Some present) kept bytes) front other place)
            (sym (place_same d w m t.has k b there at bytes)) f)
          where
            by : (c : Bool) → IsFilled c own_data_at (growing_in d heap (Some present) kept bytes) front other place
                → IsMade d (heap_resized c heap (Some k) bytes contents) other s (block_resized c heap (Some k)) place bytes
            by true f =
                from_grown (with_contents heap k contents) k k refl (with_contents heap k contents) refl
                (grown_within StandsFixed d heap m other t kept bytes place front s i is_for contents holds k b there at inside born f)
            by false f =
                from_grown (heap_on heap (class_of bytes) contents k) d.born (length heap.blocks) t.has.born
                (heap_on heap (class_for bytes heap.classes) contents k) (ap (λ c. heap_on heap c contents k) (class_is bytes))
                (grown_other StandsFixed d heap m other t kept bytes place front s i is_for contents holds k b there at f)

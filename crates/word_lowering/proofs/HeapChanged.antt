-- Memory holds the heap of the meaning behind any change of blocks: each block is as it was, or it is known what is there of it.
use Rattle.std.proofs.Common.{◌≡◌, ◌⊎◌, inl, inr, ℕ, List, length, Option, Some, None, refl, sym, subst, ◌∙◌}
use Rattle.nim_meaning.specs.Heap.{Block, Heap, block_at}
use Rattle.word_code.specs.Memory.{Memory, own_data_at}
use Rattle.word_code.proofs.ForCallers.{Sized}
use Rattle.heap_memory.specs.HeapState.{Standing, Stands, IsHeap}
use Rattle.heap_memory.specs.HeapUse.{IsThere}
use Rattle.word_lowering.proofs.Blocks.{Blocks, AreLater, HasContents, IfBlockThere, HasHeap}
use Rattle.word_lowering.proofs.BlocksKept.{contents_kept}

-- a block is as it was
pub record IsSame (d after : Blocks) (heap heap_after : Heap) (k : ℕ) : Type 0 where
  pub stands : after.stands k ≡ d.stands k
  pub inside : after.inside k ≡ d.inside k
  pub block : block_at heap_after k ≡ block_at heap k

-- two memories, the first of which holds a heap, whose blocks are where they stand
pub record TwoMemories (StandsFixed : (place : ℕ) → List ℕ → Type 0) (d : Blocks) (heap : Heap) (m other : Memory) : Type 0 where
  pub sized : Sized m
  pub sized_after : Sized other
  pub has : HasHeap StandsFixed d heap m
  pub there : (k : ℕ) (y : Standing) → d.stands k ≡ Some y → IsThere m y
  pub long : length other.heap ≡ length m.heap
  pub there_after : (h : Heap) (stands : Stands) → IsHeap own_data_at h.classes stands other → (k : ℕ) (y : Standing) → stands k ≡ Some y → IsThere other y

module _ (StandsFixed : (place : ℕ) → List ℕ → Type 0) (d : Blocks) (heap : Heap) (m other : Memory) (x : TwoMemories StandsFixed d heap m other) where
  abbrev pub IsKnown : Blocks → Heap → ℕ → Type 0
  IsKnown after heap_after k = IsSame d after heap heap_after k ⊎ IfBlockThere StandsFixed after other k (block_at heap_after k)

  module _ (after : Blocks) (ahead : AreLater d after) (heap_after : Heap) (is : IsHeap own_data_at heap_after.classes after.stands other) where
    kept : (k : ℕ) (o : Option Block) → after.stands k ≡ d.stands k → after.inside k ≡ d.inside k → IfBlockThere StandsFixed d m k o
        → IfBlockThere StandsFixed after other k o
    kept k None stands inside h = stands ∙ h
    kept k (Some b) stands inside h = record {
      standing = h.standing;
      stands = stands ∙ h.stands;
      class = h.class;
      kind = h.kind;
      word = h.word;
      holds = subst (λ i. HasContents StandsFixed after other h.standing i b.contents) (sym inside)
          (contents_kept m other x.sized x.sized_after h.standing h.standing (x.there k h.standing h.stands)
          (x.there_after heap_after after.stands is k h.standing (stands ∙ h.stands)) refl refl StandsFixed d after ahead (d.inside k) b.contents h.holds);
    }

    pub heap_changed : heap_after.room ≡ heap.room → after.born ≡ length heap_after.blocks → ((k : ℕ) → IsKnown after heap_after k)
        → HasHeap StandsFixed after heap_after other
    heap_changed room born each = record {
      kept = is;
      room = x.long ∙ x.has.room ∙ sym room;
      born = born;
      blocks = λ k. by k (each k);
    }
      where
        by : (k : ℕ) → IsKnown after heap_after k → IfBlockThere StandsFixed after other k (block_at heap_after k)
        by k (inr there) = there
        by k (inl s) =
            subst (λ o. IfBlockThere StandsFixed after other k o) (sym s.block) (kept k (block_at heap k) s.stands s.inside (x.has.blocks k))

-- The bytes of a block among those of all.
use Rattle.std.proofs.Common.{◌≡◌, ℕ, ◌+◌, ◌%◌, List, ◌++◌, length, Some, ap, ◌∙◌, arith, append_assoc}
use Rattle.rv32_isa.specs.Words.{word_bytes}
use Rattle.nim_meaning.specs.Heap.{Class}
use Rattle.heap_memory.specs.HeapBlocks.{Block, kind_of, word_of, first_word, all_bytes, first_place, block_in}
use Rattle.heap_memory.specs.HeapState.{Stands, AreKept}
use Rattle.heap_memory.proofs.BlockLists.{placed, split, far}

pub bytes_joined : (before first second payload after zeros : List ℕ)
    → (before ++ (((first ++ second) ++ payload) ++ after)) ++ zeros ≡ before ++ (first ++ (second ++ (payload ++ (after ++ zeros))))
bytes_joined before first second payload after zeros =
    append_assoc before (((first ++ second) ++ payload) ++ after) zeros
    ∙ ap (λ l. before ++ l) (append_assoc ((first ++ second) ++ payload) after zeros ∙ append_assoc (first ++ second) payload (after ++ zeros)
    ∙ append_assoc first second (payload ++ (after ++ zeros)))

-- a block at a place, with the bytes of a heap before it and behind it
pub record BlockBytes (place : ℕ) (b : Block) (blocks : List Block) (zeros : List ℕ) : Type 0 where
  pub before : List ℕ
  pub after : List ℕ
  pub far : place ≡ first_place + length before
  pub whole : place % 8 ≡ 0
  pub bytes : all_bytes blocks ++ zeros
      ≡ before ++ (word_bytes (first_word (kind_of b.holder) b.class) ++ (word_bytes (word_of b.holder) ++ (b.payload ++ after)))
  pub other : (new : Block) → all_bytes (placed first_place place new blocks) ++ zeros
      ≡ before ++ (word_bytes (first_word (kind_of new.holder) new.class) ++ (word_bytes (word_of new.holder) ++ (new.payload ++ after)))

pub block_bytes_at : (classes : List Class) (stands : Stands) (blocks : List Block) (frees : (class : ℕ) → List ℕ) → AreKept classes stands blocks frees
    → (place : ℕ) (b : Block) (zeros : List ℕ) → block_in place blocks ≡ Some b → BlockBytes place b blocks zeros
block_bytes_at classes stands blocks frees kept place b zeros there =
    let s = split first_place place b blocks kept.all there in
    let f = far first_place place b blocks there in
    let e = f.1 in
    record {
      before = s.before;
      after = s.after ++ zeros;
      far = s.far;
      whole = omega (arith, e);
      bytes = ap (λ l. l ++ zeros) s.bytes
          ∙ bytes_joined s.before (word_bytes (first_word (kind_of b.holder) b.class)) (word_bytes (word_of b.holder)) b.payload s.after zeros;
      other = λ new. ap (λ l. l ++ zeros) (s.other new)
          ∙ bytes_joined s.before (word_bytes (first_word (kind_of new.holder) new.class)) (word_bytes (word_of new.holder)) new.payload s.after zeros;
    }

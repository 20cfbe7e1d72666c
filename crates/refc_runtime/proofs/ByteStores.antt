-- Bytes are put to an address, one at a time.
use Rattle.std.proofs.Common.{◌≡◌, ℕ, suc, ◌+◌, ◌%◌, ◌<◌, inl, inr, List, [], ◌∷◌, length, Some, true, ap, ◌∙◌, arith}
use Rattle.std.specs.Prelude.{◌==◌}
use Rattle.std.proofs.lemmas.Bool.{and_from, eq-eqb}
use Rattle.rv32_isa.specs.declared.micro_op.Size.TheVariants.{Byte}
use Rattle.rv32_isa.specs.State.{writable}
use Rattle.word_code.specs.Memory.{Memory, as_state, may_put, with_number, bytes_at, may_fill}
use Rattle.word_code.specs.RoutineTable.{Beside, IsRewritten}
use Rattle.word_code.proofs.ForCallers.{MemoryLaw, Sized, sizes_more, store_rewritten, store_sized, store_here}
use Rattle.refc_runtime.proofs.NumberTexts.{one_byte}
use Rattle.heap_memory.proofs.ForCallers.{written_in, part_written, byte_before}

-- one byte
module _ (law : MemoryLaw) (m : Memory) (sized : Sized m) (a b : ℕ) (may : may_fill m a 1 ≡ true) where
  pub byte_may : may_put m a Byte ≡ true
  byte_may = and_from (a % 1 == 0) (writable (as_state m) a 1) (eq-eqb (a % 1) 0 (omega arith)) may

  pub byte_sized : Sized (with_number m a Byte b)
  byte_sized = store_sized law m a Byte b sized byte_may

  pub byte_written : IsRewritten m (with_number m a Byte b) a 1
  byte_written = store_rewritten law m a Byte b sized byte_may

  pub byte_here : b < 256 → bytes_at (with_number m a Byte b) a 1 ≡ Some (b ∷ [])
  byte_here small = store_here law m a Byte b sized byte_may ∙ ap Some (one_byte b small)

-- the rest of a range may still be written, and the first of it
pub first_open : (m : Memory) → Sized m → (a n : ℕ) → may_fill m a (suc n) ≡ true → may_fill m a 1 ≡ true
first_open m sized a n may =
    let zero_at : a ≡ a + 0 = omega arith in
    ap (λ i. may_fill m i 1) zero_at ∙ part_written m sized a (suc n) (written_in m sized a (suc n) (omega arith) may) 0 1 (omega arith)

-- a byte, and then those behind it
module _ (law : MemoryLaw) (m middle other : Memory) (sized : Sized m) (sized_other : Sized other) (a n b : ℕ) (bytes : List ℕ)
    (long : length bytes ≡ n) (may : may_fill m a (suc n) ≡ true) (first : IsRewritten m middle a 1) (rest : IsRewritten middle other (a + 1) n)
  where
    pub all_written : IsRewritten m other a (suc n)
    all_written = record {
      sizes = sizes_more m middle other first.sizes rest.sizes;
      beside = λ x k apart. rest.beside x k (behind x k apart) ∙ first.beside x k (before x k apart);
    }
      where
        behind : (x k : ℕ) → Beside x k a (suc n) → Beside x k (a + 1) n
        behind x k (inl h) = inl (omega (arith, h))
        behind x k (inr h) = inr (omega (arith, h))

        before : (x k : ℕ) → Beside x k a (suc n) → Beside x k a 1
        before x k (inl h) = inl h
        before x k (inr h) = inr (omega (arith, h))

    pub all_bytes : bytes_at middle a 1 ≡ Some (b ∷ []) → bytes_at other (a + 1) n ≡ Some bytes → bytes_at other a (suc n) ≡ Some (b ∷ bytes)
    all_bytes here there =
        byte_before other sized_other a n b bytes
        (written_in other sized_other a (suc n) (omega arith) (law.stores (as_state m) (as_state other) a (suc n) all_written.sizes ∙ may))
        (rest.beside a 1 (inl (omega arith)) ∙ here) there

-- what is open behind the first byte
pub behind_open : MemoryLaw → (m middle : Memory) → Sized m → (a n : ℕ) → may_fill m a (suc n) ≡ true → IsRewritten m middle a 1
    → may_fill middle (a + 1) n ≡ true
behind_open law m middle sized a n may first =
    law.stores (as_state m) (as_state middle) (a + 1) n first.sizes
    ∙ part_written m sized a (suc n) (written_in m sized a (suc n) (omega arith) may) 1 n (omega arith)

-- A text stands at the place that its handle has, while its block does.
use Rattle.std.proofs.Common.{◌≡◌, ℕ, zero, suc, ◌+◌, ◌≤◌, List, [], ◌∷◌, length, take, Some, refl, sym, ap, subst, ◌∙◌, arith}
use Rattle.nim_meaning.specs.Heap.{Characters, Block}
use Rattle.flat_code.specs.Shapes.{block}
use Rattle.word_code.specs.Memory.{Memory, bytes_at}
use Rattle.word_code.proofs.ForCallers.{Sized}
use Rattle.heap_memory.specs.HeapState.{Standing}
use Rattle.heap_memory.specs.HeapUse.{IsThere}
use Rattle.word_lowering.proofs.Blocks.{Bytes, Blocks, IsHandle, HasContents, IsBlockThere}
use Rattle.word_lowering.proofs.BlocksKept.{payload_part}

pub take_long : (n : ℕ) (xs : List ℕ) → length (take n xs) ≡ n → n ≤ length xs
take_long zero xs e = omega arith
take_long (suc n) [] e = absurd (omega (arith, e))
take_long (suc n) (x ∷ xs) e = let h = take_long n xs (omega (arith, e)) in omega (arith, h)

-- the first bytes of a payload
pub payload_front : (m : Memory) → Sized m → (x : Standing) → IsThere m x → (text : List ℕ) → take (length text) x.payload ≡ text
    → bytes_at m x.place (length text) ≡ Some text
payload_front m sized x there [] front = refl
payload_front m sized x there (c ∷ text) front =
    let long = take_long (length (c ∷ text)) x.payload (ap length front) in
    let here : x.place + 0 ≡ x.place = omega arith in
    subst (λ a. bytes_at m a (length (c ∷ text)) ≡ Some (c ∷ text)) here
    (payload_part m sized x there 0 (length (c ∷ text)) (omega arith) (omega (arith, long)) ∙ ap Some front)

module _ (StandsFixed : (place : ℕ) → List ℕ → Type 0) where
  pub text_at : (d : Blocks) (m : Memory) → Sized m → (a n k : ℕ) (b : Block) (text : List ℕ) → (h : IsHandle d m a block n (Some k))
      → (at : IsBlockThere StandsFixed d m k b) → IsThere m at.standing → b.contents ≡ Characters text → d.inside k ≡ Bytes
      → bytes_at m h.place (length text) ≡ Some text
  text_at d m sized a n k b text h at there is inside =
      subst (λ p. bytes_at m p (length text) ≡ Some text) (sym (h.is.2 at.standing at.stands))
      (payload_front m sized at.standing there text
      (subst (λ c. HasContents StandsFixed d m at.standing Bytes c) is (subst (λ i. HasContents StandsFixed d m at.standing i b.contents) inside at.holds)))

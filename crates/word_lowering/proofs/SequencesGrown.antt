-- The elements of a sequence whose contents come to a larger block, and one more behind them.
use Rattle.std.proofs.Common.{◌≡◌, ℕ, zero, suc, ◌+◌, ◌*◌, ◌%◌, ◌≤◌, List, [], ◌∷◌, length, take, drop, Some, Err, refl, sym, ap, subst, ◌∙◌, arith}
use Rattle.std.specs.Prelude.{◌==◌}
use Rattle.std.proofs.lemmas.Bool.{cond-true, eq-eqb}
use Rattle.nim_meaning.specs.Values.{Value, Values, Nil, More, count, joined}
use Rattle.flat_code.specs.Shapes.{Shape}
use Rattle.rv32_isa.specs.declared.micro_op.Size.TheVariants.{Word}
use Rattle.rv32_isa.specs.declared.machine.FaultKind.TheVariants.{Misaligned}
use Rattle.rv32_isa.specs.Steps.{number_of}
use Rattle.word_code.specs.Memory.{Memory, number_at, bytes_at}
use Rattle.word_code.proofs.ForCallers.{Sized}
use Rattle.heap_memory.specs.HeapState.{Standing}
use Rattle.heap_memory.specs.HeapUse.{IsThere}
use Rattle.word_lowering.proofs.InMemory.{Carries}
use Rattle.word_lowering.proofs.ShapeFacts.{shape_bytes}
use Rattle.word_lowering.proofs.Blocks.{Blocks, AreLater, Stored, AreStored}
use Rattle.word_lowering.proofs.BlocksKept.{payload_part}
use Rattle.word_lowering.proofs.StoredLater.{all_kept}

-- ---- the front of a payload

take_front : (k kept : ℕ) (p : List ℕ) → k ≤ kept → take k (take kept p) ≡ take k p
take_front zero kept p le = refl
take_front (suc k) zero p le = absurd (omega (arith, le))
take_front (suc k) (suc kept) [] le = refl
take_front (suc k) (suc kept) (x ∷ p) le = ap (λ q. x ∷ q) (take_front k kept p (omega (arith, le)))

pub part_front : (o k kept : ℕ) (p : List ℕ) → o + k ≤ kept → take k (drop o (take kept p)) ≡ take k (drop o p)
part_front zero k kept p le = take_front k kept p (omega (arith, le))
part_front (suc o) k zero p le = absurd (omega (arith, le))
part_front (suc o) k (suc kept) [] le = refl
part_front (suc o) k (suc kept) (x ∷ p) le = part_front o k kept p (omega (arith, le))

-- a word is what its bytes are
pub at_bytes : (m : Memory) (a : ℕ) → a % 4 ≡ 0 → number_at m a Word ≡ number_of (bytes_at m a 4)
at_bytes m a e = cond-true (a % 4 == 0) (number_of (bytes_at m a 4)) (Err Misaligned) (eq-eqb (a % 4) 0 e)

module _ (m other : Memory) (sized : Sized m) (sized_after : Sized other) (x y : Standing) (there : IsThere m x) (there_after : IsThere other y)
    (kept : ℕ) (front : take kept y.payload ≡ take kept x.payload) (in_old : kept ≤ length x.payload) (in_new : kept ≤ length y.payload) where
  -- what was kept stands at the new place
  pub grown_carried : Carries m other x.place y.place kept
  grown_carried o w within whole reads =
      let a = there.aligned in let b = there_after.aligned in
      let old = payload_part m sized x there o 4 (omega arith) (omega (arith, within, in_old)) in
      let new = payload_part other sized_after y there_after o 4 (omega arith) (omega (arith, within, in_new)) in
      let same : take 4 (drop o y.payload) ≡ take 4 (drop o x.payload)
      = sym (part_front o 4 kept y.payload within) ∙ ap (λ p. take 4 (drop o p)) front ∙ part_front o 4 kept x.payload within in
      at_bytes other (y.place + o) (omega (arith, b, whole)) ∙ ap number_of (new ∙ ap Some same ∙ sym old)
      ∙ sym (at_bytes m (x.place + o) (omega (arith, a, whole))) ∙ reads

  module _ (StandsFixed : (place : ℕ) → List ℕ → Type 0) (d later : Blocks) (ahead : AreLater d later) (s : Shape) (vs : Values)
      (long : count vs * shape_bytes s ≤ kept) where
    pub grown_elements : AreStored StandsFixed d m x.place s vs → AreStored StandsFixed later other y.place s vs
    grown_elements at =
        all_kept StandsFixed d later ahead m other x.place y.place s vs (count vs) refl (λ o w within. grown_carried o w (omega (arith, within, long))) at

-- ---- one more behind them

pub one_more_stored : (StandsFixed : (place : ℕ) → List ℕ → Type 0) (d : Blocks) (m : Memory) (a : ℕ) (s : Shape) (vs : Values) (new : Value)
    → AreStored StandsFixed d m a s vs → Stored StandsFixed d m (a + count vs * shape_bytes s) s new
    → AreStored StandsFixed d m a s (joined vs (More new Nil))
one_more_stored StandsFixed d m a s Nil new at there =
    let here : a + 0 * shape_bytes s ≡ a = omega arith in (subst (λ b. Stored StandsFixed d m b s new) here there, tt)
one_more_stored StandsFixed d m a s (More v vs) new at there =
    let here : a + suc (count vs) * shape_bytes s ≡ a + shape_bytes s + count vs * shape_bytes s = omega arith in (
      at.0,
      one_more_stored StandsFixed d m (a + shape_bytes s) s vs new at.1 (subst (λ b. Stored StandsFixed d m b s new) here there),
    )

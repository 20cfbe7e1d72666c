-- What blocks hold stays while their payloads do.
use Rattle.std.proofs.Common.{◌≡◌, ℕ, ◌+◌, ◌<◌, ◌≤◌, List, length, take, drop, Some, Ok, refl, sym, ap, subst, ◌∙◌, arith}
use Rattle.nim_meaning.specs.Values.{count}
use Rattle.nim_meaning.specs.Heap.{Contents, Characters, Elements, Object}
use Rattle.rv32_isa.specs.declared.micro_op.Size.TheVariants.{Word}
use Rattle.word_code.specs.Memory.{Memory, number_at, bytes_at}
use Rattle.word_code.proofs.ForCallers.{Sized}
use Rattle.heap_memory.specs.HeapState.{Standing}
use Rattle.heap_memory.specs.HeapUse.{IsThere}
use Rattle.heap_memory.proofs.ForCallers.{part_read, written_in}
use Rattle.word_lowering.proofs.RoutineMemory.{same_word}
use Rattle.word_lowering.proofs.InMemory.{Carries}
use Rattle.word_lowering.proofs.Blocks.{Inside, Bytes, Each, Blocks, AreLater, HasContents}
use Rattle.word_lowering.proofs.StoredLater.{all_kept}

-- bytes of a payload
pub payload_part : (m : Memory) → Sized m → (x : Standing) → IsThere m x → (o k : ℕ) → 0 < k → o + k ≤ length x.payload
    → bytes_at m (x.place + o) k ≡ Some (take k (drop o x.payload))
payload_part m sized x there o k some within =
    part_read m sized x.place (length x.payload) x.payload
    (written_in m sized x.place (length x.payload) (omega (arith, some, within)) there.may) there.bytes o k within

module _ (m other : Memory) (sized : Sized m) (sized_then : Sized other) (x y : Standing) (there : IsThere m x) (there_then : IsThere other y)
    (place : y.place ≡ x.place) (payload : y.payload ≡ x.payload) where
  pub payload_carried : Carries m other x.place y.place (length x.payload)
  payload_carried o w within whole reads =
      subst (λ b. number_at other (b + o) Word ≡ Ok w) (sym place)
      (same_word m other (x.place + o)
      (subst (λ b. bytes_at other (b + o) 4 ≡ Some (take 4 (drop o x.payload))) place
      (subst (λ p. bytes_at other (y.place + o) 4 ≡ Some (take 4 (drop o p))) payload
      (payload_part other sized_then y there_then o 4 (omega arith) (let e = ap length payload in omega (arith, within, e))))
      ∙ sym (payload_part m sized x there o 4 (omega arith) within))
      ∙ reads)

  -- contents, whatever else becomes of memory and of blocks
  module _ (StandsFixed : (place : ℕ) → List ℕ → Type 0) (d later : Blocks) (ahead : AreLater d later) where
    pub contents_kept : (i : Inside) (c : Contents) → HasContents StandsFixed d m x i c → HasContents StandsFixed later other y i c
    contents_kept Bytes (Characters text) has = ap (take (length text)) payload ∙ has
    contents_kept (Each s) (Elements vs) has =
        let e = ap length payload in let f = has.1 in (
          all_kept StandsFixed d later ahead m other x.place y.place s vs (count vs) refl
              (λ o w within. payload_carried o w (omega (arith, within, f))) has.0,
          omega (arith, e, f),
        )
    contents_kept Bytes (Elements vs) has = absurd has
    contents_kept Bytes (Object of v) has = absurd has
    contents_kept (Each s) (Characters text) has = absurd has
    contents_kept (Each s) (Object of v) has = absurd has

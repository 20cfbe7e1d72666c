-- The scratch bytes of the heap's routines.
use Rattle.std.proofs.Common.{◌≡◌, ℕ, ◌+◌, ◌%◌, ◌≤◌, inl, inr, List, take, drop, Err, true, refl, ap, subst, ◌∙◌, arith, eq-eqb}
use Rattle.std.specs.Prelude.{◌-◌, ◌==◌}
use Rattle.std.proofs.lemmas.Bool.{and_from, cond-true}
use Rattle.nim_meaning.specs.Heap.{Class}
use Rattle.rv32_isa.specs.declared.machine.FaultKind.TheVariants.{Misaligned}
use Rattle.rv32_isa.specs.State.{writable}
use Rattle.rv32_isa.specs.Image.{statics_at, heap_at}
use Rattle.rv32_isa.specs.Steps.{number_of}
use Rattle.rv32_isa.specs.Words.{little}
use Rattle.word_code.specs.Memory.{Memory, as_state, may_fill, bytes_at}
use Rattle.word_code.specs.RoutineTable.{Beside, Cell, Area}
use Rattle.word_code.proofs.ForCallers.{Sized}
use Rattle.heap_memory.specs.declared.numbers.TheConstants.{HEAP_SCRATCH, HEAP_DATA}
use Rattle.heap_memory.specs.HeapState.{Stands, IsHeap}
use Rattle.heap_memory.specs.HeapUse.{IsElsewhere}
use Rattle.heap_memory.proofs.ForCallers.{data_open, data_part}

module _ (at : ℕ) (classes : List Class) (stands : Stands) (m : Memory) (h : IsHeap at classes stands m) (sized : Sized m) where
  abbrev pub scratch : ℕ
  scratch = at + HEAP_SCRATCH

  pub scratch_low : at + HEAP_DATA ≤ heap_at
  scratch_low = let e = h.words.high in let s = sized.statics_most in omega (arith, e, s)

  -- bytes of it may be written
  pub scratch_open : (i n : ℕ) → i + n ≤ 12 → may_fill m (scratch + i) n ≡ true
  scratch_open i n few =
      let low = h.words.low in
      let high = h.words.high in
      data_open m sized (scratch + i) n (omega (arith, low)) (omega (arith, high, few))

  cell_at : (i : ℕ) → i % 4 ≡ 0 → i + 4 ≤ 12 → Cell m (scratch + i)
  cell_at i whole few =
      let low = h.words.low in
      let high = h.words.high in
      let all = h.words.whole in
      let even : ((scratch + i) % 4 == 0) ≡ true = eq-eqb ((scratch + i) % 4) 0 (omega (arith, all, whole)) in
      record {
        may = and_from ((scratch + i) % 4 == 0) (writable (as_state m) (scratch + i) 4) even (scratch_open i 4 few);
        word = little (take 4 (drop (scratch + i - statics_at) m.statics));
        reads = cond-true ((scratch + i) % 4 == 0) (number_of (bytes_at m (scratch + i) 4)) (Err Misaligned) even
            ∙ ap number_of (data_part m sized (scratch + i) 4 (omega (arith, low)) (omega (arith, high, few)));
      }

  pub scratch_words : Area m scratch 2
  scratch_words =
      let e : scratch + 0 ≡ scratch = omega arith in
      (subst (λ a. Cell m a) e (cell_at 0 refl (omega arith)), (cell_at 4 refl (omega arith), tt))

  -- nothing else of the heap is there
  pub scratch_elsewhere : (a n : ℕ) → scratch ≤ a → a + n ≤ at + HEAP_DATA → IsElsewhere at m a n
  scratch_elsewhere a n low high =
      let l = h.words.low in
      let e = scratch_low in
      record { heap = inr (omega (arith, high, e)); words = inl (omega (arith, low)); room = inl (omega (arith, l, low)) }

  -- what is beside all data is beside it
  pub beside_scratch : (b n : ℕ) → Beside b n at HEAP_DATA → Beside b n scratch 12
  beside_scratch b n (inl x) = inl (omega (arith, x))
  beside_scratch b n (inr x) = inr (omega (arith, x))

-- Words of the heap and of its data are read and put.
use Rattle.std.proofs.Common.{◌≡◌, ℕ, zero, suc, ◌+◌, ◌-◌, ◌*◌, ◌%◌, ◌^◌, ◌<◌, ◌≤◌, ◌⊎◌, inl, inr, List, ◌++◌, length, take, drop, Some}
use Rattle.std.proofs.Common.{Ok, Err, true, false, refl, sym, ap, subst, ◌∙◌, ⊎_elim, arith, length-append, eq-eqb, ne_eqb}
use Rattle.std.specs.Prelude.{◌==◌}
use Rattle.std.proofs.lemmas.Bool.{and_from, false_from_ne_true, cond-true, cond-false}
use Rattle.std.proofs.Math.Seq.{take-append_seam, drop-append_seam, drop-append-add}
use Rattle.nim_program.specs.Traps.{OutOfMemory}
use Rattle.rv32_isa.specs.declared.micro_op.Size.TheVariants.{Word}
use Rattle.rv32_isa.specs.declared.machine.FaultKind.TheVariants.{Misaligned}
use Rattle.rv32_isa.specs.Image.{statics_at, heap_at}
use Rattle.rv32_isa.specs.Words.{little, word_bytes}
use Rattle.rv32_isa.specs.State.{State, lies_in, writable, put_bytes, filled}
use Rattle.rv32_isa.specs.Steps.{number_of, low_bytes}
use Rattle.rv32_isa.proofs.ForCallers.{length-word_bytes}
use Rattle.word_code.specs.Memory.{KeepsShape, Memory, as_state, number_at, may_put, with_number, bytes_at}
use Rattle.word_code.specs.RoutineTable.{Cell, Beside, trap_line}
use Rattle.word_code.proofs.ForCallers.{MemoryLaw, Sized, sizes_more, Changed, changed_word, put_here}
use Rattle.nim_meaning.specs.Heap.{size_count}
use Rattle.heap_memory.specs.declared.numbers.TheConstants.{HEAP_WORD_BYTES}
use Rattle.heap_memory.specs.HeapState.{HasHeapData}
use Rattle.heap_memory.specs.HeapRoutines.{IsBesideHeap}
use Rattle.heap_memory.proofs.ForCallers.{part_there, lies, heap_part, heap_open, data_open}

low_is : (v : ℕ) → low_bytes Word v ≡ word_bytes v
unfolding word_bytes
low_is v = refl

-- ---- where a store goes

put_in_data : (s : State) (a : ℕ) (bytes : List ℕ) → 0 < length bytes → lies_in statics_at s.statics a (length bytes) ≡ true
    → (filled s a bytes).heap ≡ s.heap
put_in_data s a bytes some in_data =
    ap (λ t. t.heap) (cond-false (length bytes == 0) s _ (ne_eqb (length bytes) 0 (λ e. absurd (omega (arith, e, some))))
    ∙ cond-true (lies_in statics_at s.statics a (length bytes)) _ _ in_data)

put_in_heap : (s : State) (a : ℕ) (bytes : List ℕ) → 0 < length bytes → lies_in statics_at s.statics a (length bytes) ≡ false
    → lies_in heap_at s.heap a (length bytes) ≡ true → (filled s a bytes).heap ≡ put_bytes s.heap (a - heap_at) bytes
put_in_heap s a bytes some off in_heap =
    ap (λ t. t.heap) (cond-false (length bytes == 0) s _ (ne_eqb (length bytes) 0 (λ e. absurd (omega (arith, e, some))))
    ∙ cond-false (lies_in statics_at s.statics a (length bytes)) _ _ off
    ∙ cond-true (lies_in heap_at s.heap a (length bytes)) _ _ in_heap)

-- a word among bytes is put
put_word : (before w after : List ℕ) (v i : ℕ) → length w ≡ 4 → i ≡ length before
    → put_bytes (before ++ (w ++ after)) i (word_bytes v) ≡ before ++ (word_bytes v ++ after)
put_word before w after v i long is =
    let n : i + length (word_bytes v) ≡ length before + 4 = omega (arith, is, length-word_bytes v) in
    ap (λ k. take k (before ++ (w ++ after)) ++ (word_bytes v ++ drop (i + length (word_bytes v)) (before ++ (w ++ after)))) is
    ∙ ap (λ l. l ++ (word_bytes v ++ drop (i + length (word_bytes v)) (before ++ (w ++ after)))) (take-append_seam before (w ++ after))
    ∙ ap (λ k. before ++ (word_bytes v ++ drop k (before ++ (w ++ after)))) n
    ∙ ap (λ l. before ++ (word_bytes v ++ l)) (drop-append-add before (w ++ after) 4 ∙ ap (λ k. drop k (w ++ after)) (sym long) ∙ drop-append_seam w after)

-- ---- words of the heap

-- where a word stands among the heap's bytes
pub record WordOfHeap (m : Memory) (a : ℕ) (before w after : List ℕ) : Type 0 where
  pub bytes : m.heap ≡ before ++ (w ++ after)
  pub long : length w ≡ 4
  pub place : a ≡ heap_at + length before
  pub whole : a % 4 ≡ 0

module _ (m : Memory) (sized : Sized m) (a : ℕ) (before w after : List ℕ) (x : WordOfHeap m a before w after) where
  low_high : (heap_at ≤ a) × (a + 4 ≤ heap_at + length m.heap)
  low_high =
      let p = x.place in
      let l = x.long in
      let n : length m.heap ≡ length before + (length w + length after) = ap length x.bytes ∙ length-append before (w ++ after)
      ∙ ap (λ k. length before + k) (length-append w after) in
      (omega (arith, p), omega (arith, p, l, n))

  pub heap_reads : number_at m a Word ≡ Ok (little w)
  heap_reads =
      let r = low_high in
      let r0 = r.0 in
      let p = x.place in
      let i : a - heap_at ≡ length before = omega (arith, p) in
      let there : take 4 (drop (a - heap_at) m.heap) ≡ w
      = ap (λ k. take 4 (drop k m.heap)) i ∙ ap (λ l. take 4 (drop (length before) l)) x.bytes
      ∙ ap (take 4) (drop-append_seam before (w ++ after)) ∙ ap (λ k. take k (w ++ after)) (sym x.long) ∙ take-append_seam w after in
      cond-true (a % 4 == 0) (number_of (bytes_at m a 4)) (Err Misaligned) (eq-eqb (a % 4) 0 x.whole)
      ∙ ap number_of (heap_part m sized a 4 r.0 r.1 ∙ ap Some there)

  pub heap_may : may_put m a Word ≡ true
  heap_may = let r = low_high in and_from (a % 4 == 0) (writable (as_state m) a 4) (eq-eqb (a % 4) 0 x.whole) (heap_open m sized a 4 r.0 r.1)

  pub heap_cell : Cell m a
  heap_cell = record { may = heap_may; word = little w; reads = heap_reads }

  pub heap_puts : (v : ℕ) → (with_number m a Word v).heap ≡ before ++ (word_bytes v ++ after)
  heap_puts v =
      let r = low_high in
      let r0 = r.0 in
      let r1 = r.1 in
      let p = x.place in
      let long : length (low_bytes Word v) ≡ 4 = ap length (low_is v) ∙ length-word_bytes v in
      let most = sized.statics_most in
      let off : lies_in statics_at m.statics a (length (low_bytes Word v)) ≡ false
      = false_from_ne_true _ (λ e. let l = lies statics_at m.statics a (length (low_bytes Word v)) e in let l1 = l.1 in absurd
      (omega (arith, l1, long, most, r0))) in
      let on : lies_in heap_at m.heap a (length (low_bytes Word v)) ≡ true
      = (part_there heap_at m.heap a (length (low_bytes Word v)) r.0 (omega (arith, r1, long))).0 in
      put_in_heap (as_state m) a (low_bytes Word v) (omega (arith, long)) off on
      ∙ ap (put_bytes m.heap (a - heap_at)) (low_is v)
      ∙ ap (λ l. put_bytes l (a - heap_at) (word_bytes v)) x.bytes
      ∙ put_word before w after v (a - heap_at) x.long (omega (arith, p))

-- ---- words of the data

-- the word of that number among the heap's
abbrev pub word_at : (at i : ℕ) → ℕ
word_at at i = at + 4 * i

-- Behind a store, all beside the heap and its words is as before.
pub record Stored (at : ℕ) (m other : Memory) : Type 0 where
  pub sized : Sized other
  pub rest : IsBesideHeap at m other
  pub words : HasHeapData at other
  pub room : number_at other statics_at Word ≡ number_at m statics_at Word

-- further stores
pub stored_more : (at : ℕ) (m middle other : Memory) → Stored at m middle → Stored at middle other → Stored at m other
stored_more at m middle other x y = record {
  sized = y.sized;
  rest = record {
    sizes = sizes_more m middle other x.rest.sizes y.rest.sizes;
    beside = λ b n words heap.
        let same = x.rest.sizes.heap in
        y.rest.beside b n words (subst (λ l. Beside b n heap_at l) (sym same) heap) ∙ x.rest.beside b n words heap;
  };
  words = y.words;
  room = y.room ∙ x.room;
}

-- heap data where a range beside it, or one of its words, was changed
still_data : (at : ℕ) (m other : Memory) → HasHeapData at m → KeepsShape (as_state m) (as_state other)
    → bytes_at other (at + HEAP_WORD_BYTES) (length (trap_line OutOfMemory)) ≡ bytes_at m (at + HEAP_WORD_BYTES) (length (trap_line OutOfMemory))
    → HasHeapData at other
still_data at m other x sizes line =
    let h = x.high in
    let s = sizes.statics in
    record { whole = x.whole; low = x.low; high = omega (arith, h, s); line = line ∙ x.line }

module _ (law : MemoryLaw) (at : ℕ) (m : Memory) (sized : Sized m) (words : HasHeapData at m) where
  -- the data ends before the heap begins
  pub words_below : at + HEAP_WORD_BYTES + length (trap_line OutOfMemory) ≤ heap_at
  words_below = let h = words.high in let s = sized.statics_most in omega (arith, h, s)

  pub word_may : (i : ℕ) → i ≤ size_count + 1 → may_put m (word_at at i) Word ≡ true
  word_may i few =
      let h = words.high in
      let l = words.low in
      let w = words.whole in
      and_from (word_at at i % 4 == 0) (writable (as_state m) (word_at at i) 4) (eq-eqb (word_at at i % 4) 0 (omega (arith, w)))
      (data_open m sized (word_at at i) 4 (omega (arith, l)) (omega (arith, h, few)))

  -- a word of the data is put
  module _ (i v old : ℕ) (few : i ≤ size_count + 1) (small : v < 2 ^ 32) (was : number_at m (word_at at i) Word ≡ Ok old) where
    abbrev data_put : Memory
    data_put = with_number m (word_at at i) Word v

    data_changed : Changed m data_put (word_at at i) 4
    data_changed = changed_word law m (word_at at i) v sized (record { may = word_may i few; word = old; reads = was }) small

    pub data_stored : Stored at m data_put
    data_stored =
        let h = words.high in
        let l = words.low in
        let c = data_changed in
        record {
          sized = c.sized;
          rest = record {
            sizes = c.sizes;
            beside = λ b n apart heap. c.beside b n (⊎_elim (λ x. inl (omega (arith, x))) (λ x. inr (omega (arith, x, few))) apart);
          };
          words = still_data at m data_put words c.sizes (c.beside (at + HEAP_WORD_BYTES) (length (trap_line OutOfMemory)) (inr (omega (arith, few))));
          room = c.outside statics_at (inl (omega (arith, l)));
        }

    pub data_here : number_at data_put (word_at at i) Word ≡ Ok v
    data_here = put_here law m (word_at at i) v sized (word_may i few) small

    pub data_others : (j : ℕ) → (j ≡ i → ⊥) → number_at data_put (word_at at j) Word ≡ number_at m (word_at at j) Word
    data_others j no_eq = data_changed.outside (word_at at j) (⊎_elim (λ less. inl (omega (arith, less))) (λ more. inr (omega (arith, more))) (sides j i no_eq))
      where
        sides : (j i : ℕ) → (j ≡ i → ⊥) → (j < i) ⊎ (i < j)
        sides zero zero no_eq = absurd (no_eq refl)
        sides zero (suc i) no_eq = inl (omega arith)
        sides (suc j) zero no_eq = inr (omega arith)
        sides (suc j) (suc i) no_eq = ⊎_elim (λ l. inl (omega (arith, l))) (λ g. inr (omega (arith, g))) (sides j i (λ e. no_eq (ap suc e)))

    pub data_heap : data_put.heap ≡ m.heap
    data_heap =
        let h = words.high in
        let l = words.low in
        let long : length (low_bytes Word v) ≡ 4 = ap length (low_is v) ∙ length-word_bytes v in
        put_in_data (as_state m) (word_at at i) (low_bytes Word v) (omega (arith, long))
        (part_there statics_at m.statics (word_at at i) (length (low_bytes Word v)) (omega (arith, l)) (omega (arith, h, few, long))).0

  -- a word of the heap is put
  module _ (a : ℕ) (before w after : List ℕ) (x : WordOfHeap m a before w after) (v : ℕ) (small : v < 2 ^ 32) where
    abbrev heap_put : Memory
    heap_put = with_number m a Word v

    heap_changed : Changed m heap_put a 4
    heap_changed = changed_word law m a v sized (heap_cell m sized a before w after x) small

    pub heap_stored : Stored at m heap_put
    heap_stored =
        let c = heap_changed in
        let r = low_high m sized a before w after x in
        let r0 = r.0 in
        let r1 = r.1 in
        let b = words_below in
        let l = words.low in
        record {
          sized = c.sized;
          rest = record {
            sizes = c.sizes;
            beside = λ b n apart heap. c.beside b n (⊎_elim (λ y. inl (omega (arith, y, r0))) (λ y. inr (omega (arith, y, r1))) heap);
          };
          words = still_data at m heap_put words c.sizes (c.beside (at + HEAP_WORD_BYTES) (length (trap_line OutOfMemory)) (inl (omega (arith, b, r0))));
          room = c.outside statics_at (inl (omega (arith, l, b, r0)));
        }

    pub heap_words : (j : ℕ) → j ≤ size_count + 1 → number_at heap_put (word_at at j) Word ≡ number_at m (word_at at j) Word
    heap_words j few =
        let r = low_high m sized a before w after x in
        let r0 = r.0 in
        let b = words_below in
        heap_changed.outside (word_at at j) (inl (omega (arith, b, r0, few)))

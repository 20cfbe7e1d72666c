-- What is true of blocks where one grows.
use Rattle.std.proofs.Common.{◌≡◌, ◌≢◌, ℕ, ◌+◌, ◌≤◌, inl, inr, List, length, take, Some, refl, sym, ap}
use Rattle.std.proofs.Common.{subst, ◌∙◌, arith, true}
use Rattle.std.proofs.lemmas.List.{length-take}
use Rattle.std.proofs.lemmas.Option.{same_Some}
use Rattle.nim_meaning.specs.Heap.{Class}
use Rattle.rv32_isa.specs.Image.{heap_at}
use Rattle.word_code.specs.Memory.{Memory, bytes_at, may_fill}
use Rattle.word_code.specs.RoutineTable.{Beside, IsRewritten}
use Rattle.word_code.proofs.ForCallers.{Sized, sizes_more}
use Rattle.heap_memory.specs.HeapState.{Standing, Stands, with_block, IsHeap}
use Rattle.heap_memory.specs.HeapUse.{IsThere, AreDistant, IsRefilled}
use Rattle.heap_memory.specs.HeapRoutines.{IsBesideHeap}
use Rattle.heap_memory.specs.TextRoutines.{AreBytes, Copying, MayCopy, AreThere}
use Rattle.heap_memory.proofs.ForCallers.{if_same, size_some}
use Rattle.heap_memory.proofs.ForCallers.{beside_heap, is_there, distant, refilled}
use Rattle.heap_memory.proofs.ForCallers.{written_in, part_read, part_written}

-- ---- changes of memory

pub beside_more : (at : ℕ) (m middle other : Memory) → IsBesideHeap at m middle → IsBesideHeap at middle other → IsBesideHeap at m other
beside_more at m middle other x y = record {
  sizes = sizes_more m middle other x.sizes y.sizes;
  beside = λ b n words heap.
      let same = x.sizes.heap in
      y.beside b n words (subst (λ l. Beside b n heap_at l) (sym same) heap) ∙ x.beside b n words heap;
}

-- ---- the kept bytes are copied from one block to another

module _ (at : ℕ) (classes : List Class) (stands : Stands) (m : Memory) (h : IsHeap at classes stands m) (sized : Sized m) (j k : ℕ) (s t : Standing)
    (a : stands j ≡ Some s) (b : stands k ≡ Some t) (other : j ≢ k) (kept : ℕ) (few : kept ≤ length s.payload) (fewer : kept ≤ length t.payload)
    (are : AreBytes (take kept s.payload)) where
  there_s : IsThere m s
  there_s = is_there at classes stands m h j s a sized

  there_t : IsThere m t
  there_t = is_there at classes stands m h k t b sized

  abbrev pub copying : Copying
  copying = record { to = t.place; from = s.place; bytes = take kept s.payload }

  pub kept_long : length (take kept s.payload) ≡ kept
  kept_long = length-take kept s.payload ∙ omega (arith, few)

  -- bytes at the front of a payload
  fronts : (x : Standing) (there : IsThere m x) (n : ℕ) → n ≤ length x.payload → bytes_at m x.place n ≡ Some (take n x.payload)
  fronts x there n within = by (length x.payload) refl within
    where
      zero_at : x.place ≡ x.place + 0
      zero_at = omega arith

      by : (l : ℕ) → length x.payload ≡ l → n ≤ l → bytes_at m x.place n ≡ Some (take n x.payload)
      by l e few =
          let w = there.whole in
          let low = there.low in
          let some = size_some x.class in
          let r = written_in m sized x.place (length x.payload) (omega (arith, w, some)) there.may in
          ap (λ p. bytes_at m p n) zero_at ∙ part_read m sized x.place (length x.payload) x.payload r there.bytes 0 n (omega (arith, e, few))

  pub may_copy : MayCopy copying m
  may_copy =
      let wt = there_t.whole in
      let some = size_some t.class in
      let room = written_in m sized t.place (length t.payload) (omega (arith, wt, some)) there_t.may in
      let l = kept_long in
      let hs = there_s.high in
      let ht = there_t.high in
      let most = sized.heap_most in
      let zero_at : t.place ≡ t.place + 0 = omega arith in
      record {
        are = are;
        here = ap (bytes_at m s.place) l ∙ fronts s there_s kept few;
        may = ap (may_fill m t.place) l ∙ ap (λ p. may_fill m p kept) zero_at
            ∙ part_written m sized t.place (length t.payload) room 0 kept (omega (arith, fewer));
        apart = sides (distant at classes stands m h j k s t a b other);
        to_word = omega (arith, ht, most);
        from_word = omega (arith, hs, most);
      }
    where
      sides : AreDistant s t → Beside t.place (length (take kept s.payload)) s.place (length (take kept s.payload))
      sides (inl d) = let l = kept_long in inr (omega (arith, d, l, few))
      sides (inr d) = let l = kept_long in inl (omega (arith, d, l, fewer))

  -- what comes of it
  module _ (after : Memory) (done : AreThere copying m after) (sized_after : Sized after) where
    pub refill : IsRefilled at classes stands k t after
    refill =
        let l = kept_long in
        let zero_at : t.place ≡ t.place + 0 = omega arith in
        refilled at classes stands m h sized after sized_after k t 0 (length (take kept s.payload)) b (omega (arith, l, fewer))
        (subst (λ p. IsRewritten m after p (length (take kept s.payload))) zero_at done.rewritten)

    abbrev pub new_payload : List ℕ
    new_payload = refill.payload

    abbrev pub now : Standing
    now = record { place = t.place; class = t.class; kind = t.kind; word = t.word; payload = new_payload }

    pub new_long : length new_payload ≡ length t.payload
    new_long = refill.long

    pub heap_then : IsHeap at classes (with_block stands k now) after
    heap_then = refill.heap

    there_now : IsThere after now
    there_now = is_there at classes (with_block stands k now) after heap_then k now (if_same k k (Some now) (stands k) refl) sized_after

    pub new_front : take kept new_payload ≡ take kept s.payload
    new_front =
        let l = kept_long in
        let w = there_now.whole in
        let some = size_some t.class in
        let n = new_long in
        let r = written_in after sized_after t.place (length new_payload) (omega (arith, w, some)) there_now.may in
        let zero_at : t.place ≡ t.place + 0 = omega arith in
        let front : bytes_at after t.place kept ≡ Some (take kept new_payload)
        = ap (λ p. bytes_at after p kept) zero_at
        ∙ part_read after sized_after t.place (length new_payload) new_payload r there_now.bytes 0 kept (omega (arith, fewer, n)) in
        same_Some (take kept new_payload) (take kept s.payload) (sym front ∙ ap (bytes_at after t.place) (sym l) ∙ done.there)

    pub rest_then : IsBesideHeap at m after
    rest_then =
        let l = kept_long in
        let low = there_t.low in
        let high = there_t.high in
        beside_heap at m after t.place (length (take kept s.payload)) (omega (arith, low)) (omega (arith, high, l, fewer)) done.rewritten

-- What is to come behind a text can be read where a block has grown, unless it is of that block.
use Rattle.std.proofs.Common.{◌≡◌, ◌≢◌, ℕ, ◌+◌, ◌^◌, ◌<◌, ◌≤◌, inl, inr, List, length, take, Option, Some, None, Bool, refl, sym, ap, subst, ◌∙◌, arith}
use Rattle.std.proofs.lemmas.Bool.{cases_lt}
use Rattle.std.proofs.lemmas.List.{length-take}
use Rattle.rv32_isa.specs.Image.{heap_at}
use Rattle.word_code.specs.Memory.{Memory, bytes_at}
use Rattle.word_code.specs.RoutineTable.{Beside}
use Rattle.word_code.proofs.ForCallers.{Sized}
use Rattle.heap_memory.specs.declared.numbers.TheConstants.{HEAP_WORD_BYTES, HEAP_SCRATCH}
use Rattle.heap_memory.specs.HeapUse.{IsThere, AreDistant}
use Rattle.heap_memory.specs.HeapRoutines.{IsBesideHeap}
use Rattle.heap_memory.specs.GrowRoutine.{Owned, Growing, room_of, MayGrow}
use Rattle.heap_memory.specs.AppendRoutine.{IsFilled, block_then, classes_behind, stands_behind, Source, Outside, Inside, source_at, source_bytes, IsSource}
use Rattle.heap_memory.proofs.ForCallers.{is_there, distant}
use Rattle.heap_memory.proofs.ForCallers.{front_read, heap_with, block_there, place_is, stood, not_other, others_stay}

-- it isn't of the present block
abbrev pub IsOther : Growing → Source → Type 0
IsOther g (Outside a bytes) = Unit {0}
IsOther g (Inside x count) = (y : Owned) → g.present ≡ Some y → x.identity ≢ y.identity

module _ (own : ℕ) (g : Growing) (m : Memory) (may : MayGrow own g m) (m1 : Memory) (sized1 : Sized m1) (rest : IsBesideHeap own m m1)
    (text : List ℕ) (place : ℕ) (b : Bool) (f : IsFilled b own g text m1 place)
  where
    -- these bytes, where they come behind that text
    pub record IsReadable (from : ℕ) (bytes : List ℕ) : Type 0 where
      pub here : bytes_at m1 from (length bytes) ≡ Some bytes
      pub small : from < 2 ^ 32
      pub apart : Beside (place + length text) (length bytes) from (length bytes)

    abbrev block : Option Owned
    block = block_then b g place f.payload

    room_is : (o : Owned) → block ≡ Some o → room_of block ≡ length o.block.payload
    room_is o is = ap room_of is

    where_is : (o : Owned) → block ≡ Some o → o.block.place ≡ place
    where_is o is = place_is own g may.unused may.present m1 sized1 text place b f o is

    -- nothing is put, or into a block
    put_apart : (a count : ℕ) → length text + count ≤ g.wanted
        → ((o : Owned) → block ≡ Some o → IsThere m1 o.block → Beside (place + length text) count a count) → Beside (place + length text) count a count
    put_apart a count all in_block = with_block block refl
      where
        with_block : (p : Option Owned) → block ≡ p → Beside (place + length text) count a count
        with_block None is =
            let r : room_of block ≡ 0 = ap room_of is in
            let room = f.room in
            elim (cases_lt a (place + length text)) [ inl less ↦ inr (omega (arith, less, r, room, all)) | inr more ↦ inl (omega (arith, more, r, room, all)) ]
        with_block (Some o) is = in_block o is (block_there own g may.unused may.present m1 sized1 text place b f o is)

    pub source_reads : (x : Source) → IsSource own g m x → IsOther g x → length text + length (source_bytes x) ≤ g.wanted
        → IsReadable (source_at x) (source_bytes x)
    source_reads (Outside a xs) is apart all = record {
      here = rest.beside a (length xs) (words is.3.words) (heap is.3.heap) ∙ is.2;
      small = is.1;
      apart = put_apart a (length xs) all (λ o same there. outside o same there is.3.heap);
    }
      where
        words : Beside own HEAP_SCRATCH a (length xs) → Beside a (length xs) own HEAP_WORD_BYTES
        words (inl h) = inr (omega (arith, h))
        words (inr h) = inl h

        heap : Beside heap_at (length m.heap) a (length xs) → Beside a (length xs) heap_at (length m.heap)
        heap (inl h) = inr h
        heap (inr h) = inl h

        outside : (o : Owned) → block ≡ Some o → IsThere m1 o.block → Beside heap_at (length m.heap) a (length xs)
            → Beside (place + length text) (length xs) a (length xs)
        outside o same there (inl far) =
            let high = there.high in
            let r = room_is o same in
            let w = where_is o same in
            let room = f.room in
            let size = rest.sizes.heap in
            inl (omega (arith, far, high, r, w, room, all, size))
        outside o same there (inr near) = let low = there.low in let w = where_is o same in inr (omega (arith, near, low, w))
    source_reads (Inside x count) is apart all =
        let heap1 = f.heap in
        let stands1 = others_stay own g may.unused may.present m1 sized1 text place b f x is.0 apart in
        let there = is_there own (classes_behind b g) (stands_behind b g block) m1 heap1 x.identity x.block stands1 sized1 in
        let few = is.1 in
        let l : length (take count x.block.payload) ≡ count = length-take count x.block.payload ∙ omega (arith, few) in
        let high = there.high in
        let most = sized1.heap_most in
        record {
          here = ap (bytes_at m1 x.block.place) l ∙ front_read m1 sized1 x.block there 0 count (omega (arith, few)) there.bytes refl;
          small = omega (arith, high, most);
          apart = put_apart x.block.place (length (take count x.block.payload)) all (λ o same there_o.
              sides o same l few (distant own (classes_behind b g) (stands_behind b g (Some o)) m1
              (heap_with own g may.unused may.present m1 sized1 text place b f (Some o) same) o.identity x.identity
              o.block x.block (stood own g may.unused may.present m1 sized1 text place b f o same)
              (subst (λ q. stands_behind b g q x.identity ≡ Some x.block) same stands1)
              (λ e. not_other own g may.unused may.present m1 sized1 text place b f x is.0 apart o same (sym e))));
        }
      where
        sides : (o : Owned) → block ≡ Some o → length (take count x.block.payload) ≡ count → count ≤ length x.block.payload → AreDistant o.block x.block
            → Beside (place + length text) (length (take count x.block.payload)) x.block.place (length (take count x.block.payload))
        sides o same l few (inl d) =
            let r = room_is o same in
            let w = where_is o same in
            let room = f.room in
            inl (omega (arith, d, r, w, room, all))
        sides o same l few (inr d) = let w = where_is o same in inr (omega (arith, d, w, l, few))

-- More bytes than any size holds: neither a routine nor the meaning has room for them.
use Rattle.std.proofs.Common.{◌≡◌, ℕ, suc, ◌*◌, ◌/◌, ◌<◌, List, [], length, Option, Bool, true, false, refl, ap, ap₂, ◌∙◌, arith, div-lt_iff_lt-mul}
use Rattle.std.specs.Prelude.{nat_le, nat_lt, ◌||◌, if◌then◌else◌}
use Rattle.std.proofs.lemmas.Bool.{le-ltb, leb-false, ltb-false, ltb-true}
use Rattle.nim_meaning.specs.Heap.{Heap, at_class, class_for, demand, has_room, one_more, size_count}
use Rattle.nim_meaning.specs.State.{World}
use Rattle.nim_meaning.specs.Lifted.{has_place}
use Rattle.word_code.specs.Memory.{Memory, own_data_at}
use Rattle.heap_memory.specs.HeapBlocks.{size_at}
use Rattle.heap_memory.specs.HeapRoutines.{class_of}
use Rattle.heap_memory.specs.GrowRoutine.{Growing, holds_it, may_grow}
use Rattle.heap_memory.specs.SequenceRoutines.{bytes_for, most_payload}
use Rattle.heap_memory.proofs.ForCallers.{class_few, class_holds, class_same, size_within}
use Rattle.word_lowering.proofs.Blocks.{Blocks, HasHeap}
use Rattle.word_lowering.proofs.HeapWanted.{room_in}

-- the largest size
pub largest : size_at 20 ≡ 16777216
largest = refl

-- the class of no size
pub too_large : (bytes : ℕ) → most_payload < bytes → class_of bytes ≡ size_count
too_large bytes more = by (nat_lt (class_of bytes) size_count) refl
  where
    by : (b : Bool) → nat_lt (class_of bytes) size_count ≡ b → class_of bytes ≡ size_count
    by true e =
        let less = ltb-true (class_of bytes) size_count e in
        let h = class_holds bytes less in
        let m = size_within (class_of bytes) 20 (omega (arith, less)) in
        absurd (omega (arith, h, m, more, largest))
    by false e = let f = class_few bytes in let l = ltb-false (class_of bytes) size_count e in omega (arith, f, l)

-- so many elements have more bytes, where the routine finds it
pub over : (n size : ℕ) → 0 < size → bytes_for n size ≡ suc most_payload → most_payload < n * size
over n size some e = by (nat_le n (most_payload / size)) refl e
  where
    by : (b : Bool) → nat_le n (most_payload / size) ≡ b → (if b then n * size else suc most_payload) ≡ suc most_payload → most_payload < n * size
    by true h f = omega (arith, f)
    by false h f =
        (div-lt_iff_lt-mul some).0 (leb-false n (most_payload / size) h)

no_room : (heap : Heap) → length heap.classes ≡ size_count → (class : ℕ) → class ≡ size_count → has_room heap class ≡ false
no_room heap sizes class same =
    ap (λ b. if b then nat_le (demand (at_class one_more class heap.classes)) heap.room else false)
    (le-ltb class (length heap.classes) (omega (arith, sizes, same)))

module _ (StandsFixed : (place : ℕ) → List ℕ → Type 0) (d : Blocks) (w : World) (m : Memory) (has : HasHeap StandsFixed d w.heap m) (bytes : ℕ)
    (more : most_payload < bytes)
  where
    -- the meaning, where no block holds it
    pub no_place : (k : Option ℕ) → has_place w k bytes ≡ false → room_in w k bytes ≡ false
    no_place k none =
        ap₂ (λ a b. a || b) none
        (no_room w.heap has.kept.kept.sizes (class_for bytes w.heap.classes)
        (class_same own_data_at w.heap.classes d.stands m has.kept bytes ∙ too_large bytes more))

    -- a growth
    pub no_growth : (g : Growing) → g.wanted ≡ bytes → g.classes ≡ w.heap.classes → holds_it g.present bytes ≡ false → may_grow g ≡ false
    no_growth g wanted classes none =
        ap₂ (λ a b. a || b) (ap (holds_it g.present) wanted ∙ none)
        (no_room (record { room = g.room; classes = g.classes; blocks = [] }) (ap length classes ∙ has.kept.kept.sizes) (class_of g.wanted)
        (ap class_of wanted ∙ too_large bytes more))

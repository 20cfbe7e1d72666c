-- The sizes of blocks as the meaning speaks of them.
use Rattle.std.proofs.Common.{◌≡◌, ℕ, zero, suc, ◌+◌, ◌<◌, ◌≤◌, inl, inr, List, [], ◌∷◌, length, Some, refl, sym, ap, ap₂, ◌∙◌, ⊎_elim, arith}
use Rattle.std.specs.Prelude.{nat_le, if◌then◌else◌}
use Rattle.std.proofs.lemmas.Bool.{le-leb, lt-leb, cases_lt}
use Rattle.nim_types.specs.declared.blocks.TheConstants.{HEADER_BYTES}
use Rattle.nim_meaning.specs.Heap.{Class, class_for, sizes_from, size_count}
use Rattle.word_code.specs.Memory.{Memory}
use Rattle.heap_memory.specs.HeapBlocks.{size_at, Block, first_place}
use Rattle.heap_memory.specs.HeapState.{Standing, Stands, held_block, AreCounted, IsHeap}
use Rattle.heap_memory.specs.HeapRoutines.{class_of}
use Rattle.heap_memory.proofs.BlockLists.{block_found}
use Rattle.heap_memory.proofs.Sizes.{this_size, later_size}
use Rattle.heap_memory.proofs.Sizes.{class_holds}
use Rattle.heap_memory.proofs.Sizes.{size_within}

-- ---- blocks that are counted have the sizes

sizes_counted : (payload : ℕ) (blocks : List Block) (frees : (class : ℕ) → List ℕ) (class : ℕ) (classes : List Class) → AreCounted blocks frees class classes
    → class_for payload classes ≡ class_for payload (sizes_from (length classes) (size_at class))
sizes_counted payload blocks frees class [] are = refl
sizes_counted payload blocks frees class (c ∷ classes) are =
    ap₂ (λ size behind. if nat_le (payload + HEADER_BYTES) size then 0 else suc behind) are.0.size
    (sizes_counted payload blocks frees (suc class) classes are.1)

pub class_same : (at : ℕ) (classes : List Class) (stands : Stands) (m : Memory) → IsHeap at classes stands m → (payload : ℕ)
    → class_for payload classes ≡ class_of payload
class_same at classes stands m h payload =
    sizes_counted payload h.blocks h.frees 0 classes h.kept.counted ∙ ap (λ n. class_for payload (sizes_from n (size_at 0))) h.kept.sizes

-- ---- a block has room for what its class has room for

least : (payload n class far : ℕ) → far < n → payload + HEADER_BYTES ≤ size_at (class + far) → class_for payload (sizes_from n (size_at class)) ≤ far
least payload zero class far less enough = absurd (omega (arith, less))
least payload (suc n) class far less enough = ⊎_elim (behind (λ f l e. least payload n (suc class) f l e) far less enough)
    (λ here. let e = this_size payload n class here in omega (arith, e)) (cases_lt (size_at class) (payload + HEADER_BYTES))
  where
    behind : ((f : ℕ) → f < n → payload + HEADER_BYTES ≤ size_at (suc class + f) → class_for payload (sizes_from n (size_at (suc class))) ≤ f)
        → (far : ℕ) → far < suc n → payload + HEADER_BYTES ≤ size_at (class + far) → size_at class < payload + HEADER_BYTES
        → class_for payload (sizes_from (suc n) (size_at class)) ≤ far
    behind later zero less enough small =
        let same : size_at (class + 0) ≡ size_at class = (let e : class + 0 ≡ class = omega arith in ap size_at e) in
        absurd (omega (arith, same, small, enough))
    behind later (suc far) less enough small =
        let same : size_at (class + suc far) ≡ size_at (suc class + far) = (let e : class + suc far ≡ suc class + far = omega arith in ap size_at e) in
        let l = later_size payload n class small in
        let h = later far (omega (arith, less)) (omega (arith, same, enough)) in
        omega (arith, l, h)

pub room_same : (at : ℕ) (classes : List Class) (stands : Stands) (m : Memory) → IsHeap at classes stands m → (k : ℕ) (s : Standing) → stands k ≡ Some s
    → (payload : ℕ) → nat_le payload (length s.payload) ≡ nat_le (class_of payload) s.class
room_same at classes stands m h k s there payload =
    let b = block_found first_place s.place (held_block k s) h.blocks h.kept.all (h.kept.held.there k s there) in
    let whole = b.whole in
    let sized = b.sized in
    elim (cases_lt s.class (class_of payload)) [
      | inl less ↦
          ⊎_elim
          (λ more. lt-leb payload (length s.payload) more ∙ sym (lt-leb (class_of payload) s.class less))
          (λ few.
          let h = least payload size_count 0 s.class sized (omega (arith, few, whole, zero_at s.class)) in
          absurd (omega (arith, h, less))) (cases_lt (length s.payload) payload)
      | inr enough ↦
          let holds = class_holds payload (omega (arith, enough, sized)) in
          let grows = size_within (class_of payload) s.class enough in
          le-leb payload (length s.payload) (omega (arith, holds, grows, whole)) ∙ sym (le-leb (class_of payload) s.class enough)
    ]
  where
    zero_at : (c : ℕ) → size_at (0 + c) ≡ size_at c
    zero_at c = let e : 0 + c ≡ c = omega arith in ap size_at e

-- The sizes of blocks, and the one for a payload.
use Rattle.std.proofs.Common.{◌≡◌, ℕ, zero, suc, ◌+◌, ◌-◌, ◌*◌, ◌%◌, ◌^◌, ◌<◌, ◌≤◌, ◌⊎◌, List, Bool, true, false}
use Rattle.std.proofs.Common.{refl, sym, ap, ◌∙◌, ⊎_elim, arith}
use Rattle.std.specs.Prelude.{nat_le, if◌then◌else◌}
use Rattle.std.proofs.lemmas.Bool.{le-leb, lt-leb, cond-true, cond-false, cases_lt}
use Rattle.std.proofs.Math.Nat.{pow-suc}
use Rattle.rv32_isa.specs.Values.{shifted_left, shifted_right}
use Rattle.nim_types.specs.declared.blocks.TheConstants.{HEADER_BYTES}
use Rattle.nim_meaning.specs.Heap.{Class, sizes_from, size_count, class_for}
use Rattle.word_code.specs.Memory.{Memory}
use Rattle.heap_memory.specs.declared.numbers.TheConstants.{CONTENTS_KIND}
use Rattle.heap_memory.specs.HeapBlocks.{first_word, size_at}
use Rattle.heap_memory.specs.HeapState.{Stands, IsHeap}
use Rattle.heap_memory.specs.HeapRoutines.{class_word, class_of}

-- ---- sizes, as they are computed

pub size_power : (class : ℕ) → 8 * 2 ^ suc class ≡ size_at class
size_power zero = omega arith
size_power (suc c) = let e = size_power c in ap (λ n. 8 * n) (pow-suc 2 (suc c)) ∙ omega (arith, e)

pub size_grows : (class k : ℕ) → size_at class ≤ size_at (k + class)
size_grows class zero = let e : size_at (0 + class) ≡ size_at class = ap size_at (omega arith) in omega (arith, e)
size_grows class (suc k) =
    let h = size_grows class k in
    let i : suc k + class ≡ suc (k + class) = omega arith in
    let e : size_at (suc k + class) ≡ 2 * size_at (k + class) = ap size_at i in
    omega (arith, h, e)

pub size_within : (class most : ℕ) → class ≤ most → size_at class ≤ size_at most
size_within class most few =
    let h = size_grows class (most - class) in
    let e : size_at (most - class + class) ≡ size_at most = ap size_at (omega (arith, few)) in
    omega (arith, h, e)

pub size_most : (class : ℕ) → class ≤ size_count → size_at class ≤ 33554432
size_most class few = size_within class size_count few

pub size_shifted : (class : ℕ) → class ≤ size_count → shifted_left 8 (suc class) ≡ size_at class
size_shifted class few =
    let n : suc class % 32 ≡ suc class = omega (arith, few) in
    let p = size_power class in
    let m = size_most class few in
    ap (λ k. 8 * 2 ^ k % 2 ^ 32) n ∙ ap (λ k. k % 2 ^ 32) p ∙ omega (arith, m)

-- by the first word of its header, whose low five bits are its place among the sizes
pub size_by_header : (class : ℕ) → class ≤ size_count → shifted_left 8 (first_word CONTENTS_KIND class) ≡ size_at class
size_by_header class few =
    let n : first_word CONTENTS_KIND class % 32 ≡ suc class = omega (arith, few) in
    let p = size_power class in
    let m = size_most class few in
    ap (λ k. 8 * 2 ^ k % 2 ^ 32) n ∙ ap (λ k. k % 2 ^ 32) p ∙ omega (arith, m)

pub class_shifted : (class : ℕ) → shifted_right (class_word class) 2 ≡ suc class
class_shifted class = omega arith

-- ---- the size for a payload

abbrev pub sizes_behind : (count class : ℕ) → List Class
sizes_behind count class = sizes_from count (size_at class)

-- the next size is the one, or it is further on
pub this_size : (payload n class : ℕ) → payload + HEADER_BYTES ≤ size_at class → class_for payload (sizes_behind (suc n) class) ≡ 0
this_size payload n class holds_it =
    cond-true (nat_le (payload + HEADER_BYTES) (size_at class)) 0 (suc (class_for payload (sizes_behind n (suc class))))
    (le-leb (payload + HEADER_BYTES) (size_at class) holds_it)

pub later_size : (payload n class : ℕ) → size_at class < payload + HEADER_BYTES
    → class_for payload (sizes_behind (suc n) class) ≡ suc (class_for payload (sizes_behind n (suc class)))
later_size payload n class less =
    cond-false (nat_le (payload + HEADER_BYTES) (size_at class)) 0 (suc (class_for payload (sizes_behind n (suc class))))
    (lt-leb (payload + HEADER_BYTES) (size_at class) less)

pub no_size : (payload n class : ℕ) → n + class ≡ size_count → size_at 20 < payload + HEADER_BYTES → class_for payload (sizes_behind n class) ≡ n
no_size payload zero class all less = refl
no_size payload (suc n) class all less =
    let h = size_within class 20 (omega (arith, all)) in
    later_size payload n class (omega (arith, h, less)) ∙ ap suc (no_size payload n (suc class) (omega (arith, all)) less)

-- ---- it holds the payload

sizes_few : (payload n size : ℕ) → class_for payload (sizes_from n size) ≤ n
sizes_few payload zero size = omega arith
sizes_few payload (suc n) size = by (nat_le (payload + HEADER_BYTES) size) (sizes_few payload n (2 * size))
  where
    by : (b : Bool) → class_for payload (sizes_from n (2 * size)) ≤ n → (if b then 0 else suc (class_for payload (sizes_from n (2 * size)))) ≤ suc n
    by true h = omega arith
    by false h = omega (arith, h)

pub class_few : (payload : ℕ) → class_of payload ≤ size_count
class_few payload = sizes_few payload size_count 16

size_holds : (payload n class : ℕ) → class_for payload (sizes_from n (size_at class)) < n
    → payload + HEADER_BYTES ≤ size_at (class_for payload (sizes_from n (size_at class)) + class)
size_holds payload zero class less = absurd (omega (arith, less))
size_holds payload (suc n) class less = ⊎_elim
    (λ h. let e = later_size payload n class h in further e (size_holds payload n (suc class) (omega (arith, e, less)))) here
    (cases_lt (size_at class) (payload + HEADER_BYTES))
  where
    here : payload + HEADER_BYTES ≤ size_at class → payload + HEADER_BYTES ≤ size_at (class_for payload (sizes_from (suc n) (size_at class)) + class)
    here h =
        let e = this_size payload n class h in
        let i : class_for payload (sizes_from (suc n) (size_at class)) + class ≡ class = omega (arith, e) in
        let s : size_at (class_for payload (sizes_from (suc n) (size_at class)) + class) ≡ size_at class = ap size_at i in
        omega (arith, h, s)

    further : class_for payload (sizes_from (suc n) (size_at class)) ≡ suc (class_for payload (sizes_from n (size_at (suc class))))
        → payload + HEADER_BYTES ≤ size_at (class_for payload (sizes_from n (size_at (suc class))) + suc class)
        → payload + HEADER_BYTES ≤ size_at (class_for payload (sizes_from (suc n) (size_at class)) + class)
    further e h =
        let i : class_for payload (sizes_from (suc n) (size_at class)) + class ≡ class_for payload (sizes_from n (size_at (suc class))) + suc class
        = omega (arith, e) in
        let s : size_at (class_for payload (sizes_from (suc n) (size_at class)) + class)
        ≡ size_at (class_for payload (sizes_from n (size_at (suc class))) + suc class) = ap size_at i in
        omega (arith, h, s)

pub class_holds : (payload : ℕ) → class_of payload < size_count → payload + HEADER_BYTES ≤ size_at (class_of payload)
class_holds payload less =
    let h = size_holds payload size_count 0 less in
    let s : size_at (class_of payload + 0) ≡ size_at (class_of payload) = (let i : class_of payload + 0 ≡ class_of payload = omega arith in ap size_at i) in
    omega (arith, h, s)

-- ---- the same blocks

pub same_stands : (at : ℕ) (classes : List Class) (stands others : Stands) (m : Memory) → ((k : ℕ) → others k ≡ stands k)
    → IsHeap at classes stands m → IsHeap at classes others m
same_stands at classes stands others m same h = record {
  blocks = h.blocks;
  frees = h.frees;
  spare = h.spare;
  kept = record {
    all = h.kept.all;
    held = record {
      there = λ k s e. h.kept.held.there k s (sym (same k) ∙ e);
      only = λ k s e. same k ∙ h.kept.held.only k s e;
    };
    linked = h.kept.linked;
    counted = h.kept.counted;
    sizes = h.kept.sizes;
    demanded = h.kept.demanded;
  };
  none = h.none;
  bytes = h.bytes;
  words = h.words;
  room = h.room;
  next = h.next;
  heads = h.heads;
}

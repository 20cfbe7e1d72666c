-- What was taken of each size is live, or was given back.
use Rattle.std.proofs.Common.{◌≡◌, ℕ, zero, suc, ◌+◌, ◌-◌, ◌*◌, ◌<◌, Bool, true, false, nat_eq, List, [], ◌∷◌, ◌++◌, length, Option, Some, None}
use Rattle.std.proofs.Common.{refl, sym, ap, subst, arith, ◌∙◌}
use Rattle.std.specs.Prelude.{nat_le, nat_lt, if◌then◌else◌, slice_get, slice_set}
use Rattle.std.proofs.lemmas.Bool.{both_ways, eq-eqb, ltb-true}
use Rattle.std.proofs.Math.Dec.{eqb-suc-zero, eqb-zero-suc, eqb-suc-suc}
use Rattle.nim_types.specs.declared.blocks.TheConstants.{LEAST_BLOCK}
use Rattle.nim_meaning.specs.Heap.{Contents, Block, Class, Heap, demand, at_class, one_more, one_less, taken, has_room, without, flat, refilled, block_at}
use Rattle.nim_meaning.specs.Heap.{sizes_from, size_count, heap_of}
use Rattle.nim_meaning.specs.State.{OfBlock, Took, Gave, Born, Ended, Happening}
use Rattle.nim_meaning.specs.Deeds.{size_in, size_of}
use Rattle.nim_meaning.specs.Kept.{one_if_same, takes_of, gives_of, live_of}
use Rattle.nim_meaning.proofs.HeapKept.{HeapInvariant}

-- ---- by the places of sizes

abbrev pub live_at : ℕ → List Class → ℕ
live_at i [] = 0
live_at zero (c ∷ classes) = c.live
live_at (suc i) (c ∷ classes) = live_at i classes

abbrev if_of : ℕ → Option Block → ℕ
if_of i None = 0
if_of i (Some block) = one_if_same block.class i

-- how many blocks are there
abbrev blocks_of : ℕ → List (Option Block) → ℕ
blocks_of i [] = 0
blocks_of i (block ∷ blocks) = if_of i block + blocks_of i blocks

abbrev pub size_at : ℕ → List Class → ℕ
size_at i classes = size_in (slice_get classes i)

-- ---- blocks

blocks_more : (i : ℕ) (blocks : List (Option Block)) (block : Option Block) → blocks_of i (blocks ++ block ∷ []) ≡ blocks_of i blocks + if_of i block
blocks_more i [] block = omega arith
blocks_more i (b ∷ blocks) block = omega (arith, blocks_more i blocks block)

blocks_less : (i : ℕ) (blocks : List (Option Block)) (k : ℕ) (block : Block) → flat (slice_get blocks k) ≡ Some block →
    blocks_of i (slice_set blocks k None) + one_if_same block.class i ≡ blocks_of i blocks
blocks_less i [] k block e = absurd (no_block e)
  where
    no_block : None ≡ Some block → ⊥
    no_block e = cc
blocks_less i (b ∷ blocks) zero block e = omega (arith, ap (if_of i) e)
blocks_less i (b ∷ blocks) (suc k) block e = omega (arith, blocks_less i blocks k block e)

if_refilled : (i : ℕ) (block : Option Block) (contents : Contents) → if_of i (refilled block contents) ≡ if_of i block
if_refilled i None contents = refl
if_refilled i (Some block) contents = refl

blocks_filled : (i : ℕ) (blocks : List (Option Block)) (k : ℕ) (contents : Contents) →
    blocks_of i (slice_set blocks k (refilled (flat (slice_get blocks k)) contents)) ≡ blocks_of i blocks
blocks_filled i [] k contents = refl
blocks_filled i (b ∷ blocks) zero contents = ap (λ n. n + blocks_of i blocks) (if_refilled i b contents)
blocks_filled i (b ∷ blocks) (suc k) contents = ap (λ n. if_of i b + n) (blocks_filled i blocks k contents)

-- ---- live blocks of a class

not_first : (j : ℕ) → one_if_same (suc j) 0 ≡ 0
not_first j = ap (λ b. if b then 1 else 0) (eqb-suc-zero j)

not_later : (i : ℕ) → one_if_same 0 (suc i) ≡ 0
not_later i = ap (λ b. if b then 1 else 0) (eqb-zero-suc i)

both_later : (i j : ℕ) → one_if_same (suc j) (suc i) ≡ one_if_same j i
both_later i j = ap (λ b. if b then 1 else 0) (eqb-suc-suc j i)

live_more : (i j : ℕ) (classes : List Class) → j < length classes → live_at i (at_class one_more j classes) ≡ live_at i classes + one_if_same j i
live_more i j [] lt = absurd (omega (arith, lt))
live_more zero zero (c ∷ classes) lt = omega arith
live_more (suc i) zero (c ∷ classes) lt = omega (arith, not_later i)
live_more zero (suc j) (c ∷ classes) lt = omega (arith, not_first j)
live_more (suc i) (suc j) (c ∷ classes) lt = omega (arith, both_later i j, live_more i j classes (omega (arith, lt)))

live_less : (i j : ℕ) (classes : List Class) → live_at i (at_class one_less j classes) ≡ live_at i classes - one_if_same j i
live_less i j [] = omega arith
live_less zero zero (c ∷ classes) = refl
live_less (suc i) zero (c ∷ classes) = omega (arith, not_later i)
live_less zero (suc j) (c ∷ classes) = omega (arith, not_first j)
live_less (suc i) (suc j) (c ∷ classes) = omega (arith, both_later i j, live_less i j classes)

-- ---- and of a size

of_more : (size j : ℕ) (classes : List Class) → j < length classes →
    live_of size (at_class one_more j classes) ≡ live_of size classes + one_if_same (size_at j classes) size
of_more size j [] lt = absurd (omega (arith, lt))
of_more size zero (c ∷ classes) lt = here (nat_eq c.size size)
  where
    here : (b : Bool) → (if b then suc c.live else 0) + live_of size classes ≡ (if b then c.live else 0) + live_of size classes + (if b then 1 else 0)
    here true = omega arith
    here false = omega arith
of_more size (suc j) (c ∷ classes) lt = omega (arith, of_more size j classes (omega (arith, lt)))

of_less : (size j : ℕ) (classes : List Class) → 0 < live_at j classes →
    live_of size (at_class one_less j classes) + one_if_same (size_at j classes) size ≡ live_of size classes
of_less size j [] lt = absurd (omega (arith, lt))
of_less size zero (c ∷ classes) lt = here (nat_eq c.size size)
  where
    here : (b : Bool) → (if b then c.live - 1 else 0) + live_of size classes + (if b then 1 else 0) ≡ (if b then c.live else 0) + live_of size classes
    here true = omega (arith, lt)
    here false = omega arith
of_less size (suc j) (c ∷ classes) lt = omega (arith, of_less size j classes lt)

-- ---- the invariant

pub record Balanced (heap : Heap) (history : List Happening) : Type 0 where
  pub counts : (i : ℕ) → live_at i heap.classes ≡ blocks_of i heap.blocks
  pub sums : (size : ℕ) → takes_of size history ≡ live_of size heap.classes + gives_of size history

is_class : (class : ℕ) (heap : Heap) (b : Bool) → b ≡ nat_lt class (length heap.classes) →
    (if b then nat_le (demand (at_class one_more class heap.classes)) heap.room else false) ≡ true → nat_lt class (length heap.classes) ≡ true
is_class class heap true e room = sym e
is_class class heap false e room = absurd (both_ways false refl room)

below : (class : ℕ) (classes : List Class) → nat_lt class (length classes) ≡ true → class < length classes
below class classes e = ltb-true class (length classes) e

taken_balanced : (class : ℕ) (contents : Contents) (heap : Heap) (history : List Happening) (k : ℕ) → class < length heap.classes → Balanced heap history →
    Balanced (taken heap class contents) (Born (OfBlock k) ∷ Took (size_at class heap.classes) ∷ history)
taken_balanced class contents heap history k lt h = record {
  counts = λ i. omega (arith, h.counts i, live_more i class heap.classes lt, blocks_more i heap.blocks (Some (record { class = class; contents = contents })));
  sums = λ size. omega (arith, h.sums size, of_more size class heap.classes lt);
}

-- a size of which a block is there, has one that is live
pub class_live : (k : ℕ) (block : Block) (heap : Heap) (history : List Happening) → block_at heap k ≡ Some block → Balanced heap history →
    0 < live_at block.class heap.classes
class_live k block heap history e h =
    let itself : one_if_same block.class block.class ≡ 1 = ap (λ b. if b then 1 else 0) (eq-eqb block.class block.class refl) in
    omega (arith, itself, h.counts block.class, blocks_less block.class heap.blocks k block e)

-- one of which a block may be taken is there
pub class_below : (class : ℕ) (heap : Heap) → has_room heap class ≡ true → class < length heap.classes
class_below class heap room = below class heap.classes (is_class class heap (nat_lt class (length heap.classes)) refl room)

given_balanced : (k : ℕ) (block : Block) (heap : Heap) (history : List Happening) → block_at heap k ≡ Some block → Balanced heap history →
    Balanced (without heap k (Some block)) (Ended (OfBlock k) ∷ Gave (size_at block.class heap.classes) ∷ history)
given_balanced k block heap history e h =
    let is_live = class_live k block heap history e h in
    record {
      counts = λ i. omega (arith, h.counts i, live_less i block.class heap.classes, blocks_less i heap.blocks k block e);
      sums = λ size. omega (arith, h.sums size, of_less size block.class heap.classes is_live);
    }

pub balanced : HeapInvariant Balanced
balanced = record {
  takes = λ class contents world room h.
      taken_balanced class contents world.heap world.history (length world.heap.blocks)
      (class_below class world.heap room) h;
  gives = λ k block world e h.
      subst (λ b. Balanced (without world.heap k b) (Ended (OfBlock k) ∷ Gave (size_of world block.class) ∷ world.history)) (sym e)
      (given_balanced k block world.heap world.history e h);
  fills = λ k contents world h. record {
    counts = λ i. h.counts i ∙ sym (blocks_filled i world.heap.blocks k contents);
    sums = h.sums;
  };
}

none_live : (i n size : ℕ) → live_at i (sizes_from n size) ≡ 0
none_live i zero size = refl
none_live zero (suc n) size = refl
none_live (suc i) (suc n) size = none_live i n (2 * size)

none_of : (size n first : ℕ) → live_of size (sizes_from n first) ≡ 0
none_of size zero first = refl
none_of size (suc n) first = omega (arith, none_of size n (2 * first), none (nat_eq first size))
  where
    none : (b : Bool) → let n : ℕ = if b then 0 else 0 in n ≡ 0
    none true = refl
    none false = refl

-- nothing was taken yet
pub balanced_first : (room : ℕ) → Balanced (heap_of room) []
balanced_first room = record {
  counts = λ i. none_live i size_count LEAST_BLOCK;
  sums = λ size. omega (arith, none_of size size_count LEAST_BLOCK);
}

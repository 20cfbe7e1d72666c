-- Each block is born once, ends at most once, and is live in between.
use Rattle.std.proofs.Common.{◌≡◌, ℕ, zero, suc, ◌+◌, ◌≤◌, List, [], ◌∷◌, ◌++◌, length, Option, Some, None}
use Rattle.std.proofs.Common.{refl, sym, ap, subst, arith, ◌∙◌}
use Rattle.std.specs.Prelude.{if◌then◌else◌, slice_get, slice_set}
use Rattle.std.proofs.lemmas.Bool.{eq-eqb}
use Rattle.std.proofs.Math.Dec.{eqb-suc-zero, eqb-zero-suc, eqb-suc-suc}
use Rattle.nim_meaning.specs.Heap.{Contents, Block, Heap, taken, without, flat, refilled, block_at, heap_of}
use Rattle.nim_meaning.specs.State.{OfBlock, Took, Gave, Born, Ended, Happening}
use Rattle.nim_meaning.specs.Deeds.{size_of}
use Rattle.nim_meaning.specs.Kept.{one_if_same, born_of, ended_of, IsOrdered, one_if_there}
use Rattle.nim_meaning.proofs.HeapKept.{HeapInvariant}

not_first : (j : ℕ) → one_if_same (suc j) 0 ≡ 0
not_first j = ap (λ b. if b then 1 else 0) (eqb-suc-zero j)

not_later : (i : ℕ) → one_if_same 0 (suc i) ≡ 0
not_later i = ap (λ b. if b then 1 else 0) (eqb-zero-suc i)

both_later : (i j : ℕ) → one_if_same (suc j) (suc i) ≡ one_if_same j i
both_later i j = ap (λ b. if b then 1 else 0) (eqb-suc-suc j i)

itself : (k : ℕ) → one_if_same k k ≡ 1
itself k = ap (λ b. if b then 1 else 0) (eq-eqb k k refl)

-- ---- blocks by position

abbrev there : ℕ → List (Option Block) → ℕ
there k blocks = one_if_there (flat (slice_get blocks k))

-- whether a position is one of the list
abbrev taken_once : ℕ → List (Option Block) → ℕ
taken_once k [] = 0
taken_once zero (b ∷ blocks) = 1
taken_once (suc k) (b ∷ blocks) = taken_once k blocks

more_taken : (k : ℕ) (blocks : List (Option Block)) (b : Option Block) →
    taken_once k (blocks ++ b ∷ []) ≡ one_if_same (length blocks) k + taken_once k blocks
more_taken zero [] b = refl
more_taken (suc k) [] b = omega (arith, not_later k)
more_taken zero (c ∷ blocks) b = omega (arith, not_first (length blocks))
more_taken (suc k) (c ∷ blocks) b = omega (arith, both_later k (length blocks), more_taken k blocks b)

none_behind : (k : ℕ) (blocks : List (Option Block)) → k ≡ length blocks → taken_once k blocks ≡ 0
none_behind k [] e = refl
none_behind zero (b ∷ blocks) e = absurd (omega (arith, e))
none_behind (suc k) (b ∷ blocks) e = none_behind k blocks (omega (arith, e))

at_most_once : (k : ℕ) (blocks : List (Option Block)) → taken_once k blocks ≤ 1
at_most_once k [] = omega arith
at_most_once zero (b ∷ blocks) = omega arith
at_most_once (suc k) (b ∷ blocks) = at_most_once k blocks

more_there : (k : ℕ) (blocks : List (Option Block)) (b : Block) → there k (blocks ++ Some b ∷ []) ≡ one_if_same (length blocks) k + there k blocks
more_there zero [] b = refl
more_there (suc k) [] b = omega (arith, not_later k)
more_there zero (c ∷ blocks) b = omega (arith, not_first (length blocks))
more_there (suc k) (c ∷ blocks) b = omega (arith, both_later k (length blocks), more_there k blocks b)

set_taken : (k j : ℕ) (blocks : List (Option Block)) (b : Option Block) → taken_once k (slice_set blocks j b) ≡ taken_once k blocks
set_taken k j [] b = refl
set_taken zero zero (c ∷ blocks) b = refl
set_taken (suc k) zero (c ∷ blocks) b = refl
set_taken zero (suc j) (c ∷ blocks) b = refl
set_taken (suc k) (suc j) (c ∷ blocks) b = set_taken k j blocks b

less_there : (k j : ℕ) (blocks : List (Option Block)) (block : Block) → flat (slice_get blocks j) ≡ Some block →
    there k (slice_set blocks j None) + one_if_same j k ≡ there k blocks
less_there k j [] block e = absurd (no_block e)
  where
    no_block : None ≡ Some block → ⊥
    no_block e = cc
less_there zero zero (c ∷ blocks) block e = ap one_if_there (sym e)
less_there (suc k) zero (c ∷ blocks) block e = omega (arith, not_later k)
less_there zero (suc j) (c ∷ blocks) block e = omega (arith, not_first j)
less_there (suc k) (suc j) (c ∷ blocks) block e = omega (arith, both_later k j, less_there k j blocks block e)

refilled_there : (b : Option Block) (contents : Contents) → one_if_there (refilled b contents) ≡ one_if_there b
refilled_there None contents = refl
refilled_there (Some b) contents = refl

same_there : (k j : ℕ) (blocks : List (Option Block)) (contents : Contents) →
    there k (slice_set blocks j (refilled (flat (slice_get blocks j)) contents)) ≡ there k blocks
same_there k j [] contents = refl
same_there zero zero (c ∷ blocks) contents = refilled_there c contents
same_there (suc k) zero (c ∷ blocks) contents = refl
same_there zero (suc j) (c ∷ blocks) contents = refl
same_there (suc k) (suc j) (c ∷ blocks) contents = same_there k j blocks contents

-- ---- the invariant

pub record Once (heap : Heap) (history : List Happening) : Type 0 where
  pub ordered : IsOrdered history
  pub born : (k : ℕ) → born_of k history ≡ taken_once k heap.blocks
  pub live : (k : ℕ) → ended_of k history + one_if_there (block_at heap k) ≡ born_of k history

taken_once_more : (class size : ℕ) (contents : Contents) (heap : Heap) (history : List Happening) → Once heap history →
    Once (taken heap class contents) (Born (OfBlock (length heap.blocks)) ∷ Took size ∷ history)
taken_once_more class size contents heap history h =
    let block : Block = record { class = class; contents = contents } in
    record {
      ordered = (h.born (length heap.blocks) ∙ none_behind (length heap.blocks) heap.blocks refl, h.ordered);
      born = λ k. omega (arith, h.born k, more_taken k heap.blocks (Some block));
      live = λ k. omega (arith, h.live k, more_there k heap.blocks block);
    }

given_once : (j size : ℕ) (block : Block) (heap : Heap) (history : List Happening) → block_at heap j ≡ Some block → Once heap history →
    Once (without heap j (Some block)) (Ended (OfBlock j) ∷ Gave size ∷ history)
given_once j size block heap history e h =
    let is_there : one_if_there (block_at heap j) ≡ 1 = ap one_if_there e in
    let most = at_most_once j heap.blocks in
    record {
      ordered = (omega (arith, is_there, h.live j, h.born j, most), (omega (arith, is_there, h.live j, h.born j, most), h.ordered));
      born = λ k. h.born k ∙ sym (set_taken k j heap.blocks None);
      live = λ k. omega (arith, h.live k, less_there k j heap.blocks block e);
    }

pub once : HeapInvariant Once
once = record {
  takes = λ class contents world room h. taken_once_more class (size_of world class) contents world.heap world.history h;
  gives = λ k block world e h.
      subst (λ b. Once (without world.heap k b) (Ended (OfBlock k) ∷ Gave (size_of world block.class) ∷ world.history)) (sym e)
      (given_once k (size_of world block.class) block world.heap world.history e h);
  fills = λ k contents world h. record {
    ordered = h.ordered;
    born = λ j. h.born j ∙ sym (set_taken j k world.heap.blocks _);
    live = λ j. omega (arith, h.live j, same_there j k world.heap.blocks contents);
  };
}

-- nothing was taken yet
pub once_first : (room : ℕ) → Once (heap_of room) []
once_first room = record { ordered = tt; born = λ k. refl; live = λ k. refl }

-- Each change keeps it that each block has one holder, if what is taken over is counted.
use Rattle.std.proofs.Common.{◌≡◌, refl, sym, ap, subst, ◌∙◌, arith, ℕ, zero, suc, ◌+◌, List, [], ◌∷◌, ◌++◌, length, Option, Some, None}
use Rattle.std.specs.Prelude.{slice_get, slice_set, if◌then◌else◌}
use Rattle.std.proofs.lemmas.Option.{none-some}
use Rattle.std.proofs.Math.Dec.{eqb-suc-zero, eqb-zero-suc, eqb-suc-suc}
use Rattle.nim_meaning.specs.Values.{Value, Parts, Base, InBlock, Location, Slot, Holds, put_part, part, parts_of, Values}
use Rattle.nim_meaning.specs.Heap.{Contents, Elements, Block, flat, block_at, without, with_contents, refilled}
use Rattle.nim_meaning.specs.State.{World, store, stored, with_value_in, new_contents, frame_in, temporary_in, Frame}
use Rattle.nim_meaning.specs.Deeds.{with_block, freed}
use Rattle.nim_meaning.specs.Kept.{one_if_same, one_if_there}
use Rattle.holders.specs.Owned.{IsBase, at_place, at_node, in_hand, in_row, in_text, in_program, HasPart, whole, row_part, MayStore}
use Rattle.holders.specs.Owned.{Extent, HasEach, none_more, one_more}
use Rattle.holders.specs.Holders.{held_by, held_in, held_in_contents, held_in_block, held_in_world}
use Rattle.holders.specs.Walks.{KeepsOnce}
use Rattle.holders.proofs.HolderCounts.{part_put, slot_counts, temporary_counts, total_set}
use Rattle.holders.proofs.Staying.{stays_same, stays_then}
use Rattle.holders.proofs.Bases.{whole_is, block_position}
use Rattle.holders.specs.Becoming.{times}
use Rattle.nim_types.specs.Forms.{Form}

pub keeps_none : (world : World) → KeepsOnce world world
keeps_none world = record { held = λ others h. h; stays = stays_same world }

pub keeps_then : {a b c : World} → KeepsOnce a b → KeepsOnce b c → KeepsOnce a c
keeps_then h g = record { held = λ others x. g.held others (h.held others x); stays = stays_then h.stays g.stays }

-- how often a block is among some and others
pub times_both : (k : ℕ) (bs cs : List ℕ) → times k (bs ++ cs) ≡ times k bs + times k cs
times_both k [] cs = omega arith
times_both k (b ∷ bs) cs = omega (arith, times_both k bs cs)

-- some, between others
pub times_middle : (k : ℕ) {all : List ℕ} (bs cs ds : List ℕ) → all ≡ bs ++ (cs ++ ds) → times k all ≡ times k bs + (times k cs + times k ds)
times_middle k bs cs ds e = omega (arith, ap (times k) e, times_both k bs (cs ++ ds), times_both k cs ds)

-- no elements have no blocks
pub none_in_none : {world : World} {x : Extent} {f : Form} {n i : ℕ} {all : Values} {bs : List ℕ} → HasEach world x f n i all bs → n ≡ 0 → (k : ℕ) →
    times k bs ≡ 0
none_in_none none_more e k = refl
none_in_none (one_more le h more) e k = absurd (omega (arith, e))

-- ---- blocks by position

not_first : (j : ℕ) → one_if_same (suc j) 0 ≡ 0
not_first j = ap (λ b. if b then 1 else 0) (eqb-suc-zero j)

not_later : (i : ℕ) → one_if_same 0 (suc i) ≡ 0
not_later i = ap (λ b. if b then 1 else 0) (eqb-zero-suc i)

pub both_later : (i j : ℕ) → one_if_same (suc j) (suc i) ≡ one_if_same j i
both_later i j = ap (λ b. if b then 1 else 0) (eqb-suc-suc j i)

abbrev there : ℕ → List (Option Block) → ℕ
there k blocks = one_if_there (flat (slice_get blocks k))

more_there : (k : ℕ) (blocks : List (Option Block)) (b : Block) → there k (blocks ++ Some b ∷ []) ≡ one_if_same (length blocks) k + there k blocks
more_there zero [] b = refl
more_there (suc k) [] b = omega (arith, not_later k)
more_there zero (c ∷ blocks) b = omega (arith, not_first (length blocks))
more_there (suc k) (c ∷ blocks) b = omega (arith, both_later k (length blocks), more_there k blocks b)

less_there : (k j : ℕ) (blocks : List (Option Block)) (block : Block) → flat (slice_get blocks j) ≡ Some block →
    there k (slice_set blocks j None) + one_if_same j k ≡ there k blocks
less_there k j [] block e = absurd (none-some block e)
less_there zero zero (c ∷ blocks) block e = ap one_if_there (sym e)
less_there (suc k) zero (c ∷ blocks) block e = omega (arith, not_later k)
less_there zero (suc j) (c ∷ blocks) block e = omega (arith, not_first j)
less_there (suc k) (suc j) (c ∷ blocks) block e = omega (arith, both_later k j, less_there k j blocks block e)

refilled_there : (b : Option Block) (contents : Contents) → one_if_there (refilled b contents) ≡ one_if_there b
refilled_there None contents = refl
refilled_there (Some b) contents = refl

pub same_there : (k j : ℕ) (blocks : List (Option Block)) (contents : Contents) →
    there k (slice_set blocks j (refilled (flat (slice_get blocks j)) contents)) ≡ there k blocks
same_there k j [] contents = refl
same_there zero zero (c ∷ blocks) contents = refilled_there c contents
same_there (suc k) zero (c ∷ blocks) contents = refl
same_there zero (suc j) (c ∷ blocks) contents = refl
same_there (suc k) (suc j) (c ∷ blocks) contents = same_there k j blocks contents

module _ (world : World) where
  -- ---- a value is stored

  pub filled_counts : (j k : ℕ) (block : Block) (contents : Contents) → block_at world.heap k ≡ Some block →
      held_in_world j (record world { heap = with_contents world.heap k contents }) + held_in_contents j block.contents
      ≡ held_in_world j world + held_in_contents j contents
  filled_counts j k block contents e =
      let blocks = world.heap.blocks in
      let new : Option Block → ℕ = λ b. held_in_block j (refilled b contents) in
      omega (arith, total_set (held_in_block j) blocks k (Some block) (refilled (block_at world.heap k) contents) (block_position blocks k block e), ap new e)

  base_counts : (j : ℕ) {base : Base} {w : Value} {path : List ℕ} (x : Value) → IsBase world base w → HasPart w path → MayStore base path →
      held_in_world j (stored world base (put_part w path x)) + held_by j w ≡ held_in_world j world + held_by j (put_part w path x)
  base_counts j {w = w} {path = path} x (at_place {level = level} {n = n} frame e le f) h may =
      slot_counts j world level n (Some (Holds w)) (Some (Holds (put_part w path x))) (record { frame = frame; active = e; there = f })
  base_counts j {w = w} {path = path} x (at_node {level = level} {node = node} frame e f) h may =
      temporary_counts j world level node (Holds w) (Holds (put_part w path x)) (record { frame = frame; active = e })
      (ap (λ (found : Option _). temporary_of found) e ∙ f)
    where
      temporary_of : Option Frame → Option Slot
      temporary_of found = temporary_in (frame_in found).temporaries node
  base_counts j {w = w} {path = path} x (in_hand {i = i} e) h may =
      omega (arith, total_set (held_by j) world.hand i w (put_part w path x) e)
  base_counts j x (in_row {k = k} {all = all} block e f) (row_part {i = i} {path = path} le h) may =
      let new = put_part (Parts all) (i ∷ path) x in
      subst (λ (b : Option Block). held_in_world j (record world { heap = with_value_in world.heap k b new }) + held_in j all
      ≡ held_in_world j world + held_by j new) (sym e)
      (subst (λ (c : Contents). held_in_world j (record world { heap = with_contents world.heap k (new_contents c new) }) + held_in j all
      ≡ held_in_world j world + held_by j new) (sym f)
      (omega (arith, filled_counts j k block (Elements (parts_of new)) e, ap (held_in_contents j) f)))
  base_counts j x (in_row block e f) whole may = elim may [ ]
  base_counts j x (in_text block e f) whole may = elim may [ ]
  base_counts j x in_program h may = elim may [ ]

  pub stored_counts : (j : ℕ) (l : Location) {w : Value} (x : Value) → IsBase world l.base w → HasPart w l.path → MayStore l.base l.path →
      held_in_world j (store world l x) + held_by j (part w l.path) ≡ held_in_world j world + held_by j x
  stored_counts j l {w} x b h may =
      subst (λ v. held_in_world j (stored world l.base (put_part v l.path x)) + held_by j (part w l.path) ≡ held_in_world j world + held_by j x)
      (sym (whole_is world l.base w b)) (omega (arith, base_counts j x b h may, part_put j x h))

  -- the same blocks are there
  filled_live : (j k : ℕ) (found : Option Block) (v : Value) →
      one_if_there (block_at (with_value_in world.heap k found v) j) ≡ one_if_there (block_at world.heap j)
  filled_live j k None v = refl
  filled_live j k (Some block) v = same_there j k world.heap.blocks (new_contents block.contents v)

  pub stored_live : (j : ℕ) (base : Base) (v : Value) → one_if_there (block_at (stored world base v).heap j) ≡ one_if_there (block_at world.heap j)
  stored_live j (InBlock k) v = filled_live j k (block_at world.heap k) v
  stored_live j base v = refl

  -- ---- blocks

  pub freed_live : (j k : ℕ) (block : Block) → block_at world.heap k ≡ Some block →
      one_if_there (block_at (freed world k (block_at world.heap k)).heap j) + one_if_same k j ≡ one_if_there (block_at world.heap j)
  freed_live j k block e =
      subst (λ (b : Option Block). one_if_there (block_at (freed world k b).heap j) + one_if_same k j ≡ one_if_there (block_at world.heap j)) (sym e)
      (subst (λ (b : Option Block). one_if_there (block_at (without world.heap k b) j) + one_if_same k j ≡ one_if_there (block_at world.heap j)) (sym e)
      (less_there j k world.heap.blocks block e))

  pub taken_live : (j class : ℕ) (contents : Contents) →
      one_if_there (block_at (with_block class contents world).heap j) ≡ one_if_same (length world.heap.blocks) j + one_if_there (block_at world.heap j)
  taken_live j class contents = more_there j world.heap.blocks (record { class = class; contents = contents })

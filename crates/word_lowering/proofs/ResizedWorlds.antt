-- The deeds by which texts and sequences get blocks and other contents: the world behind them, where they are at no fault.
use Rattle.std.proofs.Common.{◌≡◌, ◌≢◌, ℕ, zero, suc, List, [], ◌∷◌, length, Option, Some, None, Bool, true, false, refl, sym, ap, subst}
use Rattle.std.proofs.Common.{◌∙◌}
use Rattle.std.specs.Prelude.{slice_get, slice_set}
use Rattle.std.proofs.lemmas.Bool.{true≢false}
use Rattle.std.proofs.lemmas.Option.{none-some, same_Some}
use Rattle.arc_base.specs.Event.{Event}
use Rattle.nim_meaning.specs.Values.{Value, Handle, Base, Standing, Waiting, InHand, InBlock, InException, Made, Holds, Location, put_part, block_of, is_handle}
use Rattle.nim_meaning.specs.Heap.{Contents, Block, Heap, flat, block_at, class_for, has_room, taken, given, without, refilled, with_contents, at_class}
use Rattle.nim_meaning.specs.Heap.{one_less}
use Rattle.nim_meaning.specs.State.{Frame, World, frame_in, slot_of, with_slot_of, temporary_in, with_temporary_in, held, hand_value, whole_at, load, stored}
use Rattle.nim_meaning.specs.State.{awaited, store}
use Rattle.nim_meaning.specs.State.{contents_value, with_value_in, new_contents, is_so_in, is_live, has_item, leads_from, is_there, is_seen}
use Rattle.nim_meaning.specs.Deeds.{Gives, Errs, Changes, Takes, Stores, Refills, Frees, Done, Answers, Finishes, Fails, behind, perform, took, with_block}
use Rattle.nim_meaning.specs.Deeds.{freed}
use Rattle.nim_meaning.specs.Deeds.{branch, ◌>>=◌, ◌>>◌, sets, frees, refills}
use Rattle.nim_meaning.specs.Lifted.{has_place, fresh, resized}
use Rattle.word_lowering.proofs.BlockLists.{get_before, set_other, there_below}
use Rattle.word_lowering.proofs.BlocksMade.{heap_resized, block_resized}

-- ---- worlds in which the same stands at all places

pub record AreAlike (a b : World) : Type 0 where
  pub heap : a.heap ≡ b.heap
  pub frames : a.frames ≡ b.frames
  pub hand : a.hand ≡ b.hand

-- the frames, and the values under way
abbrev pub stack_of : World → List Frame × List Value
stack_of w = (w.frames, w.hand)

pub frames_of : (w v : World) → stack_of w ≡ stack_of v → w.frames ≡ v.frames
frames_of w v e = ap (λ (s : List Frame × List Value). s.0) e

pub hand_of : (w v : World) → stack_of w ≡ stack_of v → w.hand ≡ v.hand
hand_of w v e = ap (λ (s : List Frame × List Value). s.1) e

alike_self : (a : World) → AreAlike a a
alike_self a = record { heap = refl; frames = refl; hand = refl }

pub alike_more : (a b c : World) → AreAlike a b → AreAlike b c → AreAlike a c
alike_more a b c x y = record { heap = x.heap ∙ y.heap; frames = x.frames ∙ y.frames; hand = x.hand ∙ y.hand }

-- the world behind a deed that answers
abbrev pub answered : {A : Type 0} → Done A → Option World
answered (Answers es n x w) = Some w
answered (Finishes es n status w) = None
answered (Fails es n w) = None

pub behind_answers : {A : Type 0} (es : List Event) (n : ℕ) (x : Done A) → answered (behind es n x) ≡ answered x
behind_answers es n (Answers fs m x w) = refl
behind_answers es n (Finishes fs m status w) = refl
behind_answers es n (Fails fs m w) = refl

nothing_answers : {A : Type 0} (w : World) → None ≡ Some w → A
nothing_answers w e = absurd (none-some w e)

-- ---- blocks by identity, two of which change

pub set_swap : {A : Type 0} (xs : List A) (k j : ℕ) (x y : A) → j ≢ k → slice_set (slice_set xs k x) j y ≡ slice_set (slice_set xs j y) k x
set_swap [] k j x y ne = refl
set_swap (z ∷ zs) zero zero x y ne = absurd (ne refl)
set_swap (z ∷ zs) zero (suc j) x y ne = refl
set_swap (z ∷ zs) (suc k) zero x y ne = refl
set_swap (z ∷ zs) (suc k) (suc j) x y ne = ap (λ ws. z ∷ ws) (set_swap zs k j x y (λ e. ne (ap suc e)))

module _ (heap : Heap) (k j : ℕ) (ne : j ≢ k) where
  pub given_other : block_at (given heap k) j ≡ block_at heap j
  given_other = by (block_at heap k)
    where
      by : (o : Option Block) → block_at (without heap k o) j ≡ block_at heap j
      by None = refl
      by (Some b) = ap flat (set_other heap.blocks k j None ne)

  pub contents_other : (c : Contents) → block_at (with_contents heap j c) k ≡ block_at heap k
  contents_other c = ap flat (set_other heap.blocks j k (refilled (block_at heap j) c) (λ e. ne (sym e)))

  pub given_contents : (c : Contents) → with_contents (given heap k) j c ≡ given (with_contents heap j c) k
  given_contents c = by (block_at heap k) refl
    where
      new : Option Block
      new = refilled (block_at heap j) c

      by : (o : Option Block) → block_at heap k ≡ o → with_contents (given heap k) j c ≡ given (with_contents heap j c) k
      by None e =
          ap (λ o. with_contents (without heap k o) j c) e ∙ sym (ap (λ o. without (with_contents heap j c) k o) (contents_other c ∙ e))
      by (Some b) e =
          ap (λ o. with_contents (without heap k o) j c) e
          ∙ ap (λ o. record heap { classes = at_class one_less b.class heap.classes; blocks = slice_set (slice_set heap.blocks k None) j (refilled o c) })
          (ap flat (set_other heap.blocks k j None ne))
          ∙ ap (λ bs. record heap { classes = at_class one_less b.class heap.classes; blocks = bs }) (set_swap heap.blocks k j None new ne)
          ∙ sym (ap (λ o. without (with_contents heap j c) k o) (contents_other c ∙ e))

  given_value : (o : Option Block) (v : Value) → with_value_in (given heap k) j o v ≡ given (with_value_in heap j o v) k
  given_value None v = refl
  given_value (Some b) v = given_contents (new_contents b.contents v)

-- ---- a value is put in worlds that are alike, or that differ by a block that is given back

-- a base isn't in that block
abbrev pub IsBeside : Base → ℕ → Type 0
IsBeside (InBlock j) k = j ≢ k
IsBeside base k = Unit {0}

module _ (path : List ℕ) (v : Value) where
  abbrev put_at_slot : List Frame → ℕ → ℕ → List Frame
  put_at_slot fs level n =
      slice_set fs level
      (with_slot_of (frame_in (slice_get fs level)) n (Some (Holds (put_part (held (slot_of (frame_in (slice_get fs level)) n)) path v))))

  abbrev put_at_node : List Frame → ℕ → ℕ → List Frame
  put_at_node fs level n =
      slice_set fs level (record (frame_in (slice_get fs level)) {
        temporaries = with_temporary_in (frame_in (slice_get fs level)).temporaries n
            (Holds (put_part (awaited (temporary_in (frame_in (slice_get fs level)).temporaries n)) path v));
      })

  abbrev put_in_hand : List Value → ℕ → List Value
  put_in_hand hand i = slice_set hand i (put_part (hand_value (slice_get hand i)) path v)

  pub alike_put : (a b : World) (base : Base) → AreAlike a b →
      AreAlike (stored a base (put_part (whole_at a base) path v)) (stored b base (put_part (whole_at b base) path v))
  alike_put a b (Standing level n) x = record { heap = x.heap; frames = ap (λ fs. put_at_slot fs level n) x.frames; hand = x.hand }
  alike_put a b (Waiting level n) x = record { heap = x.heap; frames = ap (λ fs. put_at_node fs level n) x.frames; hand = x.hand }
  alike_put a b (InBlock k) x = record {
    heap = ap (λ h. with_value_in h k (block_at h k) (put_part (contents_value (block_at h k)) path v)) x.heap;
    frames = x.frames;
    hand = x.hand;
  }
  alike_put a b (InHand i) x = record { heap = x.heap; frames = x.frames; hand = ap (λ hand. put_in_hand hand i) x.hand }
  alike_put a b (InException i) x = record { heap = x.heap; frames = x.frames; hand = x.hand }
  alike_put a b (Made u) x = x

  pub given_put : (w : World) (heap : Heap) (k : ℕ) (base : Base) → IsBeside base k
      → (stored (record w { heap = given heap k }) base (put_part (whole_at (record w { heap = given heap k }) base) path v)).heap
      ≡ given (stored (record w { heap = heap }) base (put_part (whole_at (record w { heap = heap }) base) path v)).heap k
  given_put w heap k (Standing level n) ne = refl
  given_put w heap k (Waiting level n) ne = refl
  given_put w heap k (InBlock j) ne =
      ap (λ o. with_value_in (given heap k) j o (put_part (contents_value o) path v)) (given_other heap k j ne)
      ∙ given_value heap k j ne (block_at heap j) (put_part (contents_value (block_at heap j)) path v)
  given_put w heap k (InHand i) ne = refl
  given_put w heap k (InException i) ne = refl
  given_put w heap k (Made u) ne = refl

  -- frames and what is under way are the same, whichever heap there is
  pub same_put : (w : World) (heap other : Heap) (base : Base) →
      ((stored (record w { heap = heap }) base (put_part (whole_at (record w { heap = heap }) base) path v)).frames
      ≡ (stored (record w { heap = other }) base (put_part (whole_at (record w { heap = other }) base) path v)).frames)
      × ((stored (record w { heap = heap }) base (put_part (whole_at (record w { heap = heap }) base) path v)).hand
      ≡ (stored (record w { heap = other }) base (put_part (whole_at (record w { heap = other }) base) path v)).hand)
  same_put w heap other (Standing level n) = (refl, refl)
  same_put w heap other (Waiting level n) = (refl, refl)
  same_put w heap other (InBlock j) = (refl, refl)
  same_put w heap other (InHand i) = (refl, refl)
  same_put w heap other (InException i) = (refl, refl)
  same_put w heap other (Made u) = (refl, refl)

-- a location leads where it did, beside a block that is given back
leads_beside : (w : World) (heap : Heap) (k : ℕ) (path : List ℕ) (base : Base) → IsBeside base k
    → leads_from (record w { heap = given heap k }) base path ≡ leads_from (record w { heap = heap }) base path
leads_beside w heap k path (InBlock j) ne = by (block_at heap k)
  where
    by : (o : Option Block) → is_so_in (has_item path) (slice_get (without heap k o).blocks j) ≡ is_so_in (has_item path) (slice_get heap.blocks j)
    by None = refl
    by (Some b) = ap (is_so_in (has_item path)) (set_other heap.blocks k j None ne)
leads_beside w heap k path (Standing level n) ne = refl
leads_beside w heap k path (Waiting level n) ne = refl
leads_beside w heap k path (InHand i) ne = refl
leads_beside w heap k path (InException i) ne = refl
leads_beside w heap k path (Made u) ne = refl

-- ---- the world behind a text or a sequence that got other contents

module _ (w : World) (n bytes : ℕ) (c : Contents) (l : Location) where
  abbrev block_now : Option ℕ
  block_now = block_of (load w l)

  abbrev pub has : Bool
  has = has_place w block_now bytes

  abbrev pub heap_then : Heap
  heap_then = heap_resized has w.heap block_now bytes c

  abbrev pub world_then : World
  world_then = record w { heap = heap_then }

  abbrev pub handle_then : Value
  handle_then = Handle n (block_resized has w.heap block_now)

  pub record IsResized (after : World) : Type 0 where
    pub room : has ≡ false → has_room w.heap (class_for bytes w.heap.classes) ≡ true
    pub seen : is_seen w l ≡ true
    pub live : is_there world_then l ≡ true
    pub is : AreAlike after (store world_then l handle_then)

  module _ (after : World) (nonempty : n ≡ 0 → has ≡ true)
      (beside : (k : ℕ) → block_now ≡ Some k → has ≡ false → IsBeside l.base k)
      (there : (k : ℕ) → block_now ≡ Some k → (b : Block) × (block_at w.heap k ≡ Some b))
    where
      -- what it comes to, for any heap and block
      abbrev Behind : (p : Bool) → Option ℕ → Type 0
      Behind p k = (p ≡ false → has_room w.heap (class_for bytes w.heap.classes) ≡ true)
          × (is_there (record w { heap = heap_resized p w.heap k bytes c }) l ≡ true)
          × AreAlike after (store (record w { heap = heap_resized p w.heap k bytes c }) l (Handle n (block_resized p w.heap k)))

      not_false : {A : Type 0} → true ≡ false → A
      not_false e = absurd (true≢false e)

      -- its block stays
      put_only : (b : Bool) (v : World) → is_there v l ≡ b → (k : Option ℕ)
          → answered (perform (branch b (Changes (Stores l (Handle n k)) (Gives (tt {0}))) Errs) v) ≡ Some after
          → (is_there v l ≡ true) × (store v l (Handle n k) ≡ after)
      put_only true v e k h = (e, same_Some (store v l (Handle n k)) after h)
      put_only false v e k h = nothing_answers after h

      stays : (k : Option ℕ) → answered (perform (refills k c >> sets l (Handle n k)) w) ≡ Some after → Behind true k
      stays None h =
          let x = put_only (is_there w l) w refl None h in
          (λ e. not_false e, x.0, subst (λ a. AreAlike a (store w l (Handle n None))) x.1 (alike_self (store w l (Handle n None))))
      stays (Some k) h = by (is_live w k) h
        where
          by : (b : Bool) → answered (perform (branch b (Changes (Refills k c) (Gives (tt {0}))) Errs >> sets l (Handle n (Some k))) w) ≡ Some after
              → Behind true (Some k)
          by false h = nothing_answers after h
          by true h =
              let x = put_only (is_there (record w { heap = with_contents w.heap k c }) l) (record w { heap = with_contents w.heap k c }) refl (Some k) h in (
                λ e. not_false e,
                x.0,
                subst (λ a. AreAlike a (store (record w { heap = with_contents w.heap k c }) l (Handle n (Some k)))) x.1
                    (alike_self (store (record w { heap = with_contents w.heap k c }) l (Handle n (Some k)))),
              )

      -- ---- it gets another block

      -- the new handle is put, and then the block before is given back
      module _ (v : World) (heap : Heap) (is_v : AreAlike v (record w { heap = heap })) (new : Value) where
        abbrev put_world : World
        put_world = store v l new

        abbrev heap_world : World
        heap_world = record w { heap = heap }

        put_alike : AreAlike put_world (store heap_world l new)
        put_alike = alike_put l.path new v heap_world l.base is_v

        none_freed : answered (perform (sets l new >> frees None) v) ≡ Some after
            → (is_there v l ≡ true) × AreAlike after (store heap_world l new)
        none_freed h = by (is_there v l) refl h
          where
            by : (b : Bool) → is_there v l ≡ b → answered (perform (branch b (Changes (Stores l new) (Gives (tt {0}))) Errs >> frees None) v) ≡ Some after
                → (is_there v l ≡ true) × AreAlike after (store heap_world l new)
            by true e h = (e, subst (λ a. AreAlike a (store heap_world l new)) (same_Some put_world after h) put_alike)
            by false e h = nothing_answers after h

        some_freed : (k : ℕ) (b : Block) → block_at heap k ≡ Some b → IsBeside l.base k
            → answered (perform (sets l new >> frees (Some k)) v) ≡ Some after
            → (is_there v l ≡ true) × AreAlike after (store (record w { heap = given heap k }) l new)
        some_freed k b at ne h = by (is_there v l) refl h
          where
            heap_is : put_world.heap ≡ (store heap_world l new).heap
            heap_is = put_alike.heap

            -- the world behind it, of the block that is there
            freed_alike : (o : Option Block) → block_at put_world.heap k ≡ o → AreAlike (freed put_world k o) (store (record w { heap = given heap k }) l new)
            freed_alike None e = absurd (none-some b (sym e ∙ ap (λ g. block_at g k) heap_is ∙ still_there))
              where
                still_there : block_at (store heap_world l new).heap k ≡ Some b
                still_there = by_base l.base ne
                  where
                    by_base : (base : Base) → IsBeside base k →
                        block_at (stored heap_world base (put_part (whole_at heap_world base) l.path new)).heap k ≡ Some b
                    by_base (InBlock j) away = by_block (block_at heap j)
                      where
                        by_block : (o : Option Block) → block_at (with_value_in heap j o (put_part (whole_at heap_world (InBlock j)) l.path new)) k ≡ Some b
                        by_block None = at
                        by_block (Some d) =
                            contents_other heap k j away (new_contents d.contents (put_part (whole_at heap_world (InBlock j)) l.path new)) ∙ at
                    by_base (Standing level n) away = at
                    by_base (Waiting level n) away = at
                    by_base (InHand i) away = at
                    by_base (InException i) away = at
                    by_base (Made u) away = at
            freed_alike (Some x) e =
                let same = same_put l.path new w heap (given heap k) l.base in
                record {
                  heap = ap (λ g. given g k) heap_is ∙ sym (given_put l.path new w heap k l.base ne);
                  frames = put_alike.frames ∙ same.0;
                  hand = put_alike.hand ∙ same.1;
                }

            freed_by : (b : Bool) → answered (perform (branch b (Changes (Frees k) (Gives (tt {0}))) Errs) put_world) ≡ Some after
                → AreAlike after (store (record w { heap = given heap k }) l new)
            freed_by true h =
                subst (λ a. AreAlike a (store (record w { heap = given heap k }) l new))
                (same_Some (freed put_world k (block_at put_world.heap k)) after h) (freed_alike (block_at put_world.heap k) refl)
            freed_by false h = nothing_answers after h

            by : (b : Bool) → is_there v l ≡ b → answered (perform (branch b (Changes (Stores l new) (Gives (tt {0}))) Errs >> frees (Some k)) v) ≡ Some after
                → (is_there v l ≡ true) × AreAlike after (store (record w { heap = given heap k }) l new)
            by true e h = (e, freed_by (is_live put_world k) h)
            by false e h = nothing_answers after h

      abbrev class : ℕ
      class = class_for bytes w.heap.classes

      abbrev taken_heap : Heap
      taken_heap = taken w.heap class c

      -- it is taken where there is room
      moves_on : (i : ℕ) → n ≡ suc i → (k : Option ℕ) → ((j : ℕ) → k ≡ Some j → (b : Block) × (block_at taken_heap j ≡ Some b) × IsBeside l.base j)
          → answered (perform (fresh n bytes c >>= (λ new. sets l new >> frees k)) w) ≡ Some after → Behind false k
      moves_on i e k at h =
          by (has_room w.heap class) refl
          (sym (behind_answers [] bytes (perform (Takes class c (λ j. sets l (Handle (suc i) (Some j)) >> frees k)) w))
          ∙ subst (λ z. answered (perform (fresh z bytes c >>= (λ new. sets l new >> frees k)) w) ≡ Some after) e h)
        where
          is_v : AreAlike (with_block class c w) (record w { heap = taken_heap })
          is_v = record { heap = refl; frames = refl; hand = refl }

          behind_it : (k : Option ℕ) → ((j : ℕ) → k ≡ Some j → (b : Block) × (block_at taken_heap j ≡ Some b) × IsBeside l.base j)
              → has_room w.heap class ≡ true → answered (perform (sets l (Handle (suc i) (Some (length w.heap.blocks))) >> frees k) (with_block class c w))
              ≡ Some after → Behind false k
          behind_it None at room h =
              let x = none_freed (with_block class c w) taken_heap is_v (Handle (suc i) (Some (length w.heap.blocks))) h in
              (λ f. room, x.0, subst (λ z. AreAlike after (store (record w { heap = taken_heap }) l (Handle z (Some (length w.heap.blocks))))) (sym e) x.1)
          behind_it (Some j) at room h =
              let y = at j refl in
              let x = some_freed (with_block class c w) taken_heap is_v (Handle (suc i) (Some (length w.heap.blocks))) j y.0 y.1 y.2 h in (
                λ f. room,
                leads_beside w taken_heap j l.path l.base y.2 ∙ x.0,
                subst (λ z. AreAlike after (store (record w { heap = given taken_heap j }) l (Handle z (Some (length w.heap.blocks))))) (sym e) x.1,
              )

          by : (b : Bool) → has_room w.heap class ≡ b → answered
              (took b (perform (sets l (Handle (suc i) (Some (length w.heap.blocks))) >> frees k) (with_block class c w)) w) ≡ Some after → Behind false k
          by true room h = behind_it k at room h
          by false room h = nothing_answers after h

      -- ---- in all

      pub resized_world : answered (perform (resized n bytes c l) w) ≡ Some after → IsResized after
      resized_world h = by (is_seen w l) refl (is_handle (load w l)) h
        where
          present : (j : ℕ) → block_now ≡ Some j → has ≡ false → (b : Block) × (block_at taken_heap j ≡ Some b) × IsBeside l.base j
          present j e away = let x = there j e in (x.0, ap flat (get_before_it j x.0 x.1) ∙ x.1, beside j e away)
            where
              get_before_it : (j : ℕ) (b : Block) → block_at w.heap j ≡ Some b → slice_get taken_heap.blocks j ≡ slice_get w.heap.blocks j
              get_before_it j b at = get_before w.heap.blocks (Some (record { class = class; contents = c })) j (there_below w.heap.blocks j b at)

          from : (p : Bool) → has ≡ p → is_seen w l ≡ true → Behind p block_now → IsResized after
          from p e seen x =
              let y = subst (λ q. Behind q block_now) (sym e) x in
              record { room = y.0; seen = seen; live = y.1; is = y.2 }

          made : (p : Bool) → has ≡ p → is_seen w l ≡ true
              → answered (perform (branch p (refills block_now c >> sets l (Handle n block_now))
              (fresh n bytes c >>= (λ new. sets l new >> frees block_now))) w) ≡ Some after → IsResized after
          made true e seen h = from true e seen (stays block_now h)
          made false e seen h = by_length n refl
            where
              by_length : (i : ℕ) → n ≡ i → IsResized after
              by_length zero none = not_false (sym (nonempty none) ∙ e)
              by_length (suc i) is = from false e seen (moves_on i is block_now (λ j same. present j same e) h)

          by : (b : Bool) → is_seen w l ≡ b → (owned : Bool)
              → answered (perform (branch b (branch owned (branch has (refills block_now c >> sets l (Handle n block_now))
              (fresh n bytes c >>= (λ new. sets l new >> frees block_now))) Errs) Errs) w) ≡ Some after → IsResized after
          by true seen true h = made has refl seen h
          by true seen false h = nothing_answers after h
          by false seen owned h = nothing_answers after h

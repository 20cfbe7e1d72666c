-- The text or the sequence at a location gets other contents by a routine: what holds of homes in the meaning's world before holds in its world
-- behind the deed.
use Rattle.std.proofs.Common.{◌≡◌, ◌≢◌, inl, inr, ℕ, zero, suc, ◌<◌, ◌≤◌, List, [], ◌∷◌, Option, Some, None, Bool, true, false, refl, sym, ap, subst, ◌∙◌}
use Rattle.std.proofs.Common.{arith}
use Rattle.std.specs.Prelude.{slice_get}
use Rattle.std.proofs.lemmas.Bool.{and_parts}
use Rattle.nim_meaning.specs.Values.{Value, Handle, Base, Standing, Waiting, InHand, InBlock, InException, Made, Location, block_of}
use Rattle.nim_meaning.specs.Heap.{Contents, Block, Heap, flat, block_at, class_for, has_room, taken, without, refilled}
use Rattle.nim_meaning.specs.State.{World, frame_in, slot_of, temporary_in, whole_at, load, store, contents_value, is_so_in, has_item, leads_from, is_there}
use Rattle.nim_meaning.specs.State.{is_whole}
use Rattle.nim_meaning.specs.Deeds.{perform}
use Rattle.nim_meaning.specs.Lifted.{has_place, resized}
use Rattle.flat_code.specs.Shapes.{Shape, block, elements, row, parts}
use Rattle.word_code.specs.Memory.{Memory}
use Rattle.word_code.proofs.ForCallers.{MemoryLaw}
use Rattle.word_lowering.proofs.Blocks.{Inside as Holding, Bytes, Each, Blocks, HasHeap}
use Rattle.word_lowering.proofs.BlockLists.{get_before, set_other, there_below}
use Rattle.word_lowering.proofs.BaseValues.{HoldsAt, IsOwn, in_frame}
use Rattle.word_lowering.proofs.BlockHomes.{Home, SameOrApart, HomesHold, FromBlock, LeadsTo, block_seen}
use Rattle.word_lowering.proofs.BlockPaths.{leads_later}
use Rattle.word_lowering.proofs.BlockWrites.{Put}
use Rattle.word_lowering.proofs.BlocksBorn.{later_more}
use Rattle.word_lowering.proofs.BlocksMade.{heap_resized, block_resized}
use Rattle.word_lowering.proofs.ShapeDepth.{depth, nth_depth}
use Rattle.word_lowering.proofs.ShapePaths.{Step, PathTo}
use Rattle.word_lowering.proofs.HandlesPut.{LeavesHandle}
use Rattle.word_lowering.proofs.HandleRows.{IsHandled, homes_then, handle_put_at}
use Rattle.word_lowering.proofs.RowsLeft.{IsLeft, handle_beside}
use Rattle.word_lowering.proofs.ResizedWorlds.{AreAlike, answered, IsBeside, IsResized, resized_world}

-- what a path leads to is no deeper
step_depth : (s : Shape) (i o : ℕ) (t : Shape) → Step s i o t → depth t < depth s
step_depth (row n s) i o t step = let e = ap depth step.2 in omega (arith, e)
step_depth (parts ss) i o t step = let h = nth_depth ss i t step.0 in omega (arith, h)
step_depth s i o t step = absurd step

path_depth : (s : Shape) (path : List ℕ) (o : ℕ) (t : Shape) → PathTo s path o t → depth t ≤ depth s
path_depth s [] o t way = let e = ap depth way.1 in omega (arith, e)
path_depth s (i ∷ path) o t way =
    let h = step_depth s i way.1 way.0 way.3 in
    let r = path_depth way.0 path way.2 t way.4 in
    omega (arith, h, r)

module _ (StandsFixed : (place : ℕ) → List ℕ → Type 0) (Homes : Home → Type 0) (apart : (g h : Home) → Homes g → Homes h → SameOrApart g h) where
  -- ---- homes hold in a world that is alike

  module _ (a b : World) (same : AreAlike b a) where
    held_alike : (base : Base) (v : Value) → HoldsAt a base v → HoldsAt b base v
    held_alike (Standing level n) v g =
        (in_frame a b level n same.frames g.0, ap (λ fs. slot_of (frame_in (slice_get fs level)) n) same.frames ∙ g.1)
    held_alike (Waiting level node) v g = (
      (g.0.0, ap (λ fs. slice_get fs level) same.frames ∙ g.0.1),
      ap (λ fs. temporary_in (frame_in (slice_get fs level)).temporaries node) same.frames ∙ g.1,
    )
    held_alike (InHand i) v g = ap (λ hand. slice_get hand i) same.hand ∙ g
    held_alike (InBlock k) v g = g
    held_alike (InException i) v g = g
    held_alike (Made u) v g = g

    pub homes_alike : (d : Blocks) (m : Memory) → HomesHold StandsFixed Homes apart d a m → HomesHold StandsFixed Homes apart d b m
    homes_alike d m x = record {
      sized = x.sized;
      heap = subst (λ h. HasHeap StandsFixed d h m) (sym same.heap) x.heap;
      homes = λ h i.
          let y = x.homes h i in
          record { value = y.value; holds = held_alike h.base y.value y.holds; stored = y.stored; elsewhere = y.elsewhere };
    }

  -- ---- the text or the sequence at a location

  -- it doesn't stand in a block
  abbrev pub IsAway : Blocks → Location → (to : ℕ) → Shape → (j : ℕ) → Type 0
  IsAway d l to s j = (f : FromBlock StandsFixed Homes apart d l to s) → f.block ≢ j

  -- no text stands in a block of characters, and no sequence among its own elements
  pub text_away : (d : Blocks) (l : Location) (to j : ℕ) → d.inside j ≡ Bytes → IsAway d l to block j
  text_away d l to j is f same = no_bytes (sym f.leads.inside ∙ ap d.inside same ∙ is)
    where
      no_bytes : Each f.leads.of ≡ Bytes → ⊥
      no_bytes e = cc

  pub sequence_away : (d : Blocks) (l : Location) (to : ℕ) (s : Shape) (j : ℕ) → d.inside j ≡ Each s → IsAway d l to (elements s) j
  sequence_away d l to s j is f same =
      let one : f.leads.of ≡ s = each_same f.leads.of s (sym f.leads.inside ∙ ap d.inside same ∙ is) in
      let deep = path_depth f.leads.of f.leads.rest f.leads.offset (elements s) f.leads.way in
      let e = ap depth one in
      omega (arith, deep, e)
    where
      each_same : (s t : Shape) → Each s ≡ Each t → s ≡ t
      each_same s t e = ap of_each e
        where
          of_each : Holding → Shape
          of_each Bytes = t
          of_each (Each u) = u

  module _ (law : MemoryLaw) (d : Blocks) (w : World) (m : Memory) (x : HomesHold StandsFixed Homes apart d w m) (l : Location) (to n : ℕ) (k : Option ℕ)
      (is : load w l ≡ Handle n k) (s : Shape) (handled : IsHandled s) (leads : LeadsTo StandsFixed Homes apart d l to s)
      (there : (j : ℕ) → k ≡ Some j → (b : Block) × (block_at w.heap j ≡ Some b)) (away : (j : ℕ) → k ≡ Some j → IsAway d l to s j)
    where
      -- somebody owns what stands there
      abbrev pub MayWrite : LeadsTo StandsFixed Homes apart d l to s → Type 0
      MayWrite (inl f) = IsOwn l.base
      MayWrite (inr f) = Unit {0}

      -- it doesn't stand in its own block
      pub beside : (j : ℕ) → k ≡ Some j → IsBeside l.base j
      beside j e = by leads
        where
          not_in : (base : Base) (v : Value) → HoldsAt w base v → IsBeside base j
          not_in (Standing level i) v g = tt
          not_in (Waiting level i) v g = tt
          not_in (InHand i) v g = tt
          not_in (InException i) v g = tt
          not_in (Made u) v g = tt
          not_in (InBlock i) v g = absurd g

          by : LeadsTo StandsFixed Homes apart d l to s → IsBeside l.base j
          by (inl f) =
              let at = x.homes f.home f.among in
              not_in l.base at.value (subst (λ c. HoldsAt w c at.value) (sym f.base) at.holds)
          by (inr f) = subst (λ c. IsBeside c j) (sym f.base) (away j e f)

      module _ (length_then bytes : ℕ) (c : Contents) where
        abbrev has : Bool
        has = has_place w k bytes

        abbrev heap_then : Heap
        heap_then = heap_resized has w.heap k bytes c

        abbrev world_then : World
        world_then = record w { heap = heap_then }

        -- what stands in another block stays
        other_slot : (i : ℕ) → ((j : ℕ) → k ≡ Some j → i ≢ j) → (b : Block) → block_at w.heap i ≡ Some b
            → slice_get heap_then.blocks i ≡ slice_get w.heap.blocks i
        other_slot i ne b at = by k ne has
          where
            born : slice_get (taken w.heap (class_for bytes w.heap.classes) c).blocks i ≡ slice_get w.heap.blocks i
            born = get_before w.heap.blocks (Some (record { class = class_for bytes w.heap.classes; contents = c })) i (there_below w.heap.blocks i b at)

            gone : (j : ℕ) → i ≢ j → (o : Option Block) → slice_get (without (taken w.heap (class_for bytes w.heap.classes) c) j o).blocks i
                ≡ slice_get (taken w.heap (class_for bytes w.heap.classes) c).blocks i
            gone j away None = refl
            gone j away (Some z) = set_other (taken w.heap (class_for bytes w.heap.classes) c).blocks j i None away

            by : (k : Option ℕ) → ((j : ℕ) → k ≡ Some j → i ≢ j) → (p : Bool)
                → slice_get (heap_resized p w.heap k bytes c).blocks i ≡ slice_get w.heap.blocks i
            by None ne true = refl
            by None ne false = born
            by (Some j) ne true = set_other w.heap.blocks j i (refilled (block_at w.heap j) c) (ne j refl)
            by (Some j) ne false =
                gone j (ne j refl) (block_at (taken w.heap (class_for bytes w.heap.classes) c) j) ∙ born

        other_block : (i : ℕ) → ((j : ℕ) → k ≡ Some j → i ≢ j) → (b : Block) → block_at w.heap i ≡ Some b → block_at heap_then i ≡ block_at w.heap i
        other_block i ne b at = ap flat (other_slot i ne b at)

        pub live_then : is_there w l ≡ true → is_there world_then l ≡ true
        live_then live = by leads
          where
            not_in : (base : Base) (v : Value) → HoldsAt w base v → leads_from world_then base l.path ≡ leads_from w base l.path
            not_in (Standing level i) v g = refl
            not_in (Waiting level i) v g = refl
            not_in (InHand i) v g = refl
            not_in (InException i) v g = refl
            not_in (Made u) v g = refl
            not_in (InBlock i) v g = absurd g

            by : LeadsTo StandsFixed Homes apart d l to s → is_there world_then l ≡ true
            by (inl f) =
                let at = x.homes f.home f.among in
                not_in l.base at.value (subst (λ c. HoldsAt w c at.value) (sym f.base) at.holds) ∙ live
            by (inr f) =
                let seen = block_seen StandsFixed Homes apart d w m x l to s f live in
                ap (λ b. leads_from world_then b l.path) f.base
                ∙ ap (is_so_in (has_item l.path)) (other_slot f.block (λ j e. away j e f) seen.read.block seen.read.there)
                ∙ sym (ap (λ b. leads_from w b l.path) f.base) ∙ live

        whole_same : is_there w l ≡ true → whole_at world_then l.base ≡ whole_at w l.base
        whole_same live = by leads
          where
            not_in : (base : Base) (v : Value) → HoldsAt w base v → whole_at world_then base ≡ whole_at w base
            not_in (Standing level i) v g = refl
            not_in (Waiting level i) v g = refl
            not_in (InHand i) v g = refl
            not_in (InException i) v g = refl
            not_in (Made u) v g = refl
            not_in (InBlock i) v g = absurd g

            by : LeadsTo StandsFixed Homes apart d l to s → whole_at world_then l.base ≡ whole_at w l.base
            by (inl f) =
                let at = x.homes f.home f.among in
                not_in l.base at.value (subst (λ c. HoldsAt w c at.value) (sym f.base) at.holds)
            by (inr f) =
                let seen = block_seen StandsFixed Homes apart d w m x l to s f live in
                ap (whole_at world_then) f.base ∙ ap contents_value (other_block f.block (λ j e. away j e f) seen.read.block seen.read.there)
                ∙ sym (ap (whole_at w) f.base)

        -- the handle is put
        module _ (other : Memory) (y : LeavesHandle StandsFixed d heap_then m other to s length_then bytes (block_resized has w.heap k))
            (live_first : is_there w l ≡ true)
          where
            abbrev pub handle_then : Value
            handle_then = Handle length_then (block_resized has w.heap k)

            abbrev pub PutThen : Type 0
            PutThen =
                Put StandsFixed Homes apart y.after world_then y.middle
                (homes_then StandsFixed law Homes apart d w m x heap_then other to s length_then bytes (block_resized has w.heap k) y) l handle_then other

            pub put_by : (q : LeadsTo StandsFixed Homes apart d l to s) → MayWrite q → PutThen
            put_by (inl f) mine =
                handle_put_at StandsFixed law Homes apart d w m x heap_then other to s length_then bytes (block_resized has w.heap k) y handled l (inl f)
                (live_then live_first) (inl f) mine
            put_by (inr f) mine =
                handle_put_at StandsFixed law Homes apart d w m x heap_then other to s length_then bytes (block_resized has w.heap k) y handled l (inr f)
                (live_then live_first)
                (inr (record { block = f.block; base = f.base; leads = leads_later d y.after y.ahead f.block l.path to s f.leads })) tt

        -- ---- the world of the deed

        module _ (after : World) (empty : length_then ≡ 0 → bytes ≡ 0) (h : answered (perform (resized length_then bytes c l) w) ≡ Some after) where
          block_is : block_of (load w l) ≡ k
          block_is = ap block_of is

          done : IsResized w length_then bytes c l after
          done =
              resized_world w length_then bytes c l after (λ e. none bytes (empty e)) (λ j e p. beside j (sym block_is ∙ e))
              (λ j e. there j (sym block_is ∙ e)) h
            where
              suc_zero : (i : ℕ) → suc i ≡ 0 → ⊥
              suc_zero i e = omega (arith, e)

              none : (i : ℕ) → i ≡ 0 → has_place w (block_of (load w l)) i ≡ true
              none zero e = refl
              none (suc i) e = absurd (suc_zero i e)

          abbrev Then : Option ℕ → World
          Then j = record w { heap = heap_resized (has_place w j bytes) w.heap j bytes c }

          pub alike : AreAlike after (store world_then l (Handle length_then (block_resized has w.heap k)))
          alike = subst (λ j. AreAlike after (store (Then j) l (Handle length_then (block_resized (has_place w j bytes) w.heap j)))) block_is done.is

          pub live_before : is_there w l ≡ true
          live_before = (and_parts (is_there w l) (is_whole w (load w l)) done.seen).0

          -- there is room where another block is taken
          pub room_there : has ≡ false → has_room w.heap (class_for bytes w.heap.classes) ≡ true
          room_there = subst (λ j. has_place w j bytes ≡ false → has_room w.heap (class_for bytes w.heap.classes) ≡ true) block_is done.room

          pub resized_row : (other : Memory)
              → LeavesHandle StandsFixed d heap_then m other to s length_then bytes (block_resized has w.heap k) → MayWrite leads
              → IsLeft StandsFixed Homes apart d m after other to 8
          resized_row other y mine =
              let p = put_by other y live_before leads mine in
              record {
                later = p.after;
                ahead = later_more d y.after p.after y.ahead p.ahead;
                holds = homes_alike (store world_then l (Handle length_then (block_resized has w.heap k))) after alike p.after other p.holds;
                rest = handle_beside StandsFixed d heap_then m other to s length_then bytes (block_resized has w.heap k) y;
              }

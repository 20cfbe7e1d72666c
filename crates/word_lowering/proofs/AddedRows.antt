-- One more element comes to a sequence: room is made for it by a routine, and then its bits come. What holds of homes then is what holds in the
-- meaning's world behind the deed.
use Rattle.std.proofs.Common.{◌≡◌, ◌≢◌, inl, inr, ℕ, zero, suc, ◌+◌, ◌*◌, ◌<◌, ◌≤◌, List, [], ◌∷◌, ◌++◌, length, Option, Some, None, Bool, true, false}
use Rattle.std.proofs.Common.{refl, sym, ap, subst, ◌∙◌, arith}
use Rattle.std.specs.Prelude.{slice_set}
use Rattle.std.proofs.lemmas.Option.{none-some, same_Some}
use Rattle.nim_meaning.specs.Values.{Value, Handle, Base, Standing, Waiting, InHand, InBlock, InException, Made, Location, Values, Nil, More, count, joined}
use Rattle.nim_meaning.specs.Values.{put_part}
use Rattle.nim_meaning.specs.Heap.{Contents, Elements, Block, Heap, flat, block_at, class_for, taken, given, refilled, with_contents}
use Rattle.nim_meaning.specs.State.{World, whole_at, load, stored, store, contents_value, with_value_in, new_contents, is_there}
use Rattle.nim_meaning.specs.Lifted.{has_place}
use Rattle.flat_code.specs.Shapes.{Shape, elements}
use Rattle.rv32_isa.specs.Image.{heap_at}
use Rattle.word_code.specs.Memory.{Memory, own_data_at}
use Rattle.word_code.specs.RoutineTable.{Beside, IsRewritten}
use Rattle.word_code.proofs.ForCallers.{MemoryLaw, Sized, sizes_more}
use Rattle.heap_memory.specs.HeapBlocks.{size_at}
use Rattle.heap_memory.specs.HeapState.{Standing as BlockStanding}
use Rattle.heap_memory.specs.HeapUse.{IsThere}
use Rattle.heap_memory.proofs.ForCallers.{is_there as is_there_at}
use Rattle.word_lowering.proofs.ShapeFacts.{shape_bytes}
use Rattle.word_lowering.proofs.Blocks.{Inside as Holding, Bytes, Each, Blocks, AreLater, Holds_for, IsPlace, Stored, IsBlockThere, IfBlockThere}
use Rattle.word_lowering.proofs.BlocksBorn.{later_more}
use Rattle.word_lowering.proofs.BaseValues.{HoldsAt}
use Rattle.word_lowering.proofs.BlockHomes.{Home, SameOrApart, HomesHold, FromBlock, LeadsTo, IsChangedInside, with_heap_after}
use Rattle.word_lowering.proofs.BlockLists.{get_here, set_same, there_below}
use Rattle.word_lowering.proofs.HeapsThen.{heap_on}
use Rattle.word_lowering.proofs.BlocksMade.{heap_resized, block_resized, HasRoom, two_memories}
use Rattle.word_lowering.proofs.HandlesPut.{LeavesHandle}
use Rattle.word_lowering.proofs.SequencesPut.{IsAdded, element_put}
use Rattle.word_lowering.proofs.RowsLeft.{IsBesidePut, IsLeft, handle_beside}
use Rattle.word_lowering.proofs.ResizedWorlds.{AreAlike, IsBeside, set_swap, given_contents, given_other, contents_other, same_put}
use Rattle.word_lowering.proofs.ResizedRows.{homes_alike, IsAway, MayWrite, PutThen, put_by}

-- ---- a block gets other contents twice

set_twice : {A : Type 0} (xs : List A) (k : ℕ) (x y : A) → slice_set (slice_set xs k x) k y ≡ slice_set xs k y
set_twice [] k x y = refl
set_twice (z ∷ zs) zero x y = refl
set_twice (z ∷ zs) (suc k) x y = ap (λ ws. z ∷ ws) (set_twice zs k x y)

pub set_end : {A : Type 0} (xs : List A) (x y : A) → slice_set (xs ++ x ∷ []) (length xs) y ≡ xs ++ y ∷ []
set_end [] x y = refl
set_end (z ∷ zs) x y = ap (λ ws. z ∷ ws) (set_end zs x y)

refilled_twice : (o : Option Block) (c e : Contents) → refilled (refilled o c) e ≡ refilled o e
refilled_twice None c e = refl
refilled_twice (Some b) c e = refl

contents_twice : (heap : Heap) (k : ℕ) (b : Block) → block_at heap k ≡ Some b → (c e : Contents)
    → with_contents (with_contents heap k c) k e ≡ with_contents heap k e
contents_twice heap k b at c e =
    ap (λ o. record heap { blocks = slice_set (slice_set heap.blocks k (refilled (block_at heap k) c)) k (refilled o e) })
    (ap flat (set_same heap.blocks k (refilled (block_at heap k) c) (there_below heap.blocks k b at)))
    ∙ ap (λ o. record heap { blocks = slice_set (slice_set heap.blocks k (refilled (block_at heap k) c)) k o }) (refilled_twice (block_at heap k) c e)
    ∙ ap (λ bs. record heap { blocks = bs }) (set_twice heap.blocks k (refilled (block_at heap k) c) (refilled (block_at heap k) e))

pub contents_taken : (heap : Heap) (class : ℕ) (c e : Contents) → with_contents (taken heap class c) (length heap.blocks) e ≡ taken heap class e
contents_taken heap class c e =
    ap (λ o. record (taken heap class c) { blocks = slice_set (taken heap class c).blocks (length heap.blocks) (refilled (flat o) e) })
    (get_here heap.blocks (Some (record { class = class; contents = c })))
    ∙ ap (λ bs. record (taken heap class c) { blocks = bs })
    (set_end heap.blocks (Some (record { class = class; contents = c })) (Some (record { class = class; contents = e })))

pub contents_resized : (p : Bool) (heap : Heap) (k : Option ℕ) (bytes : ℕ) (c e : Contents)
    → ((i : ℕ) → k ≡ Some i → (b : Block) × (block_at heap i ≡ Some b)) → (j : ℕ) → block_resized p heap k ≡ Some j
    → with_contents (heap_resized p heap k bytes c) j e ≡ heap_resized p heap k bytes e
contents_resized true heap None bytes c e there j is = absurd (none-some j is)
contents_resized true heap (Some k) bytes c e there j is =
    let at = there k refl in
    subst (λ i. with_contents (with_contents heap k c) i e ≡ with_contents heap k e) (same_Some k j is) (contents_twice heap k at.0 at.1 c e)
contents_resized false heap None bytes c e there j is =
    subst (λ i. with_contents (taken heap (class_for bytes heap.classes) c) i e ≡ taken heap (class_for bytes heap.classes) e)
    (same_Some (length heap.blocks) j is) (contents_taken heap (class_for bytes heap.classes) c e)
contents_resized false heap (Some k) bytes c e there j is =
    let at = there k refl in
    let less = there_below heap.blocks k at.0 at.1 in
    subst (λ i. with_contents (heap_on heap (class_for bytes heap.classes) c k) i e ≡ heap_on heap (class_for bytes heap.classes) e k)
    (same_Some (length heap.blocks) j is)
    (given_contents (taken heap (class_for bytes heap.classes) c) k (length heap.blocks) (λ f. absurd (omega (arith, f, less))) e
    ∙ ap (λ h. given h k) (contents_taken heap (class_for bytes heap.classes) c e))

-- ---- other contents, beside what a location leads into

contents_swap : (heap : Heap) (i j : ℕ) → i ≢ j → (a e : Contents)
    → with_contents (with_contents heap i a) j e ≡ with_contents (with_contents heap j e) i a
contents_swap heap i j ne a e =
    ap (λ o. record heap { blocks = slice_set (slice_set heap.blocks i (refilled (block_at heap i) a)) j (refilled o e) })
    (contents_other heap j i ne a)
    ∙ ap (λ bs. record heap { blocks = bs }) (set_swap heap.blocks i j (refilled (block_at heap i) a) (refilled (block_at heap j) e) (λ f. ne (sym f)))
    ∙ sym (ap (λ o. record heap { blocks = slice_set (slice_set heap.blocks j (refilled (block_at heap j) e)) i (refilled o a) })
    (contents_other heap i j (λ f. ne (sym f)) e))

value_swap : (heap : Heap) (i j : ℕ) → i ≢ j → (o : Option Block) (v : Value) (e : Contents)
    → with_contents (with_value_in heap i o v) j e ≡ with_value_in (with_contents heap j e) i o v
value_swap heap i j ne None v e = refl
value_swap heap i j ne (Some b) v e = contents_swap heap i j ne (new_contents b.contents v) e

pub contents_put : (path : List ℕ) (v : Value) (w : World) (heap : Heap) (j : ℕ) (e : Contents) (base : Base) → IsBeside base j
    → with_contents (stored (record w { heap = heap }) base (put_part (whole_at (record w { heap = heap }) base) path v)).heap j e
    ≡ (stored (record w { heap = with_contents heap j e }) base (put_part (whole_at (record w { heap = with_contents heap j e }) base) path v)).heap
contents_put path v w heap j e (Standing level n) ne = refl
contents_put path v w heap j e (Waiting level n) ne = refl
contents_put path v w heap j e (InBlock i) ne =
    value_swap heap i j ne (block_at heap i) (put_part (contents_value (block_at heap i)) path v) e
    ∙ sym (ap (λ o. with_value_in (with_contents heap j e) i o (put_part (contents_value o) path v)) (contents_other heap i j (λ f. ne (sym f)) e))
contents_put path v w heap j e (InHand i) ne = refl
contents_put path v w heap j e (InException i) ne = refl
contents_put path v w heap j e (Made u) ne = refl

-- ---- the block that was made

pub made_there : (p : Bool) (heap : Heap) (k : Option ℕ) (bytes : ℕ) (c : Contents) → ((i : ℕ) → k ≡ Some i → (b : Block) × (block_at heap i ≡ Some b))
    → (j : ℕ) → block_resized p heap k ≡ Some j → (b : Block) × (block_at (heap_resized p heap k bytes c) j ≡ Some b) × (b.contents ≡ c)
made_there true heap None bytes c there j is = absurd (none-some j is)
made_there true heap (Some k) bytes c there j is =
    let at = there k refl in
    subst (λ i. (b : Block) × (block_at (with_contents heap k c) i ≡ Some b) × (b.contents ≡ c)) (same_Some k j is) (
      record at.0 { contents = c },
      ap flat (set_same heap.blocks k (refilled (block_at heap k) c) (there_below heap.blocks k at.0 at.1)) ∙ ap (λ o. refilled o c) at.1,
      refl,
    )
made_there false heap None bytes c there j is =
    subst (λ i. (b : Block) × (block_at (taken heap (class_for bytes heap.classes) c) i ≡ Some b) × (b.contents ≡ c)) (same_Some (length heap.blocks) j is) (
      record { class = class_for bytes heap.classes; contents = c },
      ap flat (get_here heap.blocks (Some (record { class = class_for bytes heap.classes; contents = c }))),
      refl,
    )
made_there false heap (Some k) bytes c there j is =
    let at = there k refl in
    let less = there_below heap.blocks k at.0 at.1 in
    subst (λ i. (b : Block) × (block_at (heap_on heap (class_for bytes heap.classes) c k) i ≡ Some b) × (b.contents ≡ c))
    (same_Some (length heap.blocks) j is) (
      record { class = class_for bytes heap.classes; contents = c },
      given_other (taken heap (class_for bytes heap.classes) c) k (length heap.blocks) (λ f. absurd (omega (arith, f, less)))
          ∙ ap flat (get_here heap.blocks (Some (record { class = class_for bytes heap.classes; contents = c }))),
      refl,
    )

-- there is one where bytes are wanted
pub some_block : (w : World) (k : Option ℕ) (bytes : ℕ) → 0 < bytes → (j : ℕ) × (block_resized (has_place w k bytes) w.heap k ≡ Some j)
some_block w k zero some = absurd (omega (arith, some))
some_block w None (suc i) some = (length w.heap.blocks, refl)
some_block w (Some k) (suc i) some = by (has_place w (Some k) (suc i))
  where
    by : (p : Bool) → (j : ℕ) × (block_resized p w.heap (Some k) ≡ Some j)
    by true = (k, refl)
    by false = (length w.heap.blocks, refl)

-- a block stays where a value is put beside it
pub block_stays : (path : List ℕ) (v : Value) (w : World) (heap : Heap) (j : ℕ) (base : Base) → IsBeside base j
    → block_at (stored (record w { heap = heap }) base (put_part (whole_at (record w { heap = heap }) base) path v)).heap j ≡ block_at heap j
block_stays path v w heap j (Standing level n) ne = refl
block_stays path v w heap j (Waiting level n) ne = refl
block_stays path v w heap j (InBlock i) ne = by (block_at heap i)
  where
    by : (o : Option Block) → block_at (with_value_in heap i o (put_part (contents_value (block_at heap i)) path v)) j ≡ block_at heap j
    by None = refl
    by (Some b) = contents_other heap j i ne (new_contents b.contents (put_part (contents_value (block_at heap i)) path v))
block_stays path v w heap j (InHand i) ne = refl
block_stays path v w heap j (InException i) ne = refl
block_stays path v w heap j (Made u) ne = refl

-- ---- one more element at a location

module _ (StandsFixed : (place : ℕ) → List ℕ → Type 0) (Homes : Home → Type 0) (apart : (g h : Home) → Homes g → Homes h → SameOrApart g h)
    (law : MemoryLaw) (d : Blocks) (w : World) (m : Memory) (x : HomesHold StandsFixed Homes apart d w m) (l : Location) (to n : ℕ) (k : Option ℕ)
    (is : load w l ≡ Handle n k) (s : Shape) (leads : LeadsTo StandsFixed Homes apart d l to (elements s))
    (there : (j : ℕ) → k ≡ Some j → (b : Block) × (block_at w.heap j ≡ Some b))
    (away : (j : ℕ) → k ≡ Some j → IsAway StandsFixed Homes apart d l to (elements s) j)
    (mine : MayWrite StandsFixed Homes apart law d w m x l to n k is (elements s) tt leads there away leads)
    (some : 0 < shape_bytes s) (all : Values) (count_all : count all ≡ n) (new : Value)
  where
    abbrev size : ℕ
    size = shape_bytes s

    abbrev bytes : ℕ
    bytes = suc n * size

    abbrev has : Bool
    has = has_place w k bytes

    abbrev more : Values
    more = joined all (More new Nil)

    abbrev old_heap : Heap
    old_heap = heap_resized has w.heap k bytes (Elements all)

    pub bytes_some : 0 < bytes
    bytes_some = omega (arith, some)

    -- its block
    abbrev made : (j : ℕ) × (block_resized has w.heap k ≡ Some j)
    made = some_block w k bytes bytes_some

    abbrev j : ℕ
    j = made.0

    abbrev handle_then : Value
    handle_then = Handle (suc n) (block_resized has w.heap k)

    -- the location doesn't lead into it
    pub new_beside : IsBeside l.base j
    new_beside = by has k refl refl made.1
      where
        not_in : (base : Base) (v : Value) → HoldsAt w base v → (i : ℕ) → IsBeside base i
        not_in (Standing level n) v g i = tt
        not_in (Waiting level n) v g i = tt
        not_in (InHand n) v g i = tt
        not_in (InException n) v g i = tt
        not_in (Made u) v g i = tt
        not_in (InBlock n) v g i = absurd g

        from : (i : ℕ) → ((f : FromBlock StandsFixed Homes apart d l to (elements s)) → f.block ≢ i) → IsBeside l.base i
        from i apart_from = by leads
          where
            by : LeadsTo StandsFixed Homes apart d l to (elements s) → IsBeside l.base i
            by (inl f) =
                let at = x.homes f.home f.among in
                not_in l.base at.value (subst (λ c. HoldsAt w c at.value) (sym f.base) at.holds) i
            by (inr f) = subst (λ c. IsBeside c i) (sym f.base) (apart_from f)

        born : (f : FromBlock StandsFixed Homes apart d l to (elements s)) → f.block ≢ length w.heap.blocks
        born f e = let b = f.leads.born in let h = x.heap.born in absurd (omega (arith, e, b, h))

        by : (p : Bool) (q : Option ℕ) → has ≡ p → k ≡ q → block_resized p w.heap q ≡ Some j → IsBeside l.base j
        by true None e f g = absurd (none-some j g)
        by true (Some i) e f g = from j (λ z. away j (f ∙ g) z)
        by false q e f g = from j (subst (λ i. (z : FromBlock StandsFixed Homes apart d l to (elements s)) → z.block ≢ i)
            (same_Some (length w.heap.blocks) j g) born)

    module _ (other : Memory) (y : LeavesHandle StandsFixed d old_heap m other to (elements s) (suc n) bytes (block_resized has w.heap k))
        (live : is_there w l ≡ true) where
      abbrev put : PutThen StandsFixed Homes apart law d w m x l to n k is (elements s) tt leads there away (suc n) bytes (Elements all) other y live
      put = put_by StandsFixed Homes apart law d w m x l to n k is (elements s) tt leads there away (suc n) bytes (Elements all) other y live leads mine

      abbrev put_world : World
      put_world = store (record w { heap = old_heap }) l handle_then

      abbrev held : (b : Block) × (block_at old_heap j ≡ Some b) × (b.contents ≡ Elements all)
      held = made_there has w.heap k bytes (Elements all) there j made.1

      pub held_then : block_at put_world.heap j ≡ Some held.0
      held_then = block_stays l.path handle_then w old_heap j l.base new_beside ∙ held.1

      abbrev at_first : IsBlockThere StandsFixed y.after y.middle j held.0
      at_first = subst (λ o. IfBlockThere StandsFixed y.after y.middle j o) held.1 (y.has.blocks j)

      abbrev at_then : IsBlockThere StandsFixed put.after other j held.0
      at_then = subst (λ o. IfBlockThere StandsFixed put.after other j o) held_then (put.holds.heap.blocks j)

      place_is : IsPlace y.after (elements s) (Some j) y.handle.place
      place_is = subst (λ q. IsPlace y.after (elements s) q y.handle.place) made.1 y.handle.is

      -- its element comes behind the others
      pub standing_place : at_then.standing.place ≡ y.handle.place
      standing_place =
          let z = put.ahead.places j at_then.standing place_is.0 at_then.stands in
          sym z.2 ∙ sym (place_is.2 z.0 z.1)

      pub inside_is : put.after.inside j ≡ Each s
      inside_is = put.ahead.inside j place_is.0 ∙ each (y.after.inside j) place_is.1
        where
          each : (i : Holding) → Holds_for (elements s) i → i ≡ Each s
          each Bytes is = absurd is
          each (Each t) is = ap Each is

      pub room_is : suc (count all) * size ≤ length at_then.standing.payload
      room_is =
          let sized_then = put.holds.sized in
          let first = is_there_at own_data_at old_heap.classes y.after.stands y.middle y.has.kept j at_first.standing at_first.stands y.regions in
          let then = is_there_at own_data_at put_world.heap.classes put.after.stands other put.holds.heap.kept j at_then.standing at_then.stands sized_then in
          let a = first.whole in
          let b = then.whole in
          let r : HasRoom StandsFixed y.after (Some j) y.handle.place bytes
          = subst (λ q. HasRoom StandsFixed y.after q y.handle.place bytes) made.1 y.room in
          let same : at_first.standing ≡ r.0 = same_Some at_first.standing r.0 (sym at_first.stands ∙ r.1) in
          let long = r.3 in
          let p = ap (λ (z : BlockStanding). length z.payload) same in
          let c = ap size_at (at_then.class ∙ sym at_first.class) in
          let q = ap (λ i. suc i * size) count_all in
          omega (arith, a, b, long, p, c, q)

      -- ---- its bits

      module _ (last : Memory) (sized_last : Sized last) (written : IsRewritten other last (y.handle.place + n * size) size)
          (stored : (after : Blocks) → AreLater y.after after → Stored StandsFixed after last (y.handle.place + n * size) s new) where
        pub target_is : y.handle.place + n * size ≡ at_then.standing.place + count all * size
        target_is = let p = standing_place in let q = ap (λ i. i * size) count_all in omega (arith, p, q)

        pub added : IsAdded StandsFixed put.after put_world.heap other last
            (two_memories StandsFixed put.after put_world.heap other last put.holds.heap put.holds.sized sized_last written.sizes.heap) s j held.0
            held_then at_then
            inside_is all held.2 room_is (subst (λ a. IsRewritten other last a size) target_is written) new
            (λ after ahead. subst (λ a. Stored StandsFixed after last a s new) target_is (stored after (later_more y.after put.after after put.ahead ahead)))
        added =
            element_put StandsFixed put.after put_world.heap other last
            (two_memories StandsFixed put.after put_world.heap other last put.holds.heap put.holds.sized sized_last written.sizes.heap) s j held.0
            held_then at_then
            inside_is all held.2 room_is (subst (λ a. IsRewritten other last a size) target_is written) new
            (λ after ahead. subst (λ a. Stored StandsFixed after last a s new) target_is (stored after (later_more y.after put.after after put.ahead ahead)))

        beside_all : IsChangedInside other last
        beside_all = record { long = written.sizes.heap; beside = λ b i words heap. written.beside b i (narrow b i heap) }
          where
            narrow : (b i : ℕ) → Beside b i heap_at (length other.heap) → Beside b i (y.handle.place + n * size) size
            narrow b i = by
                (is_there_at own_data_at put_world.heap.classes put.after.stands other put.holds.heap.kept j at_then.standing at_then.stands put.holds.sized)
              where
                by : IsThere other at_then.standing → Beside b i heap_at (length other.heap) → Beside b i (y.handle.place + n * size) size
                by there (inl h) = let low = there.low in let e = standing_place in inl (omega (arith, low, e, h))
                by there (inr h) =
                    let high = there.high in
                    let e = standing_place in
                    let r = room_is in
                    let q = ap (λ i. i * size) count_all in
                    inr (omega (arith, high, e, r, q, h))

        pub added_row : (after : World) → AreAlike after (store (record w { heap = heap_resized has w.heap k bytes (Elements more) }) l handle_then)
            → IsLeft StandsFixed Homes apart d m after last to 8
        added_row after alike =
            let heap_is : with_contents put_world.heap j (Elements more)
            ≡ (store (record w { heap = heap_resized has w.heap k bytes (Elements more) }) l handle_then).heap
            = contents_put l.path handle_then w old_heap j (Elements more) l.base new_beside
            ∙ ap (λ h. (store (record w { heap = h }) l handle_then).heap)
            (contents_resized has w.heap k bytes (Elements all) (Elements more) there j made.1) in
            let same = same_put l.path handle_then w old_heap (heap_resized has w.heap k bytes (Elements more)) l.base in
            let handle : IsBesidePut m other to 8 = handle_beside StandsFixed d old_heap m other to (elements s) (suc n) bytes (block_resized has w.heap k) y in
            record {
              later = added.after;
              ahead = later_more d y.after added.after y.ahead (later_more y.after put.after added.after put.ahead added.ahead);
              holds = homes_alike StandsFixed Homes apart (record put_world { heap = with_contents put_world.heap j (Elements more) }) after
                  (record { heap = alike.heap ∙ sym heap_is; frames = alike.frames ∙ sym same.0; hand = alike.hand ∙ sym same.1 }) added.after last
                  (with_heap_after StandsFixed Homes apart put.after put_world other put.holds added.after added.ahead last sized_last beside_all
                  (with_contents put_world.heap j (Elements more)) added.has);
              rest = record {
                sizes = sizes_more m other last handle.sizes written.sizes;
                beside = λ b i own heap put.
                    beside_all.beside b i own (subst (λ z. Beside b i heap_at z) (sym handle.sizes.heap) heap) ∙ handle.beside b i own heap put;
              };
            }

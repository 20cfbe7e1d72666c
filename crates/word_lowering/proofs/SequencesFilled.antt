-- A new sequence that has room for its elements gets all of them: what holds of homes then.
use Rattle.nim_meaning.specs.Values.{Values, Handle, Nil, count}
use Rattle.nim_meaning.specs.Heap.{Block, Elements, Heap, block_at, with_contents, class_for, flat}
use Rattle.heap_memory.specs.HeapState.{Standing as BlockStanding}
use Rattle.heap_memory.specs.HeapUse.{IsElsewhere, IsRefilled, IsThere}
use Rattle.heap_memory.proofs.ForCallers.{is_there as block_is_there, refilled}
use Rattle.word_code.specs.RoutineTable.{Beside, IsRewritten}
use Rattle.word_lowering.proofs.Blocks.{Inside as Holding, AreLater, AreStored, Blocks, Each, HasContents, HasHeap, IfBlockThere, IsBlockThere, IsPlace, Bytes}
use Rattle.word_lowering.proofs.Blocks.{Holds_for}
use Rattle.word_lowering.proofs.BlockHomes.{Home, HomesHold, IsChangedInside, SameOrApart, home_bytes, with_heap_after}
use Rattle.word_lowering.proofs.BlocksMade.{HasRoom, block_fresh, heap_fresh, two_memories}
use Rattle.word_lowering.proofs.ResizedWorlds.{AreAlike}
use Rattle.word_lowering.proofs.RowsLeft.{IsBesidePut, IsNew, handle_beside}
use Rattle.word_lowering.proofs.HandlesPut.{LeavesHandle}
use Rattle.std.proofs.Common.{List, Some, ap, arith, inl, inr, length, refl, subst, suc, sym, zero, ℕ, ◌*◌, ◌+◌, ◌∙◌, ◌≡◌, ◌≤◌}
use Rattle.word_code.specs.Memory.{Memory, own_data_at}
use Rattle.word_code.proofs.ForCallers.{MemoryLaw, Sized, sizes_more}
use Rattle.flat_code.specs.Shapes.{Shape, elements}
use Rattle.word_lowering.proofs.HeapChanged.{TwoMemories}
use Rattle.nim_meaning.specs.State.{World}
use Rattle.word_lowering.proofs.AddedRows.{contents_taken}
use Rattle.word_lowering.proofs.FreshRows.{fresh_homes}
use Rattle.word_lowering.proofs.BlockLists.{get_here}
use Rattle.rv32_isa.specs.Image.{heap_at}
use Rattle.word_lowering.proofs.HeapsThen.{heap_filled, later_filled, with_filled}
use Rattle.word_lowering.proofs.ResizedRows.{homes_alike}
use Rattle.word_lowering.proofs.BlocksBorn.{later_more}
use Rattle.word_lowering.proofs.CarriedBeside.{rewritten_carried}
use Rattle.std.proofs.lemmas.Option.{same_Some}
use Rattle.word_lowering.proofs.ShapeFacts.{shape_bytes}
use Rattle.heap_memory.specs.HeapBlocks.{size_at}
use Rattle.word_lowering.proofs.StoredLater.{stored_kept}

-- ---- a block gets other elements

module _ (StandsFixed : (place : ℕ) → List ℕ → Type 0) (d : Blocks) (heap : Heap) (m other : Memory) (t : TwoMemories StandsFixed d heap m other) (s : Shape)
    (k : ℕ) (b : Block) (there : block_at heap k ≡ Some b) (at : IsBlockThere StandsFixed d m k b) (inside : d.inside k ≡ Each s) (vs : Values)
    (room : count vs * shape_bytes s ≤ length at.standing.payload) (written : IsRewritten m other at.standing.place (count vs * shape_bytes s))
    (stored : (after : Blocks) → AreLater d after → AreStored StandsFixed after other at.standing.place s vs)
  where
    pub record AreThere : Type 0 where
      pub after : Blocks
      pub ahead : AreLater d after
      pub has : HasHeap StandsFixed after (with_contents heap k (Elements vs)) other

    pub elements_put : AreThere
    elements_put =
        let start : at.standing.place ≡ at.standing.place + 0 = omega arith in
        let r : IsRefilled own_data_at heap.classes d.stands k at.standing other
        = refilled own_data_at heap.classes d.stands m t.has.kept t.sized other t.sized_after k at.standing 0 (count vs * shape_bytes s) at.stands
        (omega (arith, room)) (subst (λ a. IsRewritten m other a (count vs * shape_bytes s)) start written) in
        let y : BlockStanding = record at.standing { payload = r.payload } in
        let ahead : AreLater d (with_filled d k y) = later_filled StandsFixed d heap m other t k b there y at refl refl refl refl (Elements vs) in
        let l = r.long in
        record {
          after = with_filled d k y;
          ahead = ahead;
          has = heap_filled StandsFixed d heap m other t k b there y at refl refl refl refl (Elements vs) r.heap
              (subst (λ i. HasContents StandsFixed (with_filled d k y) other y i (Elements vs)) (sym inside)
              (stored (with_filled d k y) ahead, omega (arith, l, room)));
        }

-- ---- a new sequence

module _ (StandsFixed : (place : ℕ) → List ℕ → Type 0) (Homes : Home → Type 0) (apart : (g h : Home) → Homes g → Homes h → SameOrApart g h)
    (law : MemoryLaw) (d : Blocks) (w : World) (m : Memory) (x : HomesHold StandsFixed Homes apart d w m) (s : Shape) (n bytes : ℕ) (other : Memory) (to : ℕ)
    (y : LeavesHandle StandsFixed d (heap_fresh w.heap bytes (Elements Nil)) m other to (elements s) n bytes (block_fresh w.heap bytes))
    (elsewhere : IsElsewhere own_data_at m to 8) (away : (h : Home) → Homes h → Beside h.at (home_bytes h) to 8) (after : World) (vs : Values)
    (alike : AreAlike after (record w { heap = heap_fresh w.heap bytes (Elements vs) })) (long : count vs ≡ n) (size : n * shape_bytes s ≡ bytes)
  where
    -- the block is there, and empty
    homes_now : HomesHold StandsFixed Homes apart y.after (record w { heap = heap_fresh w.heap bytes (Elements Nil) }) other
    homes_now = fresh_homes StandsFixed Homes apart law d w m x (elements s) n bytes (Elements Nil) other to y elsewhere away

    -- ---- where there are elements

    module _ (j : ℕ) (is_block : block_fresh w.heap bytes ≡ Some j) (last : Memory) (sized_last : Sized last)
        (written : IsRewritten other last y.handle.place bytes)
        (stored : (later : Blocks) → AreLater y.after later → AreStored StandsFixed later last y.handle.place s vs)
        (b : Block) (there : block_at (heap_fresh w.heap bytes (Elements Nil)) j ≡ Some b)
        (filled_heap : with_contents (heap_fresh w.heap bytes (Elements Nil)) j (Elements vs) ≡ heap_fresh w.heap bytes (Elements vs)) where
      abbrev heap_now : Heap
      heap_now = heap_fresh w.heap bytes (Elements Nil)

      abbrev world_now : World
      world_now = record w { heap = heap_fresh w.heap bytes (Elements Nil) }

      at_now : IsBlockThere StandsFixed y.after other j b
      at_now = subst (λ o. IfBlockThere StandsFixed y.after other j o) there (homes_now.heap.blocks j)

      is_place : IsPlace y.after (elements s) (Some j) y.handle.place
      is_place = subst (λ q. IsPlace y.after (elements s) q y.handle.place) is_block y.handle.is

      standing_place : y.handle.place ≡ at_now.standing.place
      standing_place = is_place.2 at_now.standing at_now.stands

      inside_is : y.after.inside j ≡ Each s
      inside_is = each (y.after.inside j) is_place.1
        where
          each : (i : Holding) → Holds_for (elements s) i → i ≡ Each s
          each Bytes is = absurd is
          each (Each t) is = ap Each is

      standing_there : IsThere other at_now.standing
      standing_there = block_is_there own_data_at heap_now.classes y.after.stands other homes_now.heap.kept j at_now.standing at_now.stands homes_now.sized

      -- it has room for them
      room_is : count vs * shape_bytes s ≤ length at_now.standing.payload
      room_is =
          let before = block_is_there own_data_at heap_now.classes y.after.stands y.middle y.has.kept j at_first.standing at_first.stands y.regions in
          let a = before.whole in
          let c = standing_there.whole in
          let r : HasRoom StandsFixed y.after (Some j) y.handle.place bytes = subst (λ q. HasRoom StandsFixed y.after q y.handle.place bytes) is_block y.room in
          let same : at_first.standing ≡ r.0 = same_Some at_first.standing r.0 (sym at_first.stands ∙ r.1) in
          let p = ap (λ (z : BlockStanding). length z.payload) same in
          let enough = r.3 in
          let classes = ap size_at (at_now.class ∙ sym at_first.class) in
          let e = ap (λ i. i * shape_bytes s) long in
          omega (arith, a, c, p, enough, classes, e, size)
        where
          at_first : IsBlockThere StandsFixed y.after y.middle j b
          at_first = subst (λ o. IfBlockThere StandsFixed y.after y.middle j o) there (y.has.blocks j)

      bytes_is : bytes ≡ count vs * shape_bytes s
      bytes_is = sym size ∙ ap (λ i. i * shape_bytes s) (sym long)

      written_there : IsRewritten other last at_now.standing.place (count vs * shape_bytes s)
      written_there = subst (IsRewritten other last at_now.standing.place) bytes_is (subst (λ a. IsRewritten other last a bytes) standing_place written)

      abbrev two : TwoMemories StandsFixed y.after heap_now other last
      two = two_memories StandsFixed y.after heap_now other last homes_now.heap homes_now.sized sized_last written.sizes.heap

      filled : AreThere StandsFixed y.after heap_now other last two s j b there at_now inside_is vs room_is written_there
          (λ later ahead. subst (λ a. AreStored StandsFixed later last a s vs) standing_place (stored later ahead))
      filled =
          elements_put StandsFixed y.after heap_now other last two s j b there at_now inside_is vs room_is written_there
          (λ later ahead. subst (λ a. AreStored StandsFixed later last a s vs) standing_place (stored later ahead))

      in_heap : (heap_at ≤ y.handle.place) × (y.handle.place + bytes ≤ heap_at + length other.heap)
      in_heap =
          let low = standing_there.low in
          let high = standing_there.high in
          let e = standing_place in
          let r = room_is in
          let b = bytes_is in
          (omega (arith, low, e), omega (arith, high, e, r, b))

      beside_all : IsChangedInside other last
      beside_all = record { long = written.sizes.heap; beside = λ a i words heap. written.beside a i (narrow a i heap) }
        where
          narrow : (a i : ℕ) → Beside a i heap_at (length other.heap) → Beside a i y.handle.place bytes
          narrow a i (inl h) = let p = in_heap in inl (omega (arith, h, p.0))
          narrow a i (inr h) = let p = in_heap in inr (omega (arith, h, p.1))

      put_away : Beside to 8 y.handle.place bytes
      put_away = by elsewhere.heap
        where
          long_heap : length other.heap ≡ length m.heap
          long_heap = (handle_beside StandsFixed d heap_now m other to (elements s) n bytes (block_fresh w.heap bytes) y).sizes.heap

          by : Beside heap_at (length m.heap) to 8 → Beside to 8 y.handle.place bytes
          by (inl h) = let p = in_heap in let l = long_heap in inr (omega (arith, h, p.1, l))
          by (inr h) = let p = in_heap in inl (omega (arith, h, p.0))

      pub all_new : IsNew StandsFixed Homes apart d m (Handle n (block_fresh w.heap bytes)) after last to 8 (elements s)
      all_new =
          let handle : IsBesidePut m other to 8 = handle_beside StandsFixed d heap_now m other to (elements s) n bytes (block_fresh w.heap bytes) y in
          let inside = beside_all in
          let alike_now : AreAlike after (record world_now { heap = with_contents heap_now j (Elements vs) })
          = subst (λ h. AreAlike after (record w { heap = h })) (sym filled_heap) alike in
          record {
            left = record {
              later = filled.after;
              ahead = later_more d y.after filled.after y.ahead filled.ahead;
              holds = homes_alike StandsFixed Homes apart (record world_now { heap = with_contents heap_now j (Elements vs) }) after alike_now filled.after last
                  (with_heap_after StandsFixed Homes apart y.after world_now other homes_now filled.after filled.ahead last sized_last beside_all
                  (with_contents heap_now j (Elements vs)) filled.has);
              rest = record {
                sizes = sizes_more m other last handle.sizes written.sizes;
                beside = λ a i own heap put.
                    inside.beside a i own (subst (λ z. Beside a i heap_at z) (sym handle.sizes.heap) heap) ∙ handle.beside a i own heap put;
              };
            };
            stored = stored_kept StandsFixed y.after filled.after filled.ahead other last to to (elements s) (Handle n (block_fresh w.heap bytes))
                (rewritten_carried other last y.handle.place bytes to 8 written put_away) y.handle;
          }

    -- ---- whether there are any

    pub filled_new : (last : Memory) (sized_last : Sized last) (written : IsRewritten other last y.handle.place bytes)
        → (bytes ≡ 0 → last ≡ other)
        → (stored : (later : Blocks) → AreLater y.after later → AreStored StandsFixed later last y.handle.place s vs)
        → IsNew StandsFixed Homes apart d m (Handle n (block_fresh w.heap bytes)) after last to 8 (elements s)
    filled_new last sized_last written none stored = by bytes refl
      where
        some : (i : ℕ) → bytes ≡ suc i → IsNew StandsFixed Homes apart d m (Handle n (block_fresh w.heap bytes)) after last to 8 (elements s)
        some i e =
            let b : Block = record { class = class_for (suc i) w.heap.classes; contents = Elements Nil } in
            all_new (length w.heap.blocks) (ap (block_fresh w.heap) e) last sized_last written stored b
            (ap (λ k. block_at (heap_fresh w.heap k (Elements Nil)) (length w.heap.blocks)) e ∙ ap flat (get_here w.heap.blocks (Some b)))
            (subst (λ k. with_contents (heap_fresh w.heap k (Elements Nil)) (length w.heap.blocks) (Elements vs) ≡ heap_fresh w.heap k (Elements vs)) (sym e)
            (contents_taken w.heap (class_for (suc i) w.heap.classes) (Elements Nil) (Elements vs)))

        empty : bytes ≡ 0 → IsNew StandsFixed Homes apart d m (Handle n (block_fresh w.heap bytes)) after last to 8 (elements s)
        empty e =
            let alike_now : AreAlike after (record w { heap = heap_fresh w.heap bytes (Elements Nil) })
            = subst (λ k. AreAlike after (record w { heap = heap_fresh w.heap k (Elements Nil) })) (sym e)
            (subst (λ k. AreAlike after (record w { heap = heap_fresh w.heap k (Elements vs) })) e alike) in
            subst (λ z. IsNew StandsFixed Homes apart d m (Handle n (block_fresh w.heap bytes)) after z to 8 (elements s)) (sym (none e)) (record {
              left = record {
                later = y.after;
                ahead = y.ahead;
                holds = homes_alike StandsFixed Homes apart (record w { heap = heap_fresh w.heap bytes (Elements Nil) }) after alike_now y.after other
                    homes_now;
                rest = handle_beside StandsFixed d (heap_fresh w.heap bytes (Elements Nil)) m other to (elements s) n bytes (block_fresh w.heap bytes) y;
              };
              stored = y.handle;
            })

        by : (k : ℕ) → bytes ≡ k → IsNew StandsFixed Homes apart d m (Handle n (block_fresh w.heap bytes)) after last to 8 (elements s)
        by zero e = empty e
        by (suc i) e = some i e

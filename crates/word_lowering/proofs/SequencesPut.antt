-- What the routines on sequences are given and leave, where memory holds values with blocks.
use Rattle.std.proofs.Common.{◌≡◌, ◌⊎◌, inl, inr, ℕ, zero, suc, ◌+◌, ◌-◌, ◌*◌, ◌^◌, ◌<◌, ◌≤◌, List, length, take}
use Rattle.std.proofs.Common.{Option, Some, None, Bool, true, false, Ok, refl, sym, ap, subst, ◌∙◌, arith}
use Rattle.std.proofs.lemmas.List.{length-take}
use Rattle.std.specs.Prelude.{◌==◌}
use Rattle.std.proofs.lemmas.Bool.{cond-false, cond-true, eq-eqb, ne_eqb, cases_eq}
use Rattle.std.proofs.lemmas.Option.{none-some}
use Rattle.nim_meaning.specs.Values.{Value, Values, Nil, More, count, joined, first_of}
use Rattle.nim_meaning.specs.Heap.{Elements, Block, Heap, block_at, with_contents}
use Rattle.nim_meaning.specs.State.{World}
use Rattle.nim_meaning.specs.Lifted.{has_place}
use Rattle.flat_code.specs.Shapes.{Shape, elements}
use Rattle.rv32_isa.specs.declared.micro_op.Size.TheVariants.{Word}
use Rattle.word_code.specs.Memory.{Memory, may_put, own_data_at}
use Rattle.word_code.specs.RoutineTable.{Beside, IsRewritten}
use Rattle.word_code.proofs.ForCallers.{MemoryLaw, Sized, sizes_same}
use Rattle.heap_memory.specs.HeapState.{Standing}
use Rattle.heap_memory.specs.HeapUse.{IsThere, IsRefilled}
use Rattle.heap_memory.specs.TextRoutines.{AreBytes}
use Rattle.heap_memory.specs.GrowRoutine.{Owned, Growing, place_of, holds_it, IsPresent, MayGrow, kept_of}
use Rattle.heap_memory.specs.AppendRoutine.{IsFilled}
use Rattle.heap_memory.specs.HandleRoutines.{HasHandle, MayHave, AreContentsPut}
use Rattle.heap_memory.specs.SequenceRoutines.{AddingElement, element_added, adds_element}
use Rattle.heap_memory.specs.SequenceRoutines.{Popping, IsPopped, pops_element}
use Rattle.heap_memory.proofs.ForCallers.{is_there, refilled, same_stands}
use Rattle.word_lowering.proofs.RoutineMemory.{same_word}
use Rattle.word_lowering.proofs.ShapeFacts.{shape_bytes}
use Rattle.word_lowering.proofs.Blocks.{Each, Blocks, AreLater, IsHandle, Stored, AreStored, HasContents, IsBlockThere, HasHeap}
use Rattle.word_lowering.proofs.HeapChanged.{TwoMemories}
use Rattle.word_lowering.proofs.HeapsThen.{with_filled, heap_filled, later_filled}
use Rattle.word_lowering.proofs.StoredLater.{all_kept}
use Rattle.word_lowering.proofs.CarriedBeside.{rewritten_carried}
use Rattle.word_lowering.proofs.SequencesGrown.{grown_elements, one_more_stored}
use Rattle.word_lowering.proofs.PayloadBytes.{bytes_front, payload_bytes}
use Rattle.word_lowering.proofs.ContentsGrown.{growing_in, place_in}
use Rattle.word_lowering.proofs.BlocksMade.{heap_resized, block_resized, IsMade, two_memories, is_first, is_next}
use Rattle.word_lowering.proofs.SequenceOperands.{SequenceBlock, elements_there, first_stored, count_first, count_joined}
use Rattle.word_lowering.proofs.HandlesPut.{LeavesHandle, unused, two, left}

module _ (StandsFixed : (place : ℕ) → List ℕ → Type 0) (law : MemoryLaw) (d : Blocks) (w : World) (m : Memory) (has : HasHeap StandsFixed d w.heap m)
    (sized : Sized m) (are : AreBytes m.heap) (s : Shape) where
  -- ---- the sequence that there is

  -- the block of a sequence, if it has one
  abbrev pub block_of_sequence : (n : ℕ) → (k : Option ℕ) → Type 0
  block_of_sequence n None = Unit {0}
  block_of_sequence n (Some k) = SequenceBlock StandsFixed d w m s n k

  abbrev pub present_of : (n : ℕ) → (k : Option ℕ) → block_of_sequence n k → Option Owned
  present_of n None b = None
  present_of n (Some k) b = Some (record { identity = k; block = b.is.standing })

  abbrev pub all_of : (n : ℕ) → (k : Option ℕ) → block_of_sequence n k → Values
  all_of n None b = Nil
  all_of n (Some k) b = b.all

  abbrev size : ℕ
  size = shape_bytes s

  -- its handle stands at an address; none need stand there of what is empty
  abbrev pub OrEmpty : (to n : ℕ) → (k : Option ℕ) → Type 0
  OrEmpty to n None = n ≡ 0
  OrEmpty to n (Some k) = IsHandle d m to (elements s) n (Some k)

  pub or_empty : (to n : ℕ) (k : Option ℕ) → IsHandle d m to (elements s) n k → OrEmpty to n k
  or_empty to n None h = h.empty
  or_empty to n (Some k) h = h

  module _ (to n : ℕ) (k : Option ℕ) (h : OrEmpty to n k) (b : block_of_sequence n k) where
    abbrev pub growing : (wanted : ℕ) → Growing
    growing wanted = growing_in d w.heap (present_of n k b) (n * size) wanted

    pub present_is : IsPresent d.stands (n * size) (present_of n k b)
    present_is = by k h b
      where
        by : (k : Option ℕ) → OrEmpty to n k → (b : block_of_sequence n k) → IsPresent d.stands (n * size) (present_of n k b)
        by None h b = let e = ap (λ i. i * size) h in omega (arith, e)
        by (Some k) h b =
            let there = is_there own_data_at w.heap.classes d.stands m has.kept k b.is.standing b.is.stands sized in (
              b.is.stands,
              b.is.kind,
              b.is.word,
              (elements_there StandsFixed d w m has s n k b).1,
              bytes_front (n * size) b.is.standing.payload (payload_bytes m sized are b.is.standing there),
            )

    pub handle_is : IsHandle d m to (elements s) n k → HasHandle m to n (place_of (present_of n k b))
    handle_is full = by k full b
      where
        by : (k : Option ℕ) → IsHandle d m to (elements s) n k → (b : block_of_sequence n k) → HasHandle m to n (place_of (present_of n k b))
        by None full b = record { long = full.long; there = full.there ∙ ap Ok full.is }
        by (Some k) full b = record { long = full.long; there = full.there ∙ ap Ok (full.is.2 b.is.standing b.is.stands) }

    pub may_grow_so : (wanted : ℕ) → wanted < 2 ^ 32 → MayGrow own_data_at (growing wanted) m
    may_grow_so wanted small =
        record { heap = has.kept; all = has.room; word = small; unused = unused StandsFixed law d w m has sized; present = present_is }

    -- it has no block behind a growth only where no bytes are wanted
    none_empty : (bytes : ℕ) → block_resized (has_place w k bytes) w.heap k ≡ None → bytes ≡ 0
    none_empty bytes = by k bytes
      where
        not_none : {A : Type 0} (j : ℕ) → Some j ≡ None → A
        not_none j e = absurd (none-some j (sym e))

        by : (k : Option ℕ) (bytes : ℕ) → block_resized (has_place w k bytes) w.heap k ≡ None → bytes ≡ 0
        by None zero e = refl
        by None (suc i) e = not_none (length w.heap.blocks) e
        by (Some j) zero e = refl
        by (Some j) (suc i) e = some (has_place w (Some j) (suc i)) e
          where
            some : (c : Bool) → block_resized c w.heap (Some j) ≡ None → suc i ≡ 0
            some true e = not_none j e
            some false e = not_none (length w.heap.blocks) e

    -- ---- what a growth leaves of it, whichever elements there are then

    -- the present elements are at the front of any block that begins with what was kept
    abbrev AreKeptIn : (middle : Memory) → Type 0
    AreKeptIn middle = (after : Blocks) → AreLater d after → (y : Standing) → IsThere middle y
        → take (n * size) y.payload ≡ kept_of (present_of n k b) (n * size)
        → n * size ≤ length y.payload → AreStored StandsFixed after middle y.place s (all_of n k b)

    pub are_kept : (middle : Memory) → Sized middle → AreKeptIn middle
    are_kept middle sized_then = by k h b
      where
        by : (k : Option ℕ) → OrEmpty to n k → (b : block_of_sequence n k) → (after : Blocks) → AreLater d after → (y : Standing)
            → IsThere middle y → take (n * size) y.payload ≡ kept_of (present_of n k b) (n * size)
            → n * size ≤ length y.payload → AreStored StandsFixed after middle y.place s (all_of n k b)
        by None h b after ahead y there front room = tt
        by (Some k) h b after ahead y there front room =
            let e = elements_there StandsFixed d w m has s n k b in
            let there0 = is_there own_data_at w.heap.classes d.stands m has.kept k b.is.standing b.is.stands sized in
            let l : count b.all * size ≤ n * size = (let c = ap (λ i. i * size) b.long in omega (arith, c)) in
            grown_elements m middle sized sized_then b.is.standing y there0 there (n * size) front e.1 room StandsFixed d after ahead s b.all l e.0

    pub kept_long : length (kept_of (present_of n k b) (n * size)) ≡ n * size
    kept_long = by k h b
      where
        by : (k : Option ℕ) → OrEmpty to n k → (b : block_of_sequence n k) → length (kept_of (present_of n k b) (n * size)) ≡ n * size
        by None h b = let e = ap (λ i. i * size) h in omega (arith, e)
        by (Some k) h b =
            let few = (elements_there StandsFixed d w m has s n k b).1 in
            let l = length-take (n * size) b.is.standing.payload in
            omega (arith, l, few)

    pub count_is : count (all_of n k b) ≡ n
    count_is = by k h b
      where
        by : (k : Option ℕ) → OrEmpty to n k → (b : block_of_sequence n k) → count (all_of n k b) ≡ n
        by None h b = sym h
        by (Some k) h b = b.long

    module _ (other : Memory) (length_then bytes : ℕ) (front : List ℕ) (few : length_then < 2 ^ 32)
        (x : AreContentsPut own_data_at (record { to = to; length = length_then; growth = growing bytes; bytes = front }) m other)
        (empty : bytes ≡ 0 → length_then ≡ 0) (vs : Values)
        (holds : (after : Blocks) → AreLater d after → (y : Standing) → IsThere x.middle y → take (length front) y.payload ≡ front → bytes ≤ length y.payload
        → AreStored StandsFixed after x.middle y.place s vs × (count vs * size ≤ length y.payload))
      where
        abbrev pub LeavesSequence : Type 0
        LeavesSequence =
            LeavesHandle StandsFixed d (heap_resized (has_place w k bytes) w.heap k bytes (Elements vs)) m other to (elements s) length_then bytes
            (block_resized (has_place w k bytes) w.heap k)

        pub sequence_put : LeavesSequence
        sequence_put =
            left StandsFixed law d w m has sized other (record { to = to; length = length_then; growth = growing bytes; bytes = front }) x
            (heap_resized (has_place w k bytes) w.heap k bytes (Elements vs)) (elements s) (block_resized (has_place w k bytes) w.heap k) bytes few
            (λ e. empty (none_empty bytes e))
            (by k h b (two StandsFixed law d w m has sized other (record { to = to; length = length_then; growth = growing bytes; bytes = front }) x) x.filled)
          where
            by : (k : Option ℕ) → OrEmpty to n k → (b : block_of_sequence n k) → TwoMemories StandsFixed d w.heap m x.middle
                → IsFilled (holds_it (present_of n k b) bytes) own_data_at (growing_in d w.heap (present_of n k b) (n * size) bytes) front x.middle x.place
                → IsMade StandsFixed d (heap_resized (has_place w k bytes) w.heap k bytes (Elements vs)) x.middle (elements s)
                (block_resized (has_place w k bytes) w.heap k) x.place bytes
            by None h b t f =
                is_first StandsFixed d w m x.middle t x.place bytes front (elements s) (Each s) refl (Elements vs) holds (n * size) f
            by (Some k) h b t f =
                is_next StandsFixed d w m x.middle t x.place bytes front (elements s) (Each s) refl (Elements vs) holds k b.block b.there b.is (n * size)
                b.inside h.is.0 f

    -- ---- one more element, whose bits come later

    module _ (some : 0 < size) (few : suc n < 2 ^ 32) (small : suc n * size < 2 ^ 32) where
      abbrev pub add_use : AddingElement
      add_use = record { to = to; count = n; size = size; growth = growing (suc n * size) }

      pub may_add : IsHandle d m to (elements s) n k → MayHave m to → (adds_element own_data_at).may add_use m
      may_add full can = record { to = handle_is full; has = can; growth = may_grow_so (suc n * size) small; few = few; kept = refl; wanted = refl }

      abbrev pub LeavesRoom : Memory → Type 0
      LeavesRoom other =
          LeavesHandle StandsFixed d (heap_resized (has_place w k (suc n * size)) w.heap k (suc n * size) (Elements (all_of n k b))) m other to (elements s)
          (suc n) (suc n * size) (block_resized (has_place w k (suc n * size)) w.heap k)

      pub room_added : (other : Memory) → AreContentsPut own_data_at (element_added add_use) m other → LeavesRoom other
      room_added other x =
          sequence_put other (suc n) (suc n * size) (kept_of (present_of n k b) (n * size)) few x (λ e. absurd (omega (arith, e, some))) (all_of n k b)
          (λ after ahead y there front room.
          let l = kept_long in
          let c = ap (λ i. i * size) count_is in (
            are_kept x.middle (law.regions _ _ sized x.rest.sizes) after ahead y there
                (subst (λ i. take i y.payload ≡ kept_of (present_of n k b) (n * size)) l front) (omega (arith, room)),
            omega (arith, c, room),
          ))

  -- ---- the last element goes

  module _ (at n k : ℕ) (h : IsHandle d m at (elements s) (suc n) (Some k)) (b : SequenceBlock StandsFixed d w m s (suc n) k) where
    abbrev pub pop_use : Popping
    pop_use = record { at = at; count = n; size = size; place = b.is.standing.place }

    pub may_pop : may_put m at Word ≡ true → pops_element.may pop_use m
    may_pop can =
        let there = is_there own_data_at w.heap.classes d.stands m has.kept k b.is.standing b.is.stands sized in
        let room = (elements_there StandsFixed d w m has s (suc n) k b).1 in
        let high = there.high in
        let most = sized.heap_most in
        record {
          handle = record { long = h.long; there = h.there ∙ ap Ok (h.is.2 b.is.standing b.is.stands) };
          has = can;
          few = h.few;
          ends = omega (arith, room, high, most);
        }

    -- the block with one element less
    abbrev shorter : Blocks
    shorter = with_filled d k b.is.standing

    shorter_stands : (j : ℕ) → shorter.stands j ≡ d.stands j
    shorter_stands j = by (cases_eq j k)
      where
        by : (j ≡ k) ⊎ (j ≡ k → ⊥) → shorter.stands j ≡ d.stands j
        by (inl e) = cond-true (j == k) (Some b.is.standing) (d.stands j) (eq-eqb j k e) ∙ sym b.is.stands ∙ sym (ap d.stands e)
        by (inr ne) = cond-false (j == k) (Some b.is.standing) (d.stands j) (ne_eqb j k ne)

    shorter_heap : HasHeap StandsFixed shorter (with_contents w.heap k (Elements (first_of n b.all))) m
    shorter_heap =
        let e = elements_there StandsFixed d w m has s (suc n) k b in
        let fewer : n ≤ count b.all = (let l = b.long in omega (arith, l)) in
        let c = ap (λ i. i * size) (count_first n b.all fewer) in
        let room = e.1 in
        heap_filled StandsFixed d w.heap m m (two_memories StandsFixed d w.heap m m has sized sized refl) k b.block b.there b.is.standing b.is refl refl refl
        refl (Elements (first_of n b.all)) (same_stands own_data_at w.heap.classes d.stands shorter.stands m shorter_stands has.kept)
        (subst (λ i. HasContents StandsFixed shorter m b.is.standing i (Elements (first_of n b.all))) (sym b.inside) (
          first_stored StandsFixed shorter m s n b.is.standing.place b.all
              (all_kept StandsFixed d shorter ahead m m b.is.standing.place b.is.standing.place s b.all (count b.all) refl
              (λ o x within whole reads. reads) e.0),
          omega (arith, c, room),
        ))
      where
        ahead : AreLater d shorter
        ahead = later_filled StandsFixed d w.heap m m (two_memories StandsFixed d w.heap m m has sized sized refl) k b.block b.there b.is.standing b.is refl
            refl refl refl (Elements (first_of n b.all))

    pub popped : (other : Memory) → IsPopped pop_use m other
        → LeavesHandle StandsFixed d (with_contents w.heap k (Elements (first_of n b.all))) m other at (elements s) n (n * size) (Some k)
    popped other x =
        let room = (elements_there StandsFixed d w m has s (suc n) k b).1 in
        let few = h.few in
        record {
          middle = m;
          regions = sized;
          rest = record { sizes = sizes_same m; beside = λ a i away heap. refl };
          after = shorter;
          ahead = later_filled StandsFixed d w.heap m m (two_memories StandsFixed d w.heap m m has sized sized refl) k b.block b.there b.is.standing b.is
              refl refl refl refl (Elements (first_of n b.all));
          has = shorter_heap;
          put = record { sizes = x.rewritten.sizes; beside = λ a i away. x.rewritten.beside a i (narrower a i away) };
          handle = record {
            place = b.is.standing.place;
            few = omega (arith, few);
            empty = tt;
            near = subst (λ p. p < 2 ^ 32) (h.is.2 b.is.standing b.is.stands) h.near;
            long = x.long;
            there = same_word m other (at + 4) (x.rewritten.beside (at + 4) 4 (inr (omega arith))) ∙ h.there
                ∙ ap Ok (h.is.2 b.is.standing b.is.stands);
            is = (
              h.is.0,
              h.is.1,
              λ y e. ap (place_in b.is.standing.place) (sym (shorter_stands k ∙ b.is.stands) ∙ e),
            );
          };
          room = (b.is.standing, shorter_stands k ∙ b.is.stands, refl, omega (arith, room));
        }
      where
        narrower : (a i : ℕ) → Beside a i at 8 → Beside a i at 4
        narrower a i (inl e) = inl e
        narrower a i (inr e) = inr (omega (arith, e))

-- ---- the bits of a new element come

module _ (StandsFixed : (place : ℕ) → List ℕ → Type 0) (d : Blocks) (heap : Heap) (m other : Memory) (t : TwoMemories StandsFixed d heap m other) (s : Shape)
    (k : ℕ) (b : Block) (there : block_at heap k ≡ Some b) (at : IsBlockThere StandsFixed d m k b) (inside : d.inside k ≡ Each s) (vs : Values)
    (contents : b.contents ≡ Elements vs) (room : suc (count vs) * shape_bytes s ≤ length at.standing.payload)
    (written : IsRewritten m other (at.standing.place + count vs * shape_bytes s) (shape_bytes s)) (new : Value)
    (stored : (after : Blocks) → AreLater d after → Stored StandsFixed after other (at.standing.place + count vs * shape_bytes s) s new)
  where
    pub record IsAdded : Type 0 where
      pub after : Blocks
      pub ahead : AreLater d after
      pub has : HasHeap StandsFixed after (with_contents heap k (Elements (joined vs (More new Nil)))) other

    pub element_put : IsAdded
    element_put =
        let r : IsRefilled own_data_at heap.classes d.stands k at.standing other
        = refilled own_data_at heap.classes d.stands m t.has.kept t.sized other t.sized_after k at.standing (count vs * shape_bytes s) (shape_bytes s) at.stands
        (omega (arith, room)) written in
        let y : Standing = record at.standing { payload = r.payload } in
        let ahead : AreLater d (with_filled d k y) =
        later_filled StandsFixed d heap m other t k b there y at refl refl refl refl (Elements (joined vs (More new Nil))) in
        let old : AreStored StandsFixed d m at.standing.place s vs
        = (subst (λ c. HasContents StandsFixed d m at.standing (Each s) c) contents
        (subst (λ i. HasContents StandsFixed d m at.standing i b.contents) inside at.holds)).0 in
        let kept : AreStored StandsFixed (with_filled d k y) other at.standing.place s vs
        = all_kept StandsFixed d (with_filled d k y) ahead m other at.standing.place at.standing.place s vs (count vs) refl
        (rewritten_carried m other (at.standing.place + count vs * shape_bytes s) (shape_bytes s) at.standing.place (count vs * shape_bytes s) written
        (inl (omega arith))) old in
        let l = r.long in
        let c = ap (λ i. i * shape_bytes s) (count_joined vs (More new Nil)) in
        record {
          after = with_filled d k y;
          ahead = ahead;
          has = heap_filled StandsFixed d heap m other t k b there y at refl refl refl refl (Elements (joined vs (More new Nil))) r.heap
              (subst (λ i. HasContents StandsFixed (with_filled d k y) other y i (Elements (joined vs (More new Nil)))) (sym inside) (
                one_more_stored StandsFixed (with_filled d k y) other at.standing.place s vs new kept (stored (with_filled d k y) ahead),
                omega (arith, l, c, room),
              ));
        }

-- The rows that give a sequence at a location one more element, or make it longer: what holds of homes behind the routine is what holds in the
-- meaning's world behind the deed.
use Rattle.std.proofs.Common.{◌≡◌, ℕ, suc, ◌+◌, ◌-◌, ◌*◌, ◌^◌, ◌<◌, ◌≤◌, List, [], Option, Some, None, refl, sym, ap, subst, ◌∙◌, arith}
use Rattle.std.proofs.lemmas.Option.{none-some, same_Some}
use Rattle.nim_types.specs.Forms.{Form, size as form_size}
use Rattle.nim_meaning.specs.Values.{Value, Handle, Location, Values, Nil, More, joined, repeated, length_of, parts_of}
use Rattle.nim_meaning.specs.Heap.{Elements, Block, block_at}
use Rattle.nim_meaning.specs.State.{World, object_in, contents_value, load, elements_of}
use Rattle.nim_meaning.specs.Deeds.{perform}
use Rattle.nim_meaning.specs.Lifted.{resized}
use Rattle.nim_meaning.specs.OwnedRows.{added}
use Rattle.flat_code.specs.Shapes.{Shape, elements}
use Rattle.word_code.specs.Memory.{Memory, own_data_at}
use Rattle.word_code.specs.RoutineTable.{IsRewritten, ZeroWords}
use Rattle.word_code.proofs.ForCallers.{MemoryLaw, Sized}
use Rattle.heap_memory.specs.TextRoutines.{AreBytes}
use Rattle.heap_memory.specs.HandleRoutines.{AreContentsPut}
use Rattle.heap_memory.specs.SequenceRoutines.{bytes_for, element_added, sequence_resized}
use Rattle.word_lowering.proofs.ShapeFacts.{shape_bytes}
use Rattle.word_lowering.proofs.Blocks.{Each, Blocks, AreLater, Stored}
use Rattle.word_lowering.proofs.BlockHomes.{Home, SameOrApart, HomesHold, LeadsTo}
use Rattle.word_lowering.proofs.SequencesPut.{OrEmpty, block_of_sequence, all_of, count_is, add_use, room_added}
use Rattle.word_lowering.proofs.SequencesResized.{resize_use, longer_put}
use Rattle.word_lowering.proofs.RowsLeft.{IsLeft}
use Rattle.word_lowering.proofs.ResizedWorlds.{answered, behind_answers}
use Rattle.word_lowering.proofs.ResizedRows.{IsAway, sequence_away, MayWrite, alike, live_before, resized_row}
use Rattle.word_lowering.proofs.AddedRows.{added_row}

module _ (StandsFixed : (place : ℕ) → List ℕ → Type 0) (Homes : Home → Type 0) (apart : (g h : Home) → Homes g → Homes h → SameOrApart g h)
    (law : MemoryLaw) (d : Blocks) (w : World) (m : Memory) (x : HomesHold StandsFixed Homes apart d w m) (are : AreBytes m.heap) (l : Location)
    (to n : ℕ) (k : Option ℕ) (is : load w l ≡ Handle n k) (s : Shape) (leads : LeadsTo StandsFixed Homes apart d l to (elements s))
    (h : OrEmpty StandsFixed law d w m x.heap x.sized are s to n k) (b : block_of_sequence StandsFixed law d w m x.heap x.sized are s n k)
    (some : 0 < shape_bytes s)
  where
    abbrev size : ℕ
    size = shape_bytes s

    pub there : (j : ℕ) → k ≡ Some j → (c : Block) × (block_at w.heap j ≡ Some c)
    there j e = by k b e
      where
        by : (q : Option ℕ) → block_of_sequence StandsFixed law d w m x.heap x.sized are s n q → q ≡ Some j → (c : Block) × (block_at w.heap j ≡ Some c)
        by None t e = absurd (none-some j e)
        by (Some i) t e = (t.block, ap (block_at w.heap) (sym (same_Some i j e)) ∙ t.there)

    pub away : (j : ℕ) → k ≡ Some j → IsAway StandsFixed Homes apart d l to (elements s) j
    away j e = sequence_away StandsFixed Homes apart d l to s j (by k b e)
      where
        by : (q : Option ℕ) → block_of_sequence StandsFixed law d w m x.heap x.sized are s n q → q ≡ Some j → d.inside j ≡ Each s
        by None t e = absurd (none-some j e)
        by (Some i) t e = ap d.inside (sym (same_Some i j e)) ∙ t.inside

    abbrev pub Mine : Type 0
    Mine = MayWrite StandsFixed Homes apart law d w m x l to n k is (elements s) tt leads there away leads

    abbrev all : Values
    all = all_of StandsFixed law d w m x.heap x.sized are s n k b

    -- its elements
    pub elements_now : elements_of w (load w l) ≡ all
    elements_now = ap (elements_of w) is ∙ by k b
      where
        by : (q : Option ℕ) (t : block_of_sequence StandsFixed law d w m x.heap x.sized are s n q)
            → elements_of w (Handle n q) ≡ all_of StandsFixed law d w m x.heap x.sized are s n q t
        by None t = refl
        by (Some i) t = ap (λ o. parts_of (contents_value o)) t.there ∙ ap (λ c. parts_of (object_in c)) t.contents

    -- ---- one more

    module _ (of : Form) (same : form_size of ≡ shape_bytes s) (few : suc n < 2 ^ 32) (small : suc n * shape_bytes s < 2 ^ 32) (new : Value)
        (other : Memory) (put : AreContentsPut own_data_at
        (element_added (add_use StandsFixed law d w m x.heap x.sized are s to n k h b some few small)) m other) (after : World)
        (done : answered (perform (added of new l) w) ≡ Some after) (mine : Mine)
      where
        resized_done : answered (perform (resized (suc n) (suc n * shape_bytes s) (Elements (joined all (More new Nil))) l) w) ≡ Some after
        resized_done =
            subst (λ i. answered (perform (resized (suc n) (suc n * i) (Elements (joined all (More new Nil))) l) w) ≡ Some after) same
            (subst (λ vs. answered (perform (resized (suc n) (suc n * form_size of) (Elements (joined vs (More new Nil))) l) w) ≡ Some after) elements_now
            (subst (λ v. answered (perform (resized (suc (length_of v)) (suc (length_of v) * form_size of)
            (Elements (joined (elements_of w (load w l)) (More new Nil))) l) w) ≡ Some after) is
            (sym (behind_answers [] (form_size of) (perform (resized (suc (length_of (load w l))) (suc (length_of (load w l)) * form_size of)
            (Elements (joined (elements_of w (load w l)) (More new Nil))) l) w)) ∙ done)))

        not_none : suc n ≡ 0 → suc n * shape_bytes s ≡ 0
        not_none e = absurd (omega (arith, e))

        -- the element's bits come to the place that the routine gives
        abbrev place : ℕ
        place = (room_added StandsFixed law d w m x.heap x.sized are s to n k h b some few small other put).handle.place

        pub add_row : (last : Memory) → Sized last → IsRewritten other last (place + n * shape_bytes s) (shape_bytes s)
            → ((later : Blocks) → AreLater (room_added StandsFixed law d w m x.heap x.sized are s to n k h b some few small other put).after later
            → Stored StandsFixed later last (place + n * shape_bytes s) s new)
            → IsLeft StandsFixed Homes apart d m after last to 8
        add_row last sized_last written stored =
            added_row StandsFixed Homes apart law d w m x l to n k is s leads there away mine some all
            (count_is StandsFixed law d w m x.heap x.sized are s to n k h b) new other
            (room_added StandsFixed law d w m x.heap x.sized are s to n k h b some few small other put)
            (live_before StandsFixed Homes apart law d w m x l to n k is (elements s) tt leads there away (suc n) (suc n * shape_bytes s)
            (Elements (joined all (More new Nil))) after not_none resized_done)
            last sized_last written stored after
            (alike StandsFixed Homes apart law d w m x l to n k is (elements s) tt leads there away (suc n) (suc n * shape_bytes s)
            (Elements (joined all (More new Nil))) after not_none resized_done)

    -- ---- a longer one

    module _ (long : ℕ) (few : long < 2 ^ 32) (fits : bytes_for long (shape_bytes s) ≡ long * shape_bytes s) (small : long * shape_bytes s < 2 ^ 32)
        (longer : n ≤ long) (v : Value) (other : Memory)
        (put : AreContentsPut own_data_at (sequence_resized (resize_use StandsFixed law d w m x.heap x.sized are s to n k h b long few some fits small))
        m other)
        (blank : (later : Blocks) → AreLater d later → (a : ℕ) → ZeroWords put.middle a (shape_bytes s) → Stored StandsFixed later put.middle a s v)
        (after : World) (mine : Mine)
      where
        none_long : long ≡ 0 → long * shape_bytes s ≡ 0
        none_long e = let f = ap (λ i. i * shape_bytes s) e in omega (arith, f)

        pub longer_row : answered (perform (resized long (long * shape_bytes s) (Elements (joined (elements_of w (load w l)) (repeated (long - n) v))) l) w)
            ≡ Some after → IsLeft StandsFixed Homes apart d m after other to 8
        longer_row done =
            resized_row StandsFixed Homes apart law d w m x l to n k is (elements s) tt leads there away long (long * shape_bytes s)
            (Elements (joined all (repeated (long - n) v))) after none_long
            (subst (λ vs. answered (perform (resized long (long * shape_bytes s) (Elements (joined vs (repeated (long - n) v))) l) w) ≡ Some after)
            elements_now done)
            other (longer_put StandsFixed law d w m x.heap x.sized are s to n k h b long few some fits small longer v other put blank) mine

-- Rows of sequences, whose operands are handles at homes: what their word code does, by what their deeds come to.
use Rattle.std.proofs.Common.{◌≡◌, ℕ, suc, ◌+◌, ◌-◌, ◌*◌, ◌%◌, ◌^◌, ◌<◌, ◌≤◌, List, [], ◌∷◌, length, Option, Some, None, Bool, Result, Ok, Err}
use Rattle.std.proofs.Common.{refl, sym, ap, subst, ◌∙◌, arith}
use Rattle.nim_types.specs.Forms.{Form, size as form_size}
use Rattle.nim_meaning.specs.Values.{Value, Handle, Location, Nil, More, joined, repeated, length_of, block_of}
use Rattle.nim_meaning.specs.Heap.{Elements}
use Rattle.nim_meaning.specs.State.{World, load, elements_of}
use Rattle.nim_meaning.specs.Deeds.{Done, behind, perform}
use Rattle.nim_meaning.specs.Lifted.{has_place, resized}
use Rattle.nim_meaning.specs.OwnedRows.{added}
use Rattle.flat_code.specs.Shapes.{Shape, elements}
use Rattle.rv32_isa.specs.declared.machine.FaultKind.{FaultKind}
use Rattle.rv32_isa.specs.declared.micro_op.Size.TheVariants.{Word}
use Rattle.rv32_isa.specs.Machine.{Lives}
use Rattle.word_code.specs.declared.word.WordInstr.{WordInstr}
use Rattle.word_code.specs.declared.word.WordProc.{WordProc}
use Rattle.word_code.specs.Memory.{Memory, as_state, number_at, own_data_at}
use Rattle.word_code.specs.RoutineTable.{IsRewritten, ZeroWords}
use Rattle.word_code.specs.Words.{Vars, put}
use Rattle.word_code.proofs.ForCallers.{MemoryLaw, Sized, Within, at}
use Rattle.heap_memory.specs.HeapRoutines.{IsKeptThere}
use Rattle.heap_memory.specs.HeapRuntime.{HeapRoutineName, AddsElement, ResizesSequence, heap_routine}
use Rattle.heap_memory.specs.GrowRoutine.{may_grow, holds_it, grow_work}
use Rattle.heap_memory.specs.HandleRoutines.{MayHave, PutLeaves, AreContentsPut}
use Rattle.heap_memory.specs.SequenceRoutines.{AddingElement, element_added, ResizingSequence, sequence_resized, bytes_for, adds_element, resizes_sequence}
use Rattle.heap_memory.specs.TextRoutines.{AreBytes}
use Rattle.word_lowering.specs.declared.homes.TheConstants.{LEFT, FIRST, FIFTH}
use Rattle.word_lowering.specs.declared.homes.Home.{Home as Place}
use Rattle.word_lowering.specs.declared.homes.Home.TheVariants.{Variable}
use Rattle.word_lowering.specs.declared.handed.Handed.TheVariants.{Where, Number}
use Rattle.word_lowering.specs.RoutineCode.{length_code, add_code}
use Rattle.word_lowering.proofs.ShapeFacts.{shape_bytes}
use Rattle.word_lowering.proofs.Blocks.{Blocks, AreLater, IsEmptyIf, IsHandle, Stored}
use Rattle.word_lowering.proofs.StoredLater.{shape_whole, times_whole}
use Rattle.rv32_isa.specs.Image.{heap_at}
use Rattle.heap_memory.proofs.ForCallers.{is_there}
use Rattle.word_lowering.proofs.BlockHomes.{Home, SameOrApart, HomesHold, LeadsTo}
use Rattle.word_lowering.proofs.BlocksMade.{HasRoom, heap_resized, block_resized, place_same}
use Rattle.word_lowering.proofs.ContentsGrown.{growing_in}
use Rattle.word_lowering.proofs.Moves.{IsHigh, same_first, same_more}
use Rattle.word_lowering.proofs.OrdinalRuns.{AllSame, put_here, put_low, put_other}
use Rattle.word_lowering.proofs.WantOfHeap.{first_room, next_room}
use Rattle.word_lowering.proofs.HeapWanted.{room_in, least_of, resized_came, came_works}
use Rattle.word_lowering.proofs.GrowthLines.{grow_few, holds_first}
use Rattle.word_lowering.proofs.ResizedWorlds.{answered, behind_answers}
use Rattle.word_lowering.proofs.RoutinesCalled.{IsFirst}
use Rattle.word_lowering.proofs.RowRuns.{RowDoes, Came, row_done}
use Rattle.word_lowering.proofs.RowsLeft.{IsBesidePut, IsLeft, handle_beside, handle_end}
use Rattle.word_lowering.proofs.SequencesPut.{OrEmpty, block_of_sequence, present_of, present_is, growing, all_of, add_use, may_add, LeavesRoom, room_added}
use Rattle.word_lowering.proofs.SequencesResized.{resize_use, may_resize}
use Rattle.word_lowering.proofs.SequenceRows.{Mine, add_row, longer_row}
use Rattle.word_lowering.proofs.TextRowRuns.{IsAt, shown_so, ends_so}

pub same_fifth : (v : Vars) (n : ℕ) → AllSame v (put v FIFTH n)
same_fifth v n = record { others = λ u high. put_low v FIFTH n u (omega arith) high; left = put_other v FIFTH n LEFT (λ e. absurd (omega (arith, e))) }

read_same : (m : Memory) (at a b : ℕ) → number_at m at Word ≡ Ok a → number_at m at Word ≡ Ok b → a ≡ b
read_same m at a b e f = ap value (sym e ∙ f)
  where
    value : Result ℕ FaultKind → ℕ
    value (Ok n) = n
    value (Err fault) = a

-- for so many other lines of a row of sequences work is spared: they move the bits of an element
abbrev pub element_spare : (size : ℕ) → ℕ
element_spare size = 40 + 40 * size

module _ (StandsFixed : (place : ℕ) → List ℕ → Type 0) (Homes : Home → Type 0) (apart : (g h : Home) → Homes g → Homes h → SameOrApart g h)
    (law : MemoryLaw) (live : Lives) (procs : List WordProc) (kept : (name : HeapRoutineName) → IsKeptThere live procs (heap_routine own_data_at name))
    (c : Within) (from_first : IsFirst c) (d : Blocks) (w : World) (input : c.input ≡ w.input) (m : Memory) (x : HomesHold StandsFixed Homes apart d w m)
    (are : AreBytes m.heap) (lines : List WordInstr) (v g : Vars) (l : Location) (to n : ℕ) (k : Option ℕ) (is : load w l ≡ Handle n k) (s : Shape)
    (leads : LeadsTo StandsFixed Homes apart d l to (elements s)) (full : IsHandle d m to (elements s) n k)
    (h : OrEmpty StandsFixed law d w m x.heap x.sized are s to n k) (b : block_of_sequence StandsFixed law d w m x.heap x.sized are s n k)
    (some : 0 < shape_bytes s)
    (mine : Mine StandsFixed Homes apart law d w m x are l to n k is s leads h b some) (can : MayHave m to) (home : Place)
    (at_home : IsAt c.base v home to)
  where
    abbrev room : (bytes : ℕ) → Bool
    room bytes = room_in w k bytes

    abbrev has : (bytes : ℕ) → Bool
    has bytes = has_place w k bytes

    room_is : (bytes : ℕ) → may_grow (growing StandsFixed law d w m x.heap x.sized are s to n k h b bytes) ≡ room bytes
    room_is bytes = by k b
      where
        by : (q : Option ℕ) (t : block_of_sequence StandsFixed law d w m x.heap x.sized are s n q)
            → may_grow (growing_in d w.heap (present_of StandsFixed law d w m x.heap x.sized are s n q t) (n * shape_bytes s) bytes) ≡ room_in w q bytes
        by None t = first_room StandsFixed d w m x.heap (n * shape_bytes s) bytes
        by (Some i) t = next_room StandsFixed d w m x.heap (n * shape_bytes s) bytes i t.block t.there t.is

    holds_is : (bytes : ℕ) → holds_it (present_of StandsFixed law d w m x.heap x.sized are s n k b) bytes ≡ has bytes
    holds_is bytes = by k b
      where
        by : (q : Option ℕ) (t : block_of_sequence StandsFixed law d w m x.heap x.sized are s n q)
            → holds_it (present_of StandsFixed law d w m x.heap x.sized are s n q t) bytes ≡ has_place w q bytes
        by None t = holds_first StandsFixed d w m x.heap n bytes
        by (Some i) t = sym (place_same StandsFixed d w m x.heap i t.block t.there t.is bytes)

    lines_few : (bytes : ℕ) → grow_work (growing StandsFixed law d w m x.heap x.sized are s to n k h b bytes) ≤ 60 + 112 * least_of (has bytes) bytes
    lines_few bytes =
        subst (λ p. grow_work (growing StandsFixed law d w m x.heap x.sized are s to n k h b bytes) ≤ 60 + 112 * least_of p bytes) (holds_is bytes)
        (grow_few d.stands (growing StandsFixed law d w m x.heap x.sized are s to n k h b bytes)
        (present_is StandsFixed law d w m x.heap x.sized are s to n k h b))

    -- ---- one more element: room for it, and then its bits come to the address in the fifth variable

    module _ (of : Form) (same : form_size of ≡ shape_bytes s) (few : suc n < 2 ^ 32) (small : suc n * shape_bytes s < 2 ^ 32) (new : Value) where
      abbrev bytes_then : ℕ
      bytes_then = suc n * shape_bytes s

      pub record RoomMade (after : World) (other : Memory) (vars : Vars) : Type 0 where
        pub stay : AllSame v vars
        pub address : ℕ
        pub at_address : vars FIFTH ≡ Some address
        pub sized : Sized other
        -- the room for its bits is in the heap
        pub low : heap_at ≤ address
        pub high : address + shape_bytes s ≤ heap_at + length m.heap
        pub whole : address % 4 ≡ 0
        pub beside : IsBesidePut m other to 8
        pub here : Blocks
        pub ahead : AreLater d here
        pub finish : (last : Memory) → Sized last → IsRewritten other last address (shape_bytes s)
            → ((later : Blocks) → AreLater here later → Stored StandsFixed later last address s new) → IsLeft StandsFixed Homes apart d m after last to 8

      add_came : Came (form_size of + least_of (has bytes_then) bytes_then) (room bytes_then) w.input (perform (added of new l) w)
      add_came =
          came_works (least_of (has bytes_then) bytes_then) (form_size of) (room bytes_then) w.input
          (perform (resized (suc (length_of (load w l))) (suc (length_of (load w l)) * form_size of)
          (Elements (joined (elements_of w (load w l)) (More new Nil))) l)
          w)
          (subst (λ i. Came (least_of (has bytes_then) bytes_then) (room bytes_then) w.input
          (perform (resized (suc i) (suc i * form_size of) (Elements (joined (elements_of w (load w l)) (More new Nil))) l) w)) (sym (ap length_of is))
          (subst (λ z. Came (least_of (has bytes_then) bytes_then) (room bytes_then) w.input
          (perform (resized (suc n) (suc n * z) (Elements (joined (elements_of w (load w l)) (More new Nil))) l) w)) (sym same)
          (resized_came w (suc n) bytes_then (Elements (joined (elements_of w (load w l)) (More new Nil))) (λ e. absurd (omega (arith, e))) l k
          (ap block_of is))))

      room_end : (other : Memory) (y : LeavesRoom StandsFixed law d w m x.heap x.sized are s to n k h b some few small other)
          → y.handle.place + bytes_then < 2 ^ 32
      room_end other y =
          handle_end StandsFixed d (heap_resized (has bytes_then) w.heap k bytes_then
          (Elements (all_of StandsFixed law d w m x.heap x.sized are s n k b))) m other
          to (elements s) (suc n) bytes_then (block_resized (has bytes_then) w.heap k) y small

      record InHeap (place : ℕ) : Type 0 where
        low : heap_at ≤ place
        high : place + bytes_then ≤ heap_at + length m.heap
        whole : place % 8 ≡ 0

      room_there : (other : Memory) (y : LeavesRoom StandsFixed law d w m x.heap x.sized are s to n k h b some few small other) → InHeap y.handle.place
      room_there other y = by (block_resized (has bytes_then) w.heap k) y.handle.empty y.room
        where
          by : (q : Option ℕ) → IsEmptyIf q (suc n) → HasRoom StandsFixed y.after q y.handle.place bytes_then → InHeap y.handle.place
          by None e room = absurd (omega (arith, e))
          by (Some j) e room =
              let there = is_there own_data_at
              (heap_resized (has bytes_then) w.heap k bytes_then (Elements (all_of StandsFixed law d w m x.heap x.sized are s n k b))).classes y.after.stands
              y.middle y.has.kept j room.0 room.1 y.regions in
              let low = there.low in
              let high = there.high in
              let whole = there.aligned in
              let at = room.2 in
              let long = room.3 in
              let same = y.rest.sizes.heap in
              record { low = omega (arith, low, at); high = omega (arith, high, at, long, same); whole = omega (arith, whole, at) }

      pub add_runs : RowDoes live procs c lines FIFTH (element_spare (shape_bytes s)) (λ a after other vars. RoomMade after other vars)
          (at c m (add_code FIFTH home (shape_bytes s) lines) v g) (perform (added of new l) w)
      add_runs =
          let q : AddingElement = add_use StandsFixed law d w m x.heap x.sized are s to n k h b some few small in
          row_done law live procs c from_first m x.sized (adds_element own_data_at) (kept AddsElement) q
          (may_add StandsFixed law d w m x.heap x.sized are s to n k h b some few small full can) lines FIFTH v g
          (Where home ∷ Number (shape_bytes s) ∷ []) (omega arith)
          ((at_home.points, at_home.high), at_home.small, (refl, omega (arith, small), tt))
          (element_spare (shape_bytes s)) (λ a after other vars. RoomMade after other vars) (room bytes_then)
          (record {
            shows = shown_so (may_grow q.growth) (room bytes_then) (room_is bytes_then);
            ends = ends_so (may_grow q.growth) (room bytes_then) (room_is bytes_then);
            reads = refl;
          })
          (form_size of + least_of (has bytes_then) bytes_then)
          (let f = lines_few bytes_then in omega (arith, f, same))
          (perform (added of new l) w)
          (subst (λ i. Came (form_size of + least_of (has bytes_then) bytes_then) (room bytes_then) i (perform (added of new l) w)) (sym input) add_came)
          (λ es i a after e there other word vars same_vars left gave.
          let put_so : AreContentsPut own_data_at (element_added q) m other
          = subst (λ p. PutLeaves p own_data_at (element_added q) m other) (room_is bytes_then ∙ there) left in
          let y = room_added StandsFixed law d w m x.heap x.sized are s to n k h b some few small other put_so in
          let end = room_end other y in
          let inside = room_there other y in
          let inside_low = inside.low in
          let inside_high = inside.high in
          let inside_whole = inside.whole in
          let times = times_whole n (shape_bytes s) (shape_whole s) in
          let at : word ≡ y.handle.place + n * shape_bytes s
          = gave.is ∙ ap (λ p. p + n * shape_bytes s) (read_same other (to + 4) gave.place y.handle.place gave.handle.there y.handle.there) in
          record {
            stay = same_more v vars (put vars FIFTH word) same_vars (same_fifth vars word);
            address = y.handle.place + n * shape_bytes s;
            at_address = put_here vars FIFTH word (omega (arith, at, end)) ∙ ap Some at;
            sized = law.regions (as_state y.middle) (as_state other) y.regions y.put.sizes;
            low = omega (arith, inside_low);
            high = omega (arith, inside_high);
            whole = omega (arith, inside_whole, times);
            beside = handle_beside StandsFixed d (heap_resized (has bytes_then) w.heap k bytes_then
                (Elements (all_of StandsFixed law d w m x.heap x.sized are s n k b))) m other to (elements s) (suc n) bytes_then
                (block_resized (has bytes_then) w.heap k) y;
            here = y.after;
            ahead = y.ahead;
            finish = λ last sized_last written stored.
                add_row StandsFixed Homes apart law d w m x are l to n k is s leads h b some of same few small new other put_so after (ap answered e) mine
                last sized_last written stored;
          })

    -- ---- a longer one

    module _ (long : ℕ) (few : long < 2 ^ 32) (fits : bytes_for long (shape_bytes s) ≡ long * shape_bytes s) (small : long * shape_bytes s < 2 ^ 32)
        (longer : n ≤ long) (blank_value : Value)
        (blank : (later : Blocks) (middle : Memory) (a : ℕ) → ZeroWords middle a (shape_bytes s) → Stored StandsFixed later middle a s blank_value)
        (number : ℕ) (length_at : v number ≡ Some long) (number_high : IsHigh (Variable number)) (size_small : shape_bytes s < 2 ^ 32)
      where
        abbrev bytes_long : ℕ
        bytes_long = long * shape_bytes s

        abbrev longer_deed : Done (Unit {0})
        longer_deed =
            behind [] ((long - n) * shape_bytes s)
            (perform (resized long bytes_long (Elements (joined (elements_of w (load w l)) (repeated (long - n) blank_value))) l) w)

        longer_came : Came ((long - n) * shape_bytes s + least_of (has bytes_long) bytes_long) (room bytes_long) w.input longer_deed
        longer_came =
            came_works (least_of (has bytes_long) bytes_long) ((long - n) * shape_bytes s) (room bytes_long) w.input
            (perform (resized long bytes_long (Elements (joined (elements_of w (load w l)) (repeated (long - n) blank_value))) l) w)
            (resized_came w long bytes_long (Elements (joined (elements_of w (load w l)) (repeated (long - n) blank_value)))
            (λ e. ap (λ i. i * shape_bytes s) e ∙ omega arith) l k (ap block_of is))

        pub longer_runs : RowDoes live procs c lines FIRST (element_spare 0)
            (λ a after other vars. IsLeft StandsFixed Homes apart d m after other to 8 × AllSame v vars)
            (at c m (length_code home number (shape_bytes s) lines) v g) longer_deed
        longer_runs =
            let q : ResizingSequence = resize_use StandsFixed law d w m x.heap x.sized are s to n k h b long few some fits small in
            row_done law live procs c from_first m x.sized (resizes_sequence own_data_at) (kept ResizesSequence) q
            (may_resize StandsFixed law d w m x.heap x.sized are s to n k h b long few some fits small full can) lines FIRST v g
            (Where home ∷ Where (Variable number) ∷ Number (shape_bytes s) ∷ []) (omega arith)
            ((at_home.points, at_home.high), at_home.small, ((length_at, number_high), few, (refl, size_small, tt)))
            (element_spare 0) (λ a after other vars. IsLeft StandsFixed Homes apart d m after other to 8 × AllSame v vars) (room bytes_long)
            (record {
              shows = shown_so (may_grow q.growth) (room bytes_long) (room_is bytes_long);
              ends = ends_so (may_grow q.growth) (room bytes_long) (room_is bytes_long);
              reads = refl;
            })
            ((long - n) * shape_bytes s + least_of (has bytes_long) bytes_long)
            (let f = lines_few bytes_long in
            let e : long * shape_bytes s ≡ n * shape_bytes s + (long - n) * shape_bytes s
            = (let sum : long ≡ n + (long - n) = omega (arith, longer) in ap (λ i. i * shape_bytes s) sum ∙ omega arith) in
            omega (arith, f, e))
            longer_deed
            (subst (λ i. Came ((long - n) * shape_bytes s + least_of (has bytes_long) bytes_long) (room bytes_long) i longer_deed) (sym input) longer_came)
            (λ es i a after e there other word vars same left gave.
            let put_so : AreContentsPut own_data_at (sequence_resized q) m other
            = subst (λ p. PutLeaves p own_data_at (sequence_resized q) m other) (room_is bytes_long ∙ there) left in (
              longer_row StandsFixed Homes apart law d w m x are l to n k is s leads h b some long few fits small longer blank_value other put_so
                  (λ later ahead a zeros. blank later put_so.middle a zeros) after mine
                  (sym (behind_answers [] ((long - n) * shape_bytes s)
                  (perform (resized long bytes_long (Elements (joined (elements_of w (load w l)) (repeated (long - n) blank_value))) l) w)) ∙ ap answered e),
              same_more v vars (put vars FIRST word) same (same_first vars word),
            ))

-- A routine makes room for the elements of a new sequence, whose handle comes to a place that is no home yet.
use Rattle.nim_meaning.specs.Values.{Value, Values, Handle, Nil}
use Rattle.nim_meaning.specs.Heap.{Elements}
use Rattle.nim_meaning.specs.Lifted.{fresh, has_place}
use Rattle.nim_meaning.specs.Deeds.{perform}
use Rattle.heap_memory.specs.declared.numbers.TheConstants.{SEQ_NEW}
use Rattle.word_lowering.specs.declared.homes.Home.{Home as Place}
use Rattle.word_lowering.specs.declared.handed.Handed.{Handed}
use Rattle.word_lowering.specs.declared.handed.Handed.TheVariants.{Where, Number}
use Rattle.word_lowering.proofs.BlockHomes.{Home, HomesHold, SameOrApart}
use Rattle.word_lowering.proofs.BlocksMade.{block_fresh, block_resized, heap_fresh}
use Rattle.word_lowering.proofs.TextRowRuns.{IsAt, ends_so, shown_so}
use Rattle.word_lowering.proofs.SequencesResized.{may_put, resize_use}
use Rattle.word_lowering.proofs.SequencesPut.{present_is, sequence_put}
use Rattle.word_lowering.proofs.OrdinalRuns.{AllSame}
use Rattle.word_lowering.proofs.ResizedWorlds.{AreAlike, answered}
use Rattle.heap_memory.specs.TextRoutines.{AreBytes}
use Rattle.heap_memory.specs.HandleRoutines.{AreContentsPut, MayHave, PutLeaves}
use Rattle.word_lowering.proofs.Blocks.{Blocks}
use Rattle.word_lowering.proofs.RowRuns.{Came, RowDoes, row_done}
use Rattle.word_lowering.specs.declared.homes.TheConstants.{FIRST}
use Rattle.heap_memory.specs.HeapRuntime.{HeapRoutineName, PutsSequence, heap_routine}
use Rattle.word_lowering.proofs.RoutinesCalled.{IsFirst, IsHanded}
use Rattle.heap_memory.specs.HeapRoutines.{IsKeptThere}
use Rattle.word_lowering.proofs.HandlesPut.{LeavesHandle}
use Rattle.std.proofs.Common.{List, None, [], ap, arith, refl, subst, suc, sym, zero, ℕ, ◌*◌, ◌+◌, ◌<◌, ◌^◌, ◌∙◌, ◌∷◌, ◌≡◌, ◌≤◌}
use Rattle.rv32_isa.specs.Machine.{Lives}
use Rattle.word_code.specs.Memory.{Memory, own_data_at}
use Rattle.word_code.proofs.ForCallers.{MemoryLaw, Within, at}
use Rattle.heap_memory.specs.SequenceRoutines.{ResizingSequence, bytes_for, puts_sequence, sequence_resized}
use Rattle.flat_code.specs.Shapes.{Shape, elements}
use Rattle.word_code.specs.Words.{Vars, put}
use Rattle.word_code.specs.declared.word.WordInstr.{WordInstr}
use Rattle.word_code.specs.declared.word.WordProc.{WordProc}
use Rattle.nim_meaning.specs.State.{World}
use Rattle.word_lowering.proofs.FreshRows.{answer, first_block, first_heap, fresh_world}
use Rattle.word_lowering.specs.RoutineCode.{called_code}
use Rattle.word_lowering.proofs.SequenceRowRuns.{element_spare}
use Rattle.word_lowering.proofs.WantOfHeap.{first_room}
use Rattle.word_lowering.proofs.HeapWanted.{fresh_came, least_few, room_in}
use Rattle.word_lowering.proofs.GrowthLines.{grow_few}
use Rattle.heap_memory.specs.GrowRoutine.{grow_work, holds_it, may_grow}
use Rattle.std.proofs.lemmas.Option.{same_Some}
use Rattle.word_lowering.proofs.Moves.{same_first, same_more}
use Rattle.word_lowering.proofs.ShapeFacts.{shape_bytes}

module _ (StandsFixed : (place : ℕ) → List ℕ → Type 0) (Homes : Home → Type 0) (apart : (g h : Home) → Homes g → Homes h → SameOrApart g h)
    (law : MemoryLaw) (live : Lives) (procs : List WordProc) (kept : (name : HeapRoutineName) → IsKeptThere live procs (heap_routine own_data_at name))
    (c : Within) (from_first : IsFirst c) (d : Blocks) (w : World) (input : c.input ≡ w.input) (m : Memory) (x : HomesHold StandsFixed Homes apart d w m)
    (are : AreBytes m.heap) (lines : List WordInstr) (v g : Vars) (to : ℕ) (can : MayHave m to) (home : Place) (at_home : IsAt c.base v home to)
    (s : Shape) (some : 0 < shape_bytes s) (size_small : shape_bytes s < 2 ^ 32) (long : ℕ) (few : long < 2 ^ 32)
    (fits : bytes_for long (shape_bytes s) ≡ long * shape_bytes s) (small : long * shape_bytes s < 2 ^ 32) (vs : Values)
  where
    abbrev bytes : ℕ
    bytes = long * shape_bytes s

    -- there is room, in a block that is empty yet
    pub record RoomFor (a : Value) (after : World) (other : Memory) (vars : Vars) : Type 0 where
      pub stay : AllSame v vars
      pub is : a ≡ Handle long (block_fresh w.heap (long * shape_bytes s))
      pub alike : AreAlike after (record w { heap = heap_fresh w.heap (long * shape_bytes s) (Elements vs) })
      pub leaves : LeavesHandle StandsFixed d (heap_fresh w.heap (long * shape_bytes s) (Elements Nil)) m other to (elements s) long (long * shape_bytes s)
          (block_fresh w.heap (long * shape_bytes s))

    abbrev new_use : ResizingSequence
    new_use = resize_use StandsFixed law d w m x.heap x.sized are s to 0 None refl tt long few some fits small

    none_long : (i : ℕ) → i * shape_bytes s ≡ 0 → i ≡ 0
    none_long zero e = refl
    none_long (suc i) e = absurd (omega (arith, e, some))

    lines_few : grow_work new_use.growth ≤ 60 + 112 * bytes
    lines_few =
        let f = grow_few d.stands new_use.growth (present_is StandsFixed law d w m x.heap x.sized are s to 0 None refl tt) in
        let l = least_few (holds_it None bytes) bytes in
        omega (arith, f, l)

    left_so : (other : Memory) → AreContentsPut own_data_at (sequence_resized new_use) m other
        → LeavesHandle StandsFixed d (heap_fresh w.heap bytes (Elements Nil)) m other to (elements s) long bytes (block_fresh w.heap bytes)
    left_so other is_put =
        let front : List ℕ = (sequence_resized new_use).bytes in
        let y = sequence_put StandsFixed law d w m x.heap x.sized are s to 0 None refl tt other long bytes front few is_put (λ e. none_long long e) Nil
        (λ after ahead z there is room. (tt, omega arith)) in
        subst (λ o. LeavesHandle StandsFixed d (heap_fresh w.heap bytes (Elements Nil)) m other to (elements s) long bytes o) (first_block w bytes)
        (subst (λ after. LeavesHandle StandsFixed d after m other to (elements s) long bytes (block_resized (has_place w None bytes) w.heap None))
        (first_heap w bytes (Elements Nil)) y)

    pub room_runs : (how_many : Handed) → IsHanded law live procs c from_first m v how_many long
        → RowDoes live procs c lines FIRST (element_spare (long * shape_bytes s)) RoomFor
        (at c m (called_code FIRST SEQ_NEW (Where home ∷ how_many ∷ Number (shape_bytes s) ∷ []) lines) v g)
        (perform (fresh long (long * shape_bytes s) (Elements vs)) w)
    room_runs how_many handed =
        let room_is : may_grow new_use.growth ≡ room_in w None bytes = first_room StandsFixed d w m x.heap (0 * shape_bytes s) bytes in
        let none : long ≡ 0 → bytes ≡ 0 = λ e. ap (λ i. i * shape_bytes s) e ∙ omega arith in
        row_done law live procs c from_first m x.sized (puts_sequence own_data_at) (kept PutsSequence) new_use
        (may_put StandsFixed law d w m x.heap x.sized are s to 0 None refl tt long few some fits small refl can) lines FIRST v g
        (Where home ∷ how_many ∷ Number (shape_bytes s) ∷ []) (omega arith)
        ((at_home.points, at_home.high), at_home.small, (handed, few, (refl, size_small, tt)))
        (element_spare bytes) RoomFor (room_in w None bytes)
        (record {
          shows = shown_so (may_grow new_use.growth) (room_in w None bytes) room_is;
          ends = ends_so (may_grow new_use.growth) (room_in w None bytes) room_is;
          reads = refl;
        })
        bytes
        (let f = lines_few in omega (arith, f))
        (perform (fresh long bytes (Elements vs)) w)
        (subst (λ i. Came bytes (room_in w None bytes) i (perform (fresh long bytes (Elements vs)) w)) (sym input)
        (fresh_came w long bytes (Elements vs) none (none_long long)))
        (λ es i a after e there other word vars same left gave.
        let put_so : AreContentsPut own_data_at (sequence_resized new_use) m other
        = subst (λ p. PutLeaves p own_data_at (sequence_resized new_use) m other) (room_is ∙ there) left in
        let now = fresh_world w long bytes (Elements vs) none (none_long long) after (ap answered e) in
        record {
          stay = same_more v vars (put vars FIRST word) same (same_first vars word);
          is = same_Some a (Handle long (block_fresh w.heap bytes)) (sym (ap answer e) ∙ now.value);
          alike = now.is;
          leaves = left_so other put_so;
        })

-- Sequences that would have more bytes than any size holds: word code ends for want of heap, as the deed does.
use Rattle.std.proofs.Common.{◌≡◌, ℕ, suc, ◌+◌, ◌-◌, ◌*◌, ◌^◌, ◌<◌, ◌≤◌, List, [], ◌∷◌, length, Option, Some, None, true, false}
use Rattle.std.proofs.Common.{refl, sym, subst, ◌∙◌, arith}
use Rattle.nim_meaning.specs.Values.{Handle, Location}
use Rattle.nim_meaning.specs.Heap.{Contents}
use Rattle.nim_meaning.specs.State.{World, load}
use Rattle.nim_meaning.specs.Deeds.{Done}
use Rattle.nim_meaning.specs.Lifted.{has_place}
use Rattle.flat_code.specs.Shapes.{Shape, elements}
use Rattle.rv32_isa.specs.Machine.{Lives}
use Rattle.word_code.specs.declared.word.WordInstr.{WordInstr}
use Rattle.word_code.specs.declared.word.WordProc.{WordProc}
use Rattle.word_code.specs.Memory.{Memory, own_data_at}
use Rattle.word_code.specs.Words.{Vars}
use Rattle.word_code.proofs.ForCallers.{MemoryLaw, Within, at}
use Rattle.heap_memory.specs.declared.numbers.TheConstants.{SEQ_NEW}
use Rattle.heap_memory.specs.HeapRoutines.{IsKeptThere}
use Rattle.heap_memory.specs.HeapRuntime.{HeapRoutineName, PutsSequence, ResizesSequence, heap_routine}
use Rattle.heap_memory.specs.GrowRoutine.{may_grow, holds_it, grow_work}
use Rattle.heap_memory.specs.HandleRoutines.{MayHave}
use Rattle.heap_memory.specs.SequenceRoutines.{ResizingSequence, bytes_for, resizes_sequence}
use Rattle.heap_memory.specs.SequenceRoutines.{puts_sequence}
use Rattle.heap_memory.specs.TextRoutines.{AreBytes}
use Rattle.word_lowering.specs.declared.homes.TheConstants.{FIRST}
use Rattle.word_lowering.specs.declared.homes.Home.{Home as Place}
use Rattle.word_lowering.specs.declared.homes.Home.TheVariants.{Variable}
use Rattle.word_lowering.specs.declared.handed.Handed.{Handed}
use Rattle.word_lowering.specs.declared.handed.Handed.TheVariants.{Where, Number}
use Rattle.word_lowering.specs.RoutineCode.{called_code, length_code}
use Rattle.word_lowering.proofs.ShapeFacts.{shape_bytes}
use Rattle.word_lowering.proofs.Blocks.{Blocks, IsHandle}
use Rattle.word_lowering.proofs.BlockHomes.{Home, SameOrApart, HomesHold, LeadsTo}
use Rattle.word_lowering.proofs.BlocksMade.{place_same}
use Rattle.word_lowering.proofs.Moves.{IsHigh}
use Rattle.word_lowering.proofs.HeapWanted.{room_in, least_few}
use Rattle.word_lowering.proofs.GrowthLines.{grow_few, holds_first}
use Rattle.word_lowering.proofs.RoutinesCalled.{IsFirst, IsHanded}
use Rattle.word_lowering.proofs.RowRuns.{RowDoes, Came, row_done}
use Rattle.word_lowering.proofs.SequencesPut.{OrEmpty, block_of_sequence, present_of, present_is, growing, handle_is, may_grow_so}
use Rattle.word_lowering.proofs.SequenceRows.{Mine}
use Rattle.word_lowering.proofs.TextRowRuns.{IsAt, shown_so, ends_so}
use Rattle.heap_memory.specs.SequenceRoutines.{most_payload}
use Rattle.word_lowering.proofs.SequenceRowRuns.{element_spare}
use Rattle.std.proofs.lemmas.Bool.{lt-leb}
use Rattle.heap_memory.proofs.ForCallers.{is_there, size_within}
use Rattle.word_lowering.proofs.TooLong.{largest, no_growth, no_place, over}

module _ (StandsFixed : (place : ℕ) → List ℕ → Type 0) (Homes : Home → Type 0) (apart : (g h : Home) → Homes g → Homes h → SameOrApart g h)
    (law : MemoryLaw) (live : Lives) (procs : List WordProc) (kept : (name : HeapRoutineName) → IsKeptThere live procs (heap_routine own_data_at name))
    (c : Within) (from_first : IsFirst c) (d : Blocks) (w : World) (input : c.input ≡ w.input) (m : Memory) (x : HomesHold StandsFixed Homes apart d w m)
    (are : AreBytes m.heap) (lines : List WordInstr) (v g : Vars) (l : Location) (to n : ℕ) (k : Option ℕ) (is : load w l ≡ Handle n k) (s : Shape)
    (leads : LeadsTo StandsFixed Homes apart d l to (elements s)) (full : IsHandle d m to (elements s) n k)
    (h : OrEmpty StandsFixed law d w m x.heap x.sized are s to n k) (b : block_of_sequence StandsFixed law d w m x.heap x.sized are s n k)
    (some : 0 < shape_bytes s)
    (mine : Mine StandsFixed Homes apart law d w m x are l to n k is s leads h b some) (can : MayHave m to) (home : Place)
    (at_home : IsAt c.base v home to)
    (long : ℕ) (few : long < 2 ^ 32) (big : bytes_for long (shape_bytes s) ≡ suc most_payload) (number : ℕ) (length_at : v number ≡ Some long)
    (number_high : IsHigh (Variable number)) (size_small : shape_bytes s < 2 ^ 32)
  where
    abbrev bytes : ℕ
    bytes = long * shape_bytes s

    more : most_payload < bytes
    more = over long (shape_bytes s) some big

    abbrev wanted : ℕ
    wanted = suc most_payload

    -- no block holds it
    none_holds : (i : ℕ) → most_payload < i → holds_it (present_of StandsFixed law d w m x.heap x.sized are s n k b) i ≡ false
    none_holds i above = by k b
      where
        by : (q : Option ℕ) (t : block_of_sequence StandsFixed law d w m x.heap x.sized are s n q)
            → holds_it (present_of StandsFixed law d w m x.heap x.sized are s n q t) i ≡ false
        by None t = lt-leb i 0 (omega (arith, above))
        by (Some j) t =
            let there = is_there own_data_at w.heap.classes d.stands m x.heap.kept j t.is.standing t.is.stands x.sized in
            let whole = there.whole in
            let least = there.sized in
            let all = size_within t.is.standing.class 20 (omega (arith, least)) in
            lt-leb i (length t.is.standing.payload) (omega (arith, whole, all, above, largest))

    pub has_none : has_place w k bytes ≡ false
    has_none = sym (holds_as k b) ∙ none_holds bytes more
      where
        holds_as : (q : Option ℕ) (t : block_of_sequence StandsFixed law d w m x.heap x.sized are s n q)
            → holds_it (present_of StandsFixed law d w m x.heap x.sized are s n q t) bytes ≡ has_place w q bytes
        holds_as None t = holds_first StandsFixed d w m x.heap n bytes
        holds_as (Some i) t = sym (place_same StandsFixed d w m x.heap i t.block t.there t.is bytes)

    room_none : room_in w k bytes ≡ false
    room_none = no_place StandsFixed d w m x.heap bytes more k has_none

    abbrev long_use : ResizingSequence
    long_use = record {
      to = to;
      count = n;
      size = shape_bytes s;
      length = long;
      growth = growing StandsFixed law d w m x.heap x.sized are s to n k h b wanted;
    }

    never_grows : may_grow long_use.growth ≡ false
    never_grows = no_growth StandsFixed d w m x.heap wanted (omega arith) long_use.growth refl refl (none_holds wanted (omega arith))

    lines_few : grow_work long_use.growth ≤ 60 + 112 * wanted
    lines_few =
        let f = grow_few d.stands long_use.growth (present_is StandsFixed law d w m x.heap x.sized are s to n k h b) in
        let l = least_few (holds_it long_use.growth.present wanted) wanted in
        omega (arith, f, l)

    -- whatever elements there would be
    pub too_long_runs : {A : Type 0} (contents : Contents) (done : Done A) (Behind : A → World → Memory → Vars → Type 0)
        → Came bytes (room_in w k bytes) w.input done
        → RowDoes live procs c lines FIRST (element_spare 0) Behind (at c m (length_code home number (shape_bytes s) lines) v g) done
    too_long_runs contents done Behind came =
        row_done law live procs c from_first m x.sized (resizes_sequence own_data_at) (kept ResizesSequence) long_use
        (record {
          to = handle_is StandsFixed law d w m x.heap x.sized are s to n k h b full;
          has = can;
          growth = may_grow_so StandsFixed law d w m x.heap x.sized are s to n k h b wanted (omega arith);
          some = some;
          few = few;
          kept = refl;
          wanted = sym big;
        }) lines FIRST v g
        (Where home ∷ Where (Variable number) ∷ Number (shape_bytes s) ∷ []) (omega arith)
        ((at_home.points, at_home.high), at_home.small, ((length_at, number_high), few, (refl, size_small, tt)))
        (element_spare 0) Behind false
        (record { shows = shown_so (may_grow long_use.growth) false never_grows; ends = ends_so (may_grow long_use.growth) false never_grows; reads = refl })
        bytes
        (let f = lines_few in let o = more in omega (arith, f, o))
        done
        (subst (λ i. Came bytes false i done) (sym input) (subst (λ r. Came bytes r w.input done) room_none came))
        (λ es i a after e sure other word vars same left gave. absurd (never sure))
      where
        never : false ≡ true → ⊥
        never e = cc

-- ---- a new one

module _ (StandsFixed : (place : ℕ) → List ℕ → Type 0) (Homes : Home → Type 0) (apart : (g h : Home) → Homes g → Homes h → SameOrApart g h)
    (law : MemoryLaw) (live : Lives) (procs : List WordProc) (kept : (name : HeapRoutineName) → IsKeptThere live procs (heap_routine own_data_at name))
    (c : Within) (from_first : IsFirst c) (d : Blocks) (w : World) (input : c.input ≡ w.input) (m : Memory) (x : HomesHold StandsFixed Homes apart d w m)
    (are : AreBytes m.heap) (lines : List WordInstr) (v g : Vars) (to : ℕ) (can : MayHave m to) (home : Place) (at_home : IsAt c.base v home to) (s : Shape)
    (some : 0 < shape_bytes s) (size_small : shape_bytes s < 2 ^ 32) (long : ℕ) (few : long < 2 ^ 32) (big : bytes_for long (shape_bytes s) ≡ suc most_payload)
    (how_many : Handed) (handed : IsHanded law live procs c from_first m v how_many long)
  where
    abbrev new_bytes : ℕ
    new_bytes = long * shape_bytes s

    more_new : most_payload < new_bytes
    more_new = over long (shape_bytes s) some big

    abbrev new_use : ResizingSequence
    new_use = record {
      to = to;
      count = 0;
      size = shape_bytes s;
      length = long;
      growth = growing StandsFixed law d w m x.heap x.sized are s to 0 None refl tt (suc most_payload);
    }

    never_new : may_grow new_use.growth ≡ false
    never_new = no_growth StandsFixed d w m x.heap (suc most_payload) (omega arith) new_use.growth refl refl (lt-leb (suc most_payload) 0 (omega arith))

    new_few : grow_work new_use.growth ≤ 60 + 112 * suc most_payload
    new_few =
        let f = grow_few d.stands new_use.growth (present_is StandsFixed law d w m x.heap x.sized are s to 0 None refl tt) in
        let l = least_few (holds_it None (suc most_payload)) (suc most_payload) in
        omega (arith, f, l)

    room_new : room_in w None new_bytes ≡ false
    room_new =
        no_place StandsFixed d w m x.heap new_bytes more_new None
        (sym (holds_first StandsFixed d w m x.heap 0 new_bytes) ∙ lt-leb new_bytes 0 (let o = more_new in omega (arith, o)))

    pub new_too_long_runs : {A : Type 0} (done : Done A) (Behind : A → World → Memory → Vars → Type 0) → Came new_bytes (room_in w None new_bytes) w.input done
        → RowDoes live procs c lines FIRST (element_spare new_bytes) Behind
        (at c m (called_code FIRST SEQ_NEW (Where home ∷ how_many ∷ Number (shape_bytes s) ∷ []) lines) v g) done
    new_too_long_runs done Behind came =
        row_done law live procs c from_first m x.sized (puts_sequence own_data_at) (kept PutsSequence) new_use
        (record {
          none = refl;
          has = λ grows. can;
          growth = may_grow_so StandsFixed law d w m x.heap x.sized are s to 0 None refl tt (suc most_payload) (omega arith);
          some = some;
          few = few;
          wanted = sym big;
        }) lines FIRST v g
        (Where home ∷ how_many ∷ Number (shape_bytes s) ∷ []) (omega arith)
        ((at_home.points, at_home.high), at_home.small, (handed, few, (refl, size_small, tt)))
        (element_spare new_bytes) Behind false
        (record { shows = shown_so (may_grow new_use.growth) false never_new; ends = ends_so (may_grow new_use.growth) false never_new; reads = refl })
        new_bytes
        (let f = new_few in let o = more_new in omega (arith, f, o))
        done
        (subst (λ i. Came new_bytes false i done) (sym input) (subst (λ r. Came new_bytes r w.input done) room_new came))
        (λ es i a after e sure other word vars same left gave. absurd (never sure))
      where
        never : false ≡ true → ⊥
        never e = cc

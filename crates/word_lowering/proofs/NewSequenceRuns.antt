-- Rows that make a new sequence, whose handle comes to a place that is no home yet: what their word code does, by what their deeds come to.
use Rattle.std.proofs.Common.{◌≡◌, ℕ, zero, suc, ◌+◌, ◌-◌, ◌*◌, ◌^◌, ◌<◌, ◌≤◌, List, [], ◌∷◌, None, refl, ap, subst, ◌∙◌, arith}
use Rattle.nim_meaning.specs.Values.{Value, repeated}
use Rattle.nim_meaning.specs.Heap.{Elements}
use Rattle.nim_meaning.specs.State.{World}
use Rattle.nim_meaning.specs.Deeds.{perform}
use Rattle.nim_meaning.specs.Lifted.{fresh, has_place}
use Rattle.flat_code.specs.Shapes.{Shape, elements}
use Rattle.rv32_isa.specs.Machine.{Lives}
use Rattle.word_code.specs.declared.word.WordInstr.{WordInstr}
use Rattle.word_code.specs.declared.word.WordProc.{WordProc}
use Rattle.word_code.specs.Memory.{Memory, own_data_at}
use Rattle.word_code.specs.RoutineTable.{Beside, ZeroWords}
use Rattle.word_code.specs.Words.{Vars}
use Rattle.word_code.proofs.ForCallers.{MemoryLaw, Within, at}
use Rattle.heap_memory.specs.declared.numbers.TheConstants.{SEQ_NEW}
use Rattle.heap_memory.specs.HeapUse.{IsElsewhere}
use Rattle.heap_memory.specs.HeapRoutines.{IsKeptThere}
use Rattle.heap_memory.specs.HeapRuntime.{HeapRoutineName, PutsSequence, heap_routine}
use Rattle.heap_memory.specs.GrowRoutine.{grow_work, holds_it}
use Rattle.heap_memory.specs.HandleRoutines.{MayHave, AreContentsPut}
use Rattle.heap_memory.specs.SequenceRoutines.{ResizingSequence, sequence_resized, bytes_for, puts_sequence}
use Rattle.heap_memory.specs.TextRoutines.{AreBytes}
use Rattle.word_lowering.specs.declared.handed.Handed.{Handed}
use Rattle.word_lowering.specs.declared.handed.Handed.TheVariants.{Where, Number}
use Rattle.word_lowering.specs.declared.homes.TheConstants.{FIRST}
use Rattle.word_lowering.specs.declared.homes.Home.{Home as Place}
use Rattle.word_lowering.specs.RoutineCode.{called_code}
use Rattle.word_lowering.proofs.ShapeFacts.{shape_bytes}
use Rattle.word_lowering.proofs.Blocks.{Blocks, Stored}
use Rattle.word_lowering.proofs.BlockHomes.{Home, home_bytes, SameOrApart, HomesHold}
use Rattle.word_lowering.proofs.BlocksMade.{heap_fresh, block_fresh, block_resized}
use Rattle.word_lowering.proofs.FreshRows.{first_block, first_heap}
use Rattle.word_lowering.proofs.FreshRowRuns.{NewThere, fresh_runs}
use Rattle.word_lowering.proofs.GrowthLines.{grow_few}
use Rattle.word_lowering.proofs.HandlesPut.{LeavesHandle}
use Rattle.word_lowering.proofs.HeapWanted.{least_few}
use Rattle.word_lowering.proofs.RoutinesCalled.{IsFirst, IsHanded}
use Rattle.word_lowering.proofs.RowRuns.{RowDoes}
use Rattle.word_lowering.proofs.SequencesPut.{present_is}
use Rattle.word_lowering.proofs.SequencesResized.{longer_put, may_put, resize_use}
use Rattle.word_lowering.proofs.SequenceRowRuns.{element_spare}
use Rattle.word_lowering.proofs.TextRowRuns.{IsAt}
use Rattle.word_lowering.proofs.WantOfHeap.{first_room}

module _ (StandsFixed : (place : ℕ) → List ℕ → Type 0) (Homes : Home → Type 0) (apart : (g h : Home) → Homes g → Homes h → SameOrApart g h)
    (law : MemoryLaw) (live : Lives) (procs : List WordProc) (kept : (name : HeapRoutineName) → IsKeptThere live procs (heap_routine own_data_at name))
    (c : Within) (from_first : IsFirst c) (d : Blocks) (w : World) (input : c.input ≡ w.input) (m : Memory) (x : HomesHold StandsFixed Homes apart d w m)
    (are : AreBytes m.heap) (lines : List WordInstr) (v g : Vars) (to : ℕ) (elsewhere : IsElsewhere own_data_at m to 8)
    (away : (h : Home) → Homes h → Beside h.at (home_bytes h) to 8) (can : MayHave m to) (home : Place) (at_home : IsAt c.base v home to)
    (s : Shape) (some : 0 < shape_bytes s) (size_small : shape_bytes s < 2 ^ 32) (long : ℕ) (few : long < 2 ^ 32)
    (fits : bytes_for long (shape_bytes s) ≡ long * shape_bytes s) (small : long * shape_bytes s < 2 ^ 32)
    (how_many : Handed) (handed : IsHanded law live procs c from_first m v how_many long) (blank_value : Value)
    (blank : (later : Blocks) (middle : Memory) (a : ℕ) → ZeroWords middle a (shape_bytes s) → Stored StandsFixed later middle a s blank_value)
  where
    abbrev bytes : ℕ
    bytes = long * shape_bytes s

    abbrev new_use : ResizingSequence
    new_use = resize_use StandsFixed law d w m x.heap x.sized are s to 0 None refl tt long few some fits small

    none_long : (i : ℕ) → i * shape_bytes s ≡ 0 → i ≡ 0
    none_long zero e = refl
    none_long (suc i) e = absurd (omega (arith, e, some))

    lines_few : grow_work new_use.growth ≤ 60 + 112 * bytes
    lines_few =
        let f = grow_few d.stands new_use.growth (present_is StandsFixed law d w m x.heap x.sized are s to 0 None refl tt) in
        let l = least_few (holds_it None bytes) bytes in
        omega (arith, f, l)

    left_so : (other : Memory) → AreContentsPut own_data_at (sequence_resized new_use) m other
        → LeavesHandle StandsFixed d (heap_fresh w.heap bytes (Elements (repeated long blank_value))) m other to (elements s) long bytes
        (block_fresh w.heap bytes)
    left_so other put =
        let e : long - 0 ≡ long = omega arith in
        let y = longer_put StandsFixed law d w m x.heap x.sized are s to 0 None refl tt long few some fits small (omega arith) blank_value other put
        (λ later ahead a zeros. blank later put.middle a zeros) in
        subst (λ i. LeavesHandle StandsFixed d (heap_fresh w.heap bytes (Elements (repeated i blank_value))) m other to (elements s) long bytes
        (block_fresh w.heap bytes)) e
        (subst (λ o. LeavesHandle StandsFixed d (heap_fresh w.heap bytes (Elements (repeated (long - 0) blank_value))) m other to (elements s) long bytes o)
        (first_block w bytes)
        (subst (λ after. LeavesHandle StandsFixed d after m other to (elements s) long bytes (block_resized (has_place w None bytes) w.heap None))
        (first_heap w bytes (Elements (repeated (long - 0) blank_value))) y))

    pub new_runs : RowDoes live procs c lines FIRST (element_spare bytes)
        (NewThere StandsFixed Homes apart law live procs c from_first d w input m x lines v g to elsewhere away can (elements s))
        (at c m (called_code FIRST SEQ_NEW (Where home ∷ how_many ∷ Number (shape_bytes s) ∷ []) lines) v g)
        (perform (fresh long bytes (Elements (repeated long blank_value))) w)
    new_runs =
        fresh_runs StandsFixed Homes apart law live procs c from_first d w input m x lines v g to elsewhere away can
        (puts_sequence own_data_at).number ResizingSequence (puts_sequence own_data_at).takes (puts_sequence own_data_at).may sequence_resized
        (λ u place. place)
        (puts_sequence own_data_at).lines (kept PutsSequence) new_use
        (may_put StandsFixed law d w m x.heap x.sized are s to 0 None refl tt long few some fits small refl can)
        (Where home ∷ how_many ∷ Number (shape_bytes s) ∷ []) (omega arith)
        ((at_home.points, at_home.high), at_home.small, (handed, few, (refl, size_small, tt))) long bytes (Elements (repeated long blank_value)) (elements s) tt
        (λ e. ap (λ i. i * shape_bytes s) e ∙ omega arith) (none_long long) (element_spare bytes)
        (first_room StandsFixed d w m x.heap (0 * shape_bytes s) bytes)
        (let f = lines_few in omega (arith, f))
        left_so

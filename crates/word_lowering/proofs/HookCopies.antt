-- A hook copies a text by the routine of the heap.
use Rattle.std.proofs.Common.{◌≡◌, inr, ℕ, ◌+◌, ◌*◌, ◌≤◌, Bool, true, false, List, [], ◌∷◌, ◌++◌, length, Some, None}
use Rattle.std.proofs.Common.{refl, sym, ap, subst, ◌∙◌, arith}
use Rattle.std.specs.Prelude.{slice_get, if◌then◌else◌}
use Rattle.std.proofs.lemmas.Bool.{and_parts}
use Rattle.std.proofs.lemmas.Option.{same_Some, none-some}
use Rattle.arc_base.specs.declared.outside.Stream.TheVariants.{Err}
use Rattle.arc_base.specs.Behaviour.{no_objects}
use Rattle.arc_base.specs.Simulation.{Steps, Stops}
use Rattle.arc_base.specs.Event.{Event, writes}
use Rattle.nim_types.specs.Forms.{Form}
use Rattle.nim_types.specs.declared.types.TypeDef.TheVariants as D
use Rattle.nim_program.specs.Traps.{OutOfMemory}
use Rattle.nim_meaning.specs.Heap.{Characters, size_count}
use Rattle.nim_meaning.specs.Lifted.{fresh, walk}
use Rattle.nim_meaning.specs.Values.{Value, Handle, Fixed, Vacant, Location}
use Rattle.nim_meaning.specs.State.{World, load, store, text_of, is_there, is_seen, is_whole}
use Rattle.nim_meaning.specs.Deeds.{Stores, Done, Answers, Finishes, Fails, behind, perform, unless_gone, costs, does, sets, ◌>>=◌}
use Rattle.flat_code.specs.Shapes.{block}
use Rattle.rv32_isa.specs.Machine.{Lives}
use Rattle.word_code.specs.declared.word.WordInstr.{WordInstr}
use Rattle.word_code.specs.declared.word.WordProc.{WordProc}
use Rattle.word_code.specs.Memory.{Memory, as_state, own_data_at}
use Rattle.word_code.specs.RoutineTable.{trap_line}
use Rattle.word_code.specs.Routines.{IsCalling, ComesBack, EndsProgram, Comes as CalledComes, goes_on}
use Rattle.word_code.specs.Words.{WordState, Fresh, step_of}
use Rattle.heap_memory.specs.declared.numbers.TheConstants.{TEXT_COPY, KEPT_LINES, GROW_LINES, FURTHER_LINES, MOVE_BYTE}
use Rattle.heap_memory.specs.AppendRoutine.{Source, Outside, Inside, source_bytes}
use Rattle.heap_memory.specs.GrowRoutine.{Growing, may_grow, grow_work, holds_it}
use Rattle.heap_memory.specs.HeapRoutines.{IsKeptThere}
use Rattle.heap_memory.specs.HandleRoutines.{MayCopyText, MayHave, AppendingText, appended_text, copies_text, AreContentsPut, PutLeaves}
use Rattle.heap_memory.specs.HeapRoutines.{class_of}
use Rattle.heap_memory.proofs.ForCallers.{class_few}
use Rattle.hook_lifting.specs.declared.lifted.Hook.TheVariants.{Copies}
use Rattle.hook_lifting.specs.Lifting.{walk_of}
use Rattle.hook_lifting.proofs.ForCallers.{done_then, performs_then, form_at}
use Rattle.hook_code.specs.Surroundings.{Hand as HookHand}
use Rattle.hook_code.specs.Promises.{Comes, AnyWord, CopiesText, IsBack, copy_pace}
use Rattle.word_lowering.proofs.Blocks.{Blocks, Stored}
use Rattle.word_lowering.proofs.BlocksMade.{heap_fresh, block_fresh}
use Rattle.word_lowering.proofs.FreshRows.{IsFresh, answer, fresh_world}
use Rattle.word_lowering.proofs.HandlesPut.{LeavesHandle, may_grow_new, copy_use, copied}
use Rattle.word_lowering.proofs.HeapWanted.{room_in, fresh_came}
use Rattle.word_lowering.proofs.HookFresh.{may_have, put_here, put_later, fresh_put}
use Rattle.word_lowering.proofs.HookHomes.{HookHomes, IsHere, sized}
use Rattle.word_lowering.proofs.HookSteps.{text_shape}
use Rattle.word_lowering.proofs.HookSurroundings.{shape, shaped, IsLed, at_word, surroundings}
use Rattle.word_lowering.proofs.HookWords.{IsBlocky, stands_there}
use Rattle.word_lowering.proofs.ResizedWorlds.{answered}
use Rattle.word_lowering.proofs.RowRuns.{Came}
use Rattle.word_lowering.proofs.ShapeFacts.{never}
use Rattle.word_lowering.proofs.TextOperands.{IsKept, is_source, TextAt, IsText, text_at_handle}
use Rattle.word_lowering.proofs.WantOfHeap.{first_room}

-- ---- what the routine promises

-- a growth where none was takes so many lines at most
pub new_few : (u : Growing) → u.kept ≡ 0 → grow_work u ≤ 81 + 4 * size_count
new_few u none = by (holds_it u.present u.wanted)
  where
    by : (b : Bool) → (if b then KEPT_LINES else GROW_LINES + (FURTHER_LINES * class_of u.wanted + MOVE_BYTE * u.kept)) ≤ 81 + 4 * size_count
    by true = omega arith
    by false = let c = class_few u.wanted in omega (arith, c, none)

module _ (z : HookHomes) (live : Lives) (none : (m : Memory) → live (as_state m) ≡ no_objects) (procs : List WordProc) (fresh_bytes : Fresh)
    (kept : IsKeptThere live procs (copies_text own_data_at)) where
  module _ (low top : ℕ) (h : HookHand) (d : Blocks) (w : World) (s : ℕ × WordState) (to : ℕ) (rest : List WordInstr) (l from : Location) (a b ty : ℕ)
      (calling : IsCalling TEXT_COPY (a ∷ b ∷ []) to rest s.1) (x : IsHere z low top (shaped z h) d w s.1.memory) (leads : IsLed z true h d l a ty)
      (leads_from : IsLed z false h d from b ty) (entry : slice_get z.table ty ≡ Some D.Text) (seen : is_seen w from ≡ true) where
    abbrev m : Memory
    m = s.1.memory

    abbrev v : Value
    v = load w from

    abbrev text : List ℕ
    text = text_of w v

    abbrev long : ℕ
    long = length text

    is_block : shape z ty ≡ block
    is_block = text_shape z.table z.is_table z.have ty entry

    blocky : IsBlocky (shape z ty)
    blocky = subst IsBlocky (sym is_block) tt

    live_from : is_there w from ≡ true
    live_from = (and_parts (is_there w from) (is_whole w v) seen).0

    stands : Stored z.StandsFixed d m b block v
    stands =
        subst (λ t. Stored z.StandsFixed d m b t v) is_block
        (subst (λ k. Stored z.StandsFixed d m k (shape z ty) v) (sym (at_word z low top h d w m from b ty false x leads_from live_from))
        (stands_there z low top (shaped z h) d w m x false from leads_from.at (shape z ty) (inr is_block) leads_from.led live_from))

    is_text : (v : Value) → Stored z.StandsFixed d m b block v → is_whole w v ≡ true → IsText z.StandsFixed v
    is_text (Handle n k) at whole = tt
    is_text (Fixed t) at whole = tt
    is_text Vacant at whole = never whole
    is_text v at whole = absurd at

    there : TextAt w.heap d.stands m b text
    there = text_at_handle z.StandsFixed d w m x.here.holds.heap (sized z low top (shaped z h) d w m x) x.bytes (z.fixed m x.same) b v
        (is_text v stands (and_parts (is_there w from) (is_whole w v) seen).1) stands (and_parts (is_there w from) (is_whole w v) seen).1

    abbrev q : AppendingText
    q = copy_use z.StandsFixed z.law d w m x.here.holds.heap (sized z low top (shaped z h) d w m x) a b text there

    source_long : length (source_bytes there.source) ≡ long
    source_long = ap length there.bytes

    room_is : may_grow q.appending.growth ≡ room_in w None long
    room_is = first_room z.StandsFixed d w m x.here.holds.heap 0 (length (source_bytes there.source)) ∙ ap (room_in w None) source_long

    kept_none : (y : Source) → IsKept q.appending.growth y
    kept_none (Outside at bytes) = tt
    kept_none (Inside y count) = λ o e. absurd (none-some o e)

    may : (may_grow q.appending.growth ≡ true → MayHave m a) → MayCopyText own_data_at q m
    may has = record {
      none = refl;
      from = there.handle;
      has = has;
      appending = record {
        growth = may_grow_new z.StandsFixed z.law d w m x.here.holds.heap (sized z low top (shaped z h) d w m x) (length (source_bytes there.source)) there.few;
        source = is_source q.appending.growth m there.source there.is (kept_none there.source);
        wanted = omega arith;
      };
    }

    comes : (may_grow q.appending.growth ≡ true → MayHave m a)
        → CalledComes live procs (copies_text own_data_at) q s.1 to rest (if may_grow q.appending.growth then None else Some 1)
    comes has = kept q s.1 to rest calling (sized z low top (shaped z h) d w m x) (may has)

    few_lines : (n : ℕ) → long ≤ n → (copies_text own_data_at).lines q ≤ copy_pace * (8 + n)
    few_lines n le = let f = new_few q.appending.growth refl in omega (arith, f, le, source_long)

    left : (other : Memory) → AreContentsPut own_data_at (appended_text q) m other
        → LeavesHandle z.StandsFixed d (heap_fresh w.heap long (Characters text)) m other a (shape z ty) long long (block_fresh w.heap long)
    left other put =
        subst (λ t. LeavesHandle z.StandsFixed d (heap_fresh w.heap long (Characters text)) m other a t long long (block_fresh w.heap long)) (sym is_block)
        (copied z.StandsFixed z.law d w m x.here.holds.heap (sized z low top (shaped z h) d w m x) a b text there other put)

    abbrev Came_so : Done (Unit {0}) → Type 0
    Came_so done =
        Comes z.table (surroundings z) live procs fresh_bytes low top h d (AnyWord z.table (surroundings z) live procs fresh_bytes) s to rest
        (λ n. copy_pace * n) done

    abbrev taken : Done Value
    taken = perform (fresh long long (Characters text)) w

    -- where a block was taken, or none was needed
    module _ (es : List Event) (n : ℕ) (u : Value) (w1 : World) (e : taken ≡ Answers es n u w1) (live_then : is_there w1 l ≡ true) where
      came : Came long (room_in w None long) w.input (Answers es n u w1)
      came = subst (Came long (room_in w None long) w.input) e (fresh_came w long long (Characters text) (λ i. i) (λ i. i))

      is_fresh : IsFresh w long long (Characters text) w1 taken
      is_fresh = fresh_world w long long (Characters text) (λ i. i) (λ i. i) w1 (ap answered e)

      value : u ≡ Handle long (block_fresh w.heap long)
      value = same_Some u (Handle long (block_fresh w.heap long)) (sym (ap answer e) ∙ is_fresh.value)

      grows : may_grow q.appending.growth ≡ true
      grows = room_is ∙ came.2

      back : ComesBack live procs (copies_text own_data_at) q s.1 to rest
      back = subst (λ o. CalledComes live procs (copies_text own_data_at) q s.1 to rest o) (ap (λ c. if c then None else Some 1) grows)
          (comes (λ i. may_have z low top h d w m x l a ty leads blocky long long (Characters text) w1 is_fresh.is.heap is_fresh.is.frames is_fresh.is.hand
          came.3 live_then))

      put : AreContentsPut own_data_at (appended_text q) m back.memory
      put = subst (λ c. PutLeaves c own_data_at (appended_text q) m back.memory) grows back.leaves

      abbrev put_args : LeavesHandle z.StandsFixed d (heap_fresh w.heap long (Characters text)) m back.memory a (shape z ty) long long (block_fresh w.heap long)
      put_args = left back.memory put

      is_back : IsBack z.table (surroundings z) live procs fresh_bytes low top h d (λ e word. Unit {0}) s to rest (store w1 l u) (copy_pace * (8 + (n + 0)))
      is_back = record {
        memory = back.memory;
        word = back.word;
        after = (fresh_put z low top h d w m x l a ty leads blocky long long (Characters text) w1 is_fresh.is.heap is_fresh.is.frames is_fresh.is.hand came.3
            live_then back.memory put_args).after;
        ahead = put_later z low top h d w m x l a ty leads blocky long long (Characters text) w1 is_fresh.is.heap is_fresh.is.frames is_fresh.is.hand came.3
            live_then back.memory put_args;
        here = subst (λ i. IsHere z low top (shaped z h) (fresh_put z low top h d w m x l a ty leads blocky long long (Characters text) w1 is_fresh.is.heap
            is_fresh.is.frames is_fresh.is.hand came.3 live_then back.memory put_args).after (store w1 l i) back.memory) (sym value)
            (put_here z low top h d w m x l a ty leads blocky long long (Characters text) w1 is_fresh.is.heap is_fresh.is.frames is_fresh.is.hand came.3
            live_then back.memory put_args);
        gives = tt;
        lines = back.lines;
        few = (let f = back.few in let g = few_lines n came.1 in omega (arith, f, g));
        behind = (back.steps fresh_bytes s.0).0;
        runs = subst (λ fs. Steps (step_of live procs fresh_bytes) back.lines s fs back.lines
            ((back.steps fresh_bytes s.0).0, goes_on s.1 to back.word rest back.memory s.1.input))
            (ap (λ c. if c then [] else writes Err (trap_line OutOfMemory)) grows) (back.steps fresh_bytes s.0).1;
      }

    after_fresh : (done : Done Value) → taken ≡ done → Came_so (behind [] 8 (done_then done (λ u w1. perform (sets l u) w1)))
    after_fresh (Answers es n u w1) e = by (is_there w1 l) refl
      where
        by : (c : Bool) → is_there w1 l ≡ c → Came_so (behind [] 8 (behind es n (perform (unless_gone c (does (Stores l u))) w1)))
        by false i = tt
        by true i = (ap (λ fs. fs ++ []) (came es n u w1 e i).0, is_back es n u w1 e i)
    after_fresh (Finishes es n status w1) e =
        let c = subst (Came long (room_in w None long) w.input) e (fresh_came w long long (Characters text) (λ i. i) (λ i. i)) in
        let full : may_grow q.appending.growth ≡ false = room_is ∙ c.2 in
        let ends : EndsProgram live procs (copies_text own_data_at) q s.1 1 =
        subst (λ o. CalledComes live procs (copies_text own_data_at) q s.1 to rest o) (ap (λ b. if b then None else Some 1) full)
        (comes (λ i. never (sym full ∙ i))) in
        let shown : (if may_grow q.appending.growth then [] else writes Err (trap_line OutOfMemory)) ≡ es
        = ap (λ b. if b then [] else writes Err (trap_line OutOfMemory)) full ∙ sym c.0 in (
          c.3,
          record {
            lines = (copies_text own_data_at).lines q;
            few = few_lines n c.1;
            stops = subst (λ k. Stops (step_of live procs fresh_bytes) s es ((copies_text own_data_at).lines q) k no_objects) (sym c.3)
                (subst (λ fs. Stops (step_of live procs fresh_bytes) s fs ((copies_text own_data_at).lines q) 1 no_objects) shown
                (subst (λ o. Stops (step_of live procs fresh_bytes) s ((copies_text own_data_at).shows q) ((copies_text own_data_at).lines q) 1 o)
                (none ends.memory) (ends.stops fresh_bytes s.0)));
          },
        )
    after_fresh (Fails es n w1) e = tt

    pub text_copied : Came_so (perform (costs 8 (fresh long long (Characters text)) >>= sets l) w)
    text_copied =
        subst (λ done. Came_so (behind [] 8 done)) (sym (performs_then (fresh long long (Characters text)) (λ u. sets l u) w)) (after_fresh taken refl)

  pub copies_text_it : CopiesText z.table (surroundings z) live procs fresh_bytes
  copies_text_it low top h d w s to rest l from a b ty called leads leads_from entry =
      subst (λ (f : Form). Comes z.table (surroundings z) live procs fresh_bytes low top h d (AnyWord z.table (surroundings z) live procs fresh_bytes) s to rest
      (λ n. copy_pace * n) (perform (walk (walk_of Copies) f l from) w)) (sym (form_at z.table z.is_table z.have ty D.Text entry))
      (by (is_seen w from) refl)
    where
      by : (c : Bool) → is_seen w from ≡ c
          → Comes z.table (surroundings z) live procs fresh_bytes low top h d (AnyWord z.table (surroundings z) live procs fresh_bytes) s to rest
          (λ n. copy_pace * n) (perform (unless_gone c (costs 8 (fresh (length (text_of w (load w from))) (length (text_of w (load w from)))
          (Characters (text_of w (load w from)))) >>= sets l)) w)
      by false e = tt
      by true e = text_copied low top h d w s to rest l from a b ty called.calling called.here leads leads_from entry e

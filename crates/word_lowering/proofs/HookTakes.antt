-- A hook makes a sequence by the routine of the heap: with a block of its own, in which nothing stands yet.
use Rattle.std.proofs.Common.{◌≡◌, ◌⊎◌, inl, inr, ℕ, zero, suc, ◌+◌, ◌-◌, ◌*◌, ◌%◌, ◌/◌, ◌^◌, ◌<◌, ◌≤◌, Bool, true, false}
use Rattle.std.proofs.Common.{List, [], ◌∷◌, ◌++◌, Some, None, Result, Ok}
use Rattle.std.proofs.Common.{refl, sym, ap, subst, ◌∙◌, arith, div-lt_iff_lt-mul}
use Rattle.std.specs.Prelude.{slice_get, nat_le, if◌then◌else◌}
use Rattle.std.proofs.lemmas.Bool.{leb-true, lt-leb, cases_lt}
use Rattle.std.proofs.lemmas.Option.{same_Some}
use Rattle.arc_base.specs.declared.outside.Stream.TheVariants.{Err}
use Rattle.arc_base.specs.Behaviour.{no_objects}
use Rattle.arc_base.specs.Simulation.{Steps, Stops}
use Rattle.arc_base.specs.Event.{Event, writes}
use Rattle.nim_types.specs.Forms.{Form, HasForm}
use Rattle.nim_types.specs.Table.{facts_in, type_at, types_in}
use Rattle.nim_types.specs.declared.types.TypeDef.TheVariants as D
use Rattle.nim_types.proofs.ForCallers.{the_form}
use Rattle.nim_program.specs.Traps.{OutOfMemory}
use Rattle.nim_meaning.specs.Heap.{Contents, Elements}
use Rattle.nim_meaning.specs.Lifted.{fresh, has_place}
use Rattle.nim_meaning.specs.OwnedRows.{element_of}
use Rattle.nim_meaning.specs.Values.{Value, Handle, Location, repeated, vacant}
use Rattle.nim_meaning.specs.State.{World, store, is_there}
use Rattle.nim_meaning.specs.Deeds.{Stores, Done, Answers, Finishes, Fails, behind, give, perform, unless_gone, does, sets, ◌>>=◌, ◌>>◌}
use Rattle.flat_code.specs.Lines.{form_in}
use Rattle.flat_code.specs.Scene.{known_in}
use Rattle.flat_code.specs.Shapes.{Shape, elements}
use Rattle.rv32_isa.specs.Machine.{Lives}
use Rattle.word_code.specs.declared.word.WordInstr.{WordInstr}
use Rattle.word_code.specs.declared.word.WordProc.{WordProc}
use Rattle.word_code.specs.Memory.{Memory, as_state, own_data_at}
use Rattle.word_code.specs.RoutineTable.{trap_line}
use Rattle.word_code.specs.Routines.{IsCalling, ComesBack, EndsProgram, Comes as CalledComes, goes_on}
use Rattle.word_code.specs.Words.{WordState, Fresh, step_of}
use Rattle.heap_memory.specs.declared.numbers.TheConstants.{SEQ_NEW}
use Rattle.heap_memory.specs.GrowRoutine.{may_grow}
use Rattle.heap_memory.specs.HandleRoutines.{MayHave, AreContentsPut, PutLeaves}
use Rattle.heap_memory.specs.HeapRoutines.{IsKeptThere}
use Rattle.heap_memory.specs.SequenceRoutines.{MayPutSequence, ResizingSequence, most_payload, bytes_for, sequence_resized, puts_sequence}
use Rattle.hook_lifting.specs.Lifting.{taken_for}
use Rattle.hook_lifting.proofs.ForCallers.{done_then, performs_then, form_at}
use Rattle.hook_code.specs.HookCode.{bytes_at as size_at}
use Rattle.hook_code.specs.Surroundings.{Hand as HookHand, IsFull}
use Rattle.hook_code.specs.Promises.{Comes, Takes, IsBack, take_most}
use Rattle.word_lowering.proofs.Blocks.{Blocks, IsPlace}
use Rattle.word_lowering.proofs.BlocksMade.{heap_fresh, block_fresh, block_resized}
use Rattle.word_lowering.proofs.FreshRows.{IsFresh, answer, fresh_world, first_block, first_heap}
use Rattle.word_lowering.proofs.HandlesPut.{LeavesHandle}
use Rattle.word_lowering.proofs.HeapWanted.{room_in, fresh_came}
use Rattle.word_lowering.proofs.HookCopies.{new_few}
use Rattle.word_lowering.proofs.HookFresh.{may_have, middle_here, put_here, put_later, fresh_put}
use Rattle.word_lowering.proofs.HookHomes.{HookHomes, IsHere, sized}
use Rattle.word_lowering.proofs.HookLeads.{IsHandle, handle_later}
use Rattle.word_lowering.proofs.HookSteps.{seq_shape}
use Rattle.word_lowering.proofs.HookSurroundings.{shape, shaped, IsLed, AreWords, surroundings}
use Rattle.word_lowering.proofs.HookWords.{IsBlocky, IsThen}
use Rattle.word_lowering.proofs.ResizedWorlds.{answered}
use Rattle.word_lowering.proofs.RowRuns.{Came}
use Rattle.word_lowering.proofs.SequencesPut.{growing, may_grow_so}
use Rattle.word_lowering.proofs.SequencesResized.{longer_put}
use Rattle.word_lowering.proofs.ShapeFacts.{never, shape_bytes}
use Rattle.word_lowering.proofs.ShapePaths.{shape_some}
use Rattle.word_lowering.proofs.TooLong.{over, no_place, no_growth}
use Rattle.word_lowering.proofs.TypeShapes.{has_form, type_bytes}
use Rattle.word_lowering.proofs.VacantShapes.{vacant_there}
use Rattle.word_lowering.proofs.WantOfHeap.{first_room}

-- ---- what the routine promises

-- what was read
abbrev number_or : {E : Type 0} → ℕ → Result ℕ E → ℕ
number_or z (Ok n) = n
number_or z r = z

-- ---- so many bytes fit, or no block holds them

data Fitting (n size : ℕ) : Type 0 where
  it_fits : bytes_for n size ≡ n * size → n * size < 2 ^ 32 → Fitting n size
  too_many : bytes_for n size ≡ suc most_payload → Fitting n size

fitting : (n size : ℕ) → 0 < size → Fitting n size
fitting n size some = by (nat_le n (most_payload / size)) refl
  where
    by : (b : Bool) → nat_le n (most_payload / size) ≡ b → Fitting n size
    by true h = it_fits (ap (λ c. if c then n * size else suc most_payload) h) (small (cases_lt most_payload (n * size)))
      where
        few : n ≤ most_payload / size
        few = leb-true n (most_payload / size) h

        small : (most_payload < n * size) ⊎ (n * size ≤ most_payload) → n * size < 2 ^ 32
        small (inl more) = let above = (div-lt_iff_lt-mul some).1 more in absurd (omega (arith, above, few))
        small (inr le) = omega (arith, le)
    by false h = too_many (ap (λ c. if c then n * size else suc most_payload) h)

module _ (z : HookHomes) (live : Lives) (none : (m : Memory) → live (as_state m) ≡ no_objects) (procs : List WordProc) (fresh_bytes : Fresh)
    (kept : IsKeptThere live procs (puts_sequence own_data_at))
    (elements_small : (ty of : ℕ) → slice_get z.table ty ≡ Some (D.Seq of) → size_at z.table of < 2 ^ 32) where
  module _ (low top : ℕ) (h : HookHand) (d : Blocks) (w : World) (s : ℕ × WordState) (to : ℕ) (rest : List WordInstr) (l : Location) (a ty n of : ℕ)
      (calling : IsCalling SEQ_NEW (a ∷ n ∷ size_at z.table of % 2 ^ 32 ∷ []) to rest s.1) (x : IsHere z low top (shaped z h) d w s.1.memory)
      (leads : IsLed z true h d l a ty) (entry : slice_get z.table ty ≡ Some (D.Seq of)) (few : n < 2 ^ 32) where
    abbrev m : Memory
    m = s.1.memory

    abbrev t : Shape
    t = shape z of

    abbrev form : Form
    form = form_in (known_in z.table) of

    abbrev each : ℕ
    each = size_at z.table of

    abbrev bytes : ℕ
    bytes = n * each

    abbrev all : Contents
    all = Elements (repeated n (vacant form))

    formed : HasForm (facts_in z.table) (type_at (types_in z.table) of) form
    formed =
        let f = has_form z.table z.is_table z.have of in
        subst (λ g. HasForm (facts_in z.table) (type_at (types_in z.table) of) g) (sym (the_form f.1)) f.1

    is_seq : shape z ty ≡ elements t
    is_seq = seq_shape z.table z.is_table z.have ty of entry

    blocky : IsBlocky (shape z ty)
    blocky = subst IsBlocky (sym is_seq) tt

    each_is : each ≡ shape_bytes t
    each_is = type_bytes z.table z.is_table z.have of

    bytes_are : n * shape_bytes t ≡ bytes
    bytes_are = ap (λ k. n * k) (sym each_is)

    some : 0 < shape_bytes t
    some = let e = shape_some t in omega (arith, e)

    no_bytes : n ≡ 0 → bytes ≡ 0
    no_bytes e = ap (λ k. k * each) e ∙ (let q : 0 * each ≡ 0 = omega arith in q)

    no_elements : bytes ≡ 0 → n ≡ 0
    no_elements e = by n e
      where
        by : (k : ℕ) → k * each ≡ 0 → k ≡ 0
        by zero e = refl
        by (suc k) e = let q = each_is in let p = some in absurd (omega (arith, e, q, p))

    abbrev asked_for : (wanted : ℕ) → ResizingSequence
    asked_for wanted = record {
      to = a;
      count = 0;
      size = shape_bytes t;
      length = n;
      growth = growing z.StandsFixed z.law d w m x.here.holds.heap (sized z low top (shaped z h) d w m x) x.bytes t a 0 None refl tt wanted;
    }

    abbrev asked : ResizingSequence
    asked = asked_for (bytes_for n (shape_bytes t))

    wanted_small : bytes_for n (shape_bytes t) < 2 ^ 32
    wanted_small = by (fitting n (shape_bytes t) some)
      where
        by : Fitting n (shape_bytes t) → bytes_for n (shape_bytes t) < 2 ^ 32
        by (it_fits e small) = omega (arith, e, small)
        by (too_many e) = omega (arith, e)

    may : (may_grow asked.growth ≡ true → MayHave m a) → MayPutSequence own_data_at asked m
    may has = record {
      none = refl;
      has = has;
      growth = may_grow_so z.StandsFixed z.law d w m x.here.holds.heap (sized z low top (shaped z h) d w m x) x.bytes t a 0 None refl tt
          (bytes_for n (shape_bytes t)) wanted_small;
      some = some;
      few = few;
      wanted = refl;
    }

    comes : (may_grow asked.growth ≡ true → MayHave m a)
        → CalledComes live procs (puts_sequence own_data_at) asked s.1 to rest (if may_grow asked.growth then None else Some 1)
    comes has =
        kept asked s.1 to rest
        (subst (λ k. IsCalling SEQ_NEW (a ∷ n ∷ k ∷ []) to rest s.1)
        (let e = elements_small ty of entry in let q : each % 2 ^ 32 ≡ each = omega (arith, e) in q ∙ each_is) calling)
        (sized z low top (shaped z h) d w m x) (may has)

    -- it has room where the meaning has
    room_is : may_grow asked.growth ≡ room_in w None bytes
    room_is = by (fitting n (shape_bytes t) some)
      where
        by : Fitting n (shape_bytes t) → may_grow asked.growth ≡ room_in w None bytes
        by (it_fits e small) =
            first_room z.StandsFixed d w m x.here.holds.heap (0 * shape_bytes t) (bytes_for n (shape_bytes t)) ∙ ap (room_in w None) (e ∙ bytes_are)
        by (too_many e) =
            let over_n = over n (shape_bytes t) some e in
            let more : most_payload < bytes = (let q = bytes_are in omega (arith, over_n, q)) in
            no_growth z.StandsFixed d w m x.here.holds.heap (suc most_payload) (omega arith) asked.growth e refl (lt-leb (suc most_payload) 0 (omega arith))
            ∙ sym (no_place z.StandsFixed d w m x.here.holds.heap bytes more None (no_block bytes more))
          where
            no_block : (k : ℕ) → most_payload < k → has_place w None k ≡ false
            no_block zero more = absurd (omega (arith, more))
            no_block (suc k) more = refl

    few_lines : (k : ℕ) → bytes ≤ k → (puts_sequence own_data_at).lines asked ≤ take_most + 4 * k
    few_lines k le = by (fitting n (shape_bytes t) some)
      where
        by : Fitting n (shape_bytes t) → (puts_sequence own_data_at).lines asked ≤ take_most + 4 * k
        by (it_fits e small) =
            let f = new_few asked.growth (let q : 0 * shape_bytes t ≡ 0 = omega arith in q) in let b = bytes_are in omega (arith, f, e, b, le)
        by (too_many e) =
            let f = new_few asked.growth (let q : 0 * shape_bytes t ≡ 0 = omega arith in q) in let b = bytes_are in
            let more = over n (shape_bytes t) some e in omega (arith, f, e, b, le, more)

    -- memory behind it, where it had room
    left : may_grow asked.growth ≡ true → (other : Memory) → AreContentsPut own_data_at (sequence_resized asked) m other
        → LeavesHandle z.StandsFixed d (heap_fresh w.heap bytes all) m other a (shape z ty) n bytes (block_fresh w.heap bytes)
    left grows other put = by (fitting n (shape_bytes t) some)
      where
        by : Fitting n (shape_bytes t) → LeavesHandle z.StandsFixed d (heap_fresh w.heap bytes all) m other a (shape z ty) n bytes (block_fresh w.heap bytes)
        by (too_many e) =
            never (sym (no_growth z.StandsFixed d w m x.here.holds.heap (suc most_payload) (omega arith) asked.growth e refl
            (lt-leb (suc most_payload) 0 (omega arith))) ∙ grows)
        by (it_fits e small) =
            let p : AreContentsPut own_data_at (sequence_resized (asked_for (n * shape_bytes t))) m other
            = subst (λ k. AreContentsPut own_data_at (sequence_resized (asked_for k)) m other) e put in
            let y = longer_put z.StandsFixed z.law d w m x.here.holds.heap (sized z low top (shaped z h) d w m x) x.bytes t a 0 None refl tt n few some e
            small (omega arith) (vacant form) other p (λ later ahead at zeros. vacant_there z.table z.StandsFixed later p.middle formed at) in
            let all_new : n - 0 ≡ n = omega arith in
            subst (λ q. LeavesHandle z.StandsFixed d (heap_fresh w.heap bytes all) m other a q n bytes (block_fresh w.heap bytes)) (sym is_seq)
            (subst (λ k. LeavesHandle z.StandsFixed d (heap_fresh w.heap k all) m other a (elements t) n k (block_fresh w.heap k)) bytes_are
            (subst (λ i. LeavesHandle z.StandsFixed d (heap_fresh w.heap (n * shape_bytes t) (Elements (repeated i (vacant form)))) m other a (elements t) n
            (n * shape_bytes t) (block_fresh w.heap (n * shape_bytes t))) all_new
            (subst (λ o. LeavesHandle z.StandsFixed d (heap_fresh w.heap (n * shape_bytes t) (Elements (repeated (n - 0) (vacant form)))) m other a (elements t)
            n (n * shape_bytes t) o) (first_block w (n * shape_bytes t))
            (subst (λ after. LeavesHandle z.StandsFixed d after m other a (elements t) n (n * shape_bytes t)
            (block_resized (has_place w None (n * shape_bytes t)) w.heap None))
            (first_heap w (n * shape_bytes t) (Elements (repeated (n - 0) (vacant form)))) y))))

    abbrev Came_so : Done Value → Type 0
    Came_so done =
        Comes z.table (surroundings z) live procs fresh_bytes low top h d (λ v e word. IsFull v × AreWords z true e ty v n (word % 2 ^ 32)) s to rest
        (λ k. take_most + 4 * k) done

    abbrev taken : Done Value
    taken = perform (fresh n bytes all) w

    -- where a block was taken, or none was needed
    module _ (es : List Event) (k : ℕ) (u : Value) (w1 : World) (e : taken ≡ Answers es k u w1) (live_then : is_there w1 l ≡ true) where
      came : Came bytes (room_in w None bytes) w.input (Answers es k u w1)
      came = subst (Came bytes (room_in w None bytes) w.input) e (fresh_came w n bytes all no_bytes no_elements)

      is_fresh : IsFresh w n bytes all w1 taken
      is_fresh = fresh_world w n bytes all no_bytes no_elements w1 (ap answered e)

      value : u ≡ Handle n (block_fresh w.heap bytes)
      value = same_Some u (Handle n (block_fresh w.heap bytes)) (sym (ap answer e) ∙ is_fresh.value)

      grows : may_grow asked.growth ≡ true
      grows = room_is ∙ came.2

      back : ComesBack live procs (puts_sequence own_data_at) asked s.1 to rest
      back = subst (λ o. CalledComes live procs (puts_sequence own_data_at) asked s.1 to rest o) (ap (λ c. if c then None else Some 1) grows)
          (comes (λ i. may_have z low top h d w m x l a ty leads blocky n bytes all w1 is_fresh.is.heap is_fresh.is.frames is_fresh.is.hand came.3
          live_then))

      put : AreContentsPut own_data_at (sequence_resized asked) m back.memory
      put = subst (λ c. PutLeaves c own_data_at (sequence_resized asked) m back.memory) grows back.leaves

      abbrev q : LeavesHandle z.StandsFixed d (heap_fresh w.heap bytes all) m back.memory a (shape z ty) n bytes (block_fresh w.heap bytes)
      q = left grows back.memory put

      -- the word that comes back is the place of the handle
      is_place : q.handle.place ≡ back.word % 2 ^ 32
      is_place =
          let same : q.handle.place ≡ back.gives.place = ap (number_or 0) (sym q.handle.there ∙ back.gives.handle.there) in
          let is = back.gives.is in let near = q.handle.near in omega (arith, same, is, near)

      handle_so : IsHandle z.StandsFixed q.after (shape z ty) (Handle n (block_fresh w.heap bytes)) n (back.word % 2 ^ 32)
      handle_so = record {
        few = few;
        near = (let e = is_place in let near = q.handle.near in omega (arith, e, near));
        are = record { length = refl; empty = q.handle.empty; place = subst (IsPlace q.after (shape z ty) (block_fresh w.heap bytes)) is_place q.handle.is };
      }

      abbrev f : IsThen z low top (shaped z h) q.after w1 q.middle
          (middle_here z low top h d w m x l a ty leads blocky n bytes all w1 is_fresh.is.heap is_fresh.is.frames is_fresh.is.hand came.3 live_then
          back.memory q)
          l (Handle n (block_fresh w.heap bytes)) back.memory
      f = fresh_put z low top h d w m x l a ty leads blocky n bytes all w1 is_fresh.is.heap is_fresh.is.frames is_fresh.is.hand came.3 live_then back.memory q

      is_back : IsBack z.table (surroundings z) live procs fresh_bytes low top h d (λ e word. IsFull u × AreWords z true e ty u n (word % 2 ^ 32)) s to rest
          (store w1 l u) (take_most + 4 * (k + 0))
      is_back = record {
        memory = back.memory;
        word = back.word;
        after = f.after;
        ahead = put_later z low top h d w m x l a ty leads blocky n bytes all w1 is_fresh.is.heap is_fresh.is.frames is_fresh.is.hand came.3 live_then
            back.memory q;
        here = subst (λ i. IsHere z low top (shaped z h) f.after (store w1 l i) back.memory) (sym value)
            (put_here z low top h d w m x l a ty leads blocky n bytes all w1 is_fresh.is.heap is_fresh.is.frames is_fresh.is.hand came.3 live_then
            back.memory q);
        gives = subst (λ i. IsFull i × AreWords z true f.after ty i n (back.word % 2 ^ 32)) (sym value)
            (tt, inl (handle_later z.StandsFixed q.after f.after f.ahead (shape z ty) (Handle n (block_fresh w.heap bytes)) n (back.word % 2 ^ 32) handle_so));
        lines = back.lines;
        few = (let g = back.few in let c = few_lines k came.1 in omega (arith, g, c));
        behind = (back.steps fresh_bytes s.0).0;
        runs = subst (λ fs. Steps (step_of live procs fresh_bytes) back.lines s fs back.lines
            ((back.steps fresh_bytes s.0).0, goes_on s.1 to back.word rest back.memory s.1.input))
            (ap (λ c. if c then [] else writes Err (trap_line OutOfMemory)) grows) (back.steps fresh_bytes s.0).1;
      }

    after_fresh : (done : Done Value) → taken ≡ done → Came_so (done_then done (λ u w1. perform (sets l u >> give u) w1))
    after_fresh (Answers es k u w1) e = by (is_there w1 l) refl
      where
        by : (c : Bool) → is_there w1 l ≡ c → Came_so (behind es k (perform (unless_gone c (does (Stores l u)) >>= (λ _. give u)) w1))
        by false i = tt
        by true i = (ap (λ fs. fs ++ []) (came es k u w1 e i).0, is_back es k u w1 e i)
    after_fresh (Finishes es k status w1) e =
        let c = subst (Came bytes (room_in w None bytes) w.input) e (fresh_came w n bytes all no_bytes no_elements) in
        let full : may_grow asked.growth ≡ false = room_is ∙ c.2 in
        let ends : EndsProgram live procs (puts_sequence own_data_at) asked s.1 1 =
        subst (λ o. CalledComes live procs (puts_sequence own_data_at) asked s.1 to rest o) (ap (λ b. if b then None else Some 1) full)
        (comes (λ i. never (sym full ∙ i))) in
        let shown : (if may_grow asked.growth then [] else writes Err (trap_line OutOfMemory)) ≡ es
        = ap (λ b. if b then [] else writes Err (trap_line OutOfMemory)) full ∙ sym c.0 in (
          c.3,
          record {
            lines = (puts_sequence own_data_at).lines asked;
            few = few_lines k c.1;
            stops = subst (λ i. Stops (step_of live procs fresh_bytes) s es ((puts_sequence own_data_at).lines asked) i no_objects) (sym c.3)
                (subst (λ fs. Stops (step_of live procs fresh_bytes) s fs ((puts_sequence own_data_at).lines asked) 1 no_objects) shown
                (subst (λ o. Stops (step_of live procs fresh_bytes) s ((puts_sequence own_data_at).shows asked) ((puts_sequence own_data_at).lines asked) 1 o)
                (none ends.memory) (ends.stops fresh_bytes s.0)));
          },
        )
    after_fresh (Fails es k w1) e = tt

    pub sequence_taken : Came_so (perform (taken_for form n l) w)
    sequence_taken = subst Came_so (sym (performs_then (fresh n bytes all) (λ u. sets l u >> give u) w)) (after_fresh taken refl)

  pub takes_it : Takes z.table (surroundings z) live procs fresh_bytes
  takes_it low top h d w s to rest l a ty n of called leads entry few =
      subst (λ f. Comes z.table (surroundings z) live procs fresh_bytes low top h d (λ v e word. IsFull v × AreWords z true e ty v n (word % 2 ^ 32)) s to rest
      (λ k. take_most + 4 * k) (perform (taken_for (element_of f) n l) w)) (sym (form_at z.table z.is_table z.have ty (D.Seq of) entry))
      (sequence_taken low top h d w s to rest l a ty n of called.calling called.here leads entry few)

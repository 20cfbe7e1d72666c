-- The row that reads a line into the text at a location: what its word code does, by what its deed comes to.
use Rattle.std.proofs.Common.{◌≡◌, ◌≢◌, inl, inr, ℕ, suc, ◌+◌, ◌*◌, ◌<◌, ◌≤◌, List, [], ◌∷◌, length, drop, Option, Some, None, Bool, true, false}
use Rattle.std.proofs.Common.{refl, sym, ap, ap₂, subst, ◌∙◌, arith, ◌⊎◌}
use Rattle.std.specs.Prelude.{slice_get, slice_set}
use Rattle.std.proofs.lemmas.Option.{none-some, same_Some}
use Rattle.nim_program.specs.Ints.{truth}
use Rattle.nim_types.specs.Forms.{block as text_form}
use Rattle.nim_meaning.specs.Values.{Value, Handle, Number, Vacant, Base, Standing, Waiting, InBlock, InHand, InException, Made, Holds, Location, block_of}
use Rattle.nim_meaning.specs.Values.{is_handle, length_of}
use Rattle.nim_meaning.specs.Values.{part, put_part}
use Rattle.nim_meaning.specs.Heap.{Block, Heap, block_at, flat, given}
use Rattle.nim_meaning.specs.State.{Frame, World, awaited, frame_in, held, hand_value, has_item, contents_value, is_full_at, is_seen, is_so_in, is_there}
use Rattle.nim_meaning.specs.State.{bytes_left, leads_from}
use Rattle.nim_meaning.specs.State.{load, slot_of, store, stored}
use Rattle.nim_meaning.specs.State.{temporary_in, whole_at, with_slot_of, with_temporary_in, with_value_in}
use Rattle.nim_meaning.specs.Deeds.{Deed, Done, Answers, Errs, Finishes, Fails, Pops, costs, does, frees, give, perform, sets, ◌>>=◌, ◌>>◌}
use Rattle.nim_meaning.specs.Lifted.{ends_at, in_hand, given_up, left_vacant, replaced}
use Rattle.nim_meaning.specs.OwnedRows.{each_appended, line_or_none, line_read, next_line, up_to_feed}
use Rattle.flat_code.specs.Shapes.{block}
use Rattle.rv32_isa.specs.Regions.{as_bytes}
use Rattle.rv32_isa.specs.Machine.{Lives}
use Rattle.word_code.specs.declared.word.WordInstr.{WordInstr}
use Rattle.word_code.specs.declared.word.WordProc.{WordProc}
use Rattle.word_code.specs.Memory.{Memory, own_data_at}
use Rattle.word_code.specs.Words.{Vars}
use Rattle.word_code.proofs.ForCallers.{MemoryLaw, Within, at, sizes_same}
use Rattle.heap_memory.specs.HandleRoutines.{MayHave}
use Rattle.heap_memory.specs.LineRoutine.{IsKeptOn, empty_text, line_fits, line_then}
use Rattle.heap_memory.specs.TextReading.{IsLinePut, LineLeaves, ReadingText, reads_text, to_scratch}
use Rattle.heap_memory.specs.TextRoutines.{AreBytes}
use Rattle.word_lowering.specs.declared.handed.Handed.TheVariants.{Where}
use Rattle.word_lowering.specs.declared.homes.TheConstants.{FOURTH}
use Rattle.word_lowering.specs.declared.homes.Home.{Home as Place}
use Rattle.word_lowering.specs.Operations.{word}
use Rattle.word_lowering.specs.RoutineCode.{read_code}
use Rattle.word_lowering.proofs.DeedFrames.{IsPutSo, put_frames}
use Rattle.word_lowering.proofs.BaseValues.{HoldsAt}
use Rattle.word_lowering.proofs.BlockHomes.{FromBlock, Home, HomesHold, LeadsTo, SameOrApart}
use Rattle.word_lowering.proofs.BlockPaths.{leads_later}
use Rattle.word_lowering.proofs.BlockWrites.{Put}
use Rattle.word_lowering.proofs.Blocks.{Blocks, IsHandle}
use Rattle.word_lowering.proofs.BlocksBorn.{later_more, later_same}
use Rattle.word_lowering.proofs.FreshRows.{answer, behind_answer}
use Rattle.word_lowering.proofs.HandleRows.{handle_put_at, homes_then}
use Rattle.word_lowering.proofs.HandlesPut.{LeavesHandle, block_of_text}
use Rattle.word_lowering.proofs.HeapWanted.{IsStill, branch_still, came_works, followed, frees_still, perform_then, sets_still, still_then, then_came}
use Rattle.word_lowering.proofs.LineCame.{each_came, least_work, lines_few}
use Rattle.word_lowering.proofs.LineHeaps.{first_linked, line_leaves, linked, may_read, now, read_use, text_is}
use Rattle.word_lowering.proofs.LinesRead.{Line}
use Rattle.word_lowering.proofs.LineUnderWay.{given_slot}
use Rattle.word_lowering.proofs.LineWorlds.{Followed, LineDone, Replaced, ends_line, first_alike, first_world, given_of, line_done, line_text, no_line}
use Rattle.word_lowering.proofs.LineWorlds.{read_world}
use Rattle.word_lowering.proofs.LineWorlds.{replaced_done, then_done, there}
use Rattle.word_lowering.proofs.OrdinalRuns.{AllBut, but_over, put_here}
use Rattle.word_lowering.proofs.ResizedRows.{IsAway, MayWrite, beside, homes_alike}
use Rattle.word_lowering.proofs.ResizedWorlds.{AreAlike, IsBeside, alike_more, answered, given_put, same_put}
use Rattle.word_lowering.proofs.RoutinesCalled.{IsFirst}
use Rattle.word_lowering.proofs.RowRuns.{Came, ROW_PACE, RowDoes, done_behind}
use Rattle.word_lowering.proofs.RowsLeft.{IsLeft, handle_beside}
use Rattle.word_lowering.proofs.TextRowRuns.{IsAt, TEXT_SPARE}
use Rattle.word_lowering.proofs.TextRows.{Mine, away as text_is_away, there as text_there}

-- ---- deeds that only look, work and change what isn't the input

ends_still : (l : Location) → IsStill (ends_at text_form l)
ends_still l w =
    branch_still (is_seen w l) (left_vacant (8 + length_of (load w l)) l (load w l)) Errs
    (branch_still (is_handle (load w l)) (costs (8 + length_of (load w l)) (sets l Vacant >> frees (block_of (load w l)))) Errs
    (still_then (sets l Vacant) (λ _. frees (block_of (load w l))) (sets_still l Vacant) (λ _. frees_still (block_of (load w l)))) tt) tt

given_up_still : (v : Value) → IsStill (given_up text_form v)
given_up_still v w = (tt, still_then (ends_at text_form (in_hand w)) (λ _. does Pops) (ends_still (in_hand w)) (λ _. (tt, tt)))

replaced_still : (l : Location) (new : Value) → IsStill (replaced text_form l new)
replaced_still l new w =
    branch_still (is_seen w l) (sets l new >> given_up text_form (load w l)) Errs
    (still_then (sets l new) (λ _. given_up text_form (load w l)) (sets_still l new) (λ _. given_up_still (load w l))) tt

abbrev then_told : Location → Value → Deed Value
then_told l v = replaced text_form l v >> give (Number (truth true))

told_still : (l : Location) (v : Value) → IsStill (then_told l v)
told_still l v = still_then (replaced text_form l v) (λ _. give (Number (truth true))) (replaced_still l v) (λ _. tt)

-- what it answers
told_answer : {A B : Type 0} (a : Deed A) (x y : B) (w : World) → answer (perform (a >> give x) w) ≡ Some y → y ≡ x
told_answer {A} a x y w h = by (perform a w) (sym (ap answer (perform_then (λ _. give x) a w)) ∙ h)
  where
    by : (done : Done A) → answer (followed (λ _. give x) done) ≡ Some y → y ≡ x
    by (Answers es n z v) g = sym (same_Some x y g)
    by (Finishes es n status v) g = absurd (none-some y g)
    by (Fails es n v) g = absurd (none-some y g)

-- ---- a value is stored in worlds that are alike

whole_alike : (a b : World) → AreAlike a b → (base : Base) → (InExc : (i : ℕ) → base ≡ InException i → ⊥) → whole_at a base ≡ whole_at b base
whole_alike a b same (Standing level n) no_exception = ap (λ fs. held (slot_of (frame_in (slice_get fs level)) n)) same.frames
whole_alike a b same (Waiting level node) no_exception =
    ap (λ fs. awaited (temporary_in (frame_in (slice_get fs level)).temporaries node)) same.frames
whole_alike a b same (InBlock k) no_exception = ap (λ h. contents_value (flat (slice_get h.blocks k))) same.heap
whole_alike a b same (InHand i) no_exception = ap (λ hand. hand_value (slice_get hand i)) same.hand
whole_alike a b same (InException i) no_exception = absurd (no_exception i refl)
whole_alike a b same (Made u) no_exception = refl

stored_alike : (a b : World) → AreAlike a b → (base : Base) (x : Value) → AreAlike (stored a base x) (stored b base x)
stored_alike a b same (Standing level n) x = record {
  heap = same.heap;
  frames = ap (λ fs. slice_set fs level (with_slot_of (frame_in (slice_get fs level)) n (Some (Holds x)))) same.frames;
  hand = same.hand;
}
stored_alike a b same (Waiting level node) x = record {
  heap = same.heap;
  frames = ap (λ fs. slice_set fs level
      (record (frame_in (slice_get fs level)) { temporaries = with_temporary_in (frame_in (slice_get fs level)).temporaries node (Holds x) })) same.frames;
  hand = same.hand;
}
stored_alike a b same (InBlock k) x = record { heap = ap (λ h. with_value_in h k (block_at h k) x) same.heap; frames = same.frames; hand = same.hand }
stored_alike a b same (InHand i) x = record { heap = same.heap; frames = same.frames; hand = ap (λ hand. slice_set hand i x) same.hand }
stored_alike a b same (InException i) x = record { heap = same.heap; frames = same.frames; hand = same.hand }
stored_alike a b same (Made u) x = same

lead_alike : (a b : World) → AreAlike a b → (base : Base) (path : List ℕ) → leads_from a base path ≡ leads_from b base path
lead_alike a b same (InBlock k) path = ap (λ h. is_so_in (has_item path) (slice_get h.blocks k)) same.heap
lead_alike a b same (Standing level n) path = refl
lead_alike a b same (Waiting level n) path = refl
lead_alike a b same (InHand i) path = refl
lead_alike a b same (InException i) path = refl
lead_alike a b same (Made u) path = refl

module _ (StandsFixed : (place : ℕ) → List ℕ → Type 0) (Homes : Home → Type 0) (apart : (g h : Home) → Homes g → Homes h → SameOrApart g h)
    (law : MemoryLaw) (d : Blocks) (w : World) (m : Memory) (x : HomesHold StandsFixed Homes apart d w m) (are : AreBytes m.heap) (l : Location)
    (to n : ℕ) (k : Option ℕ) (is : load w l ≡ Handle n k) (leads : LeadsTo StandsFixed Homes apart d l to block) (h : IsHandle d m to block n k)
    (b : block_of_text StandsFixed law d w m x.heap x.sized n k)
    (mine : Mine StandsFixed Homes apart law d w m x are l to n k is leads h b) (input : List ℕ)
  where
    abbrev reading : ReadingText
    reading = read_use StandsFixed law d w m x.heap x.sized to n k h b input

    away : (j : ℕ) → k ≡ Some j → IsAway StandsFixed Homes apart d l to block j
    away = text_is_away StandsFixed Homes apart law d w m x are l to n k is leads h b

    there_is : (j : ℕ) → k ≡ Some j → (c : Block) × (block_at w.heap j ≡ Some c)
    there_is = text_there StandsFixed Homes apart law d w m x are l to n k is leads h b

    base_beside : (j : ℕ) → k ≡ Some j → IsBeside l.base j
    base_beside = beside StandsFixed Homes apart law d w m x l to n k is block tt leads there_is away

    -- what a location leads into is no exception's message
    no_exception : (i : ℕ) → l.base ≡ InException i → ⊥
    no_exception i e = by leads
      where
        by : LeadsTo StandsFixed Homes apart d l to block → ⊥
        by (inl f) = let at = x.homes f.home f.among in subst (λ c. HoldsAt w c at.value) (sym f.base ∙ e) at.holds
        by (inr f) = no_block (sym f.base ∙ e)
          where
            no_block : InBlock f.block ≡ InException i → ⊥
            no_block e = cc

    module _ (fit : line_fits input (to_scratch own_data_at reading) ≡ true) (ld : (v : Value) × (m4 : World) × LineDone w input v m4) (other : Memory)
        (put : IsLinePut own_data_at reading (line_then input (to_scratch own_data_at reading)) (next_line input) m other) (after : World)
        (done : answered (perform (then_told l ld.0) ld.1) ≡ Some after)
      where
        abbrev line : Line
        line = now StandsFixed law d w m x.heap x.sized to n k h b input

        abbrev heap_last : Heap
        heap_last = given_of k line.heap

        abbrev with_line : World
        with_line = record w { heap = line.heap }

        abbrev last_world : World
        last_world = record w { heap = heap_last }

        abbrev leaves : LeavesHandle StandsFixed d heap_last m other to block (length (next_line input)) (length (next_line input)) line.block
        leaves = line_leaves StandsFixed law d w m x.heap x.sized to n k h b input fit ld.2.is_in other put

        abbrev handle : Value
        handle = Handle (length (next_line input)) line.block

        handle_is : ld.0 ≡ handle
        handle_is = ld.2.value ∙ ap (λ t. Handle (length t) line.block) (text_is StandsFixed law d w m x.heap x.sized to n k h b input fit ld.2.is_in)

        r : Replaced ld.1 l ld.0 (Number (truth true)) after
        r = replaced_done ld.1 l ld.0 (Number (truth true)) after done

        live_line : is_there with_line l ≡ true
        live_line = sym (lead_alike ld.1 with_line ld.2.alike l.base l.path) ∙ r.live

        -- blocks that were there before stand there, but for the text's own
        slot_line : (j : ℕ) → j < d.born → slice_get line.heap.blocks j ≡ slice_get w.heap.blocks j
        slot_line j less =
            (linked StandsFixed law d w m x.heap x.sized to n k h b input fit ld.2.is_in).before j (let e = x.heap.born in omega (arith, e, less))

        slot_last : (j : ℕ) → k ≢ Some j → slice_get heap_last.blocks j ≡ slice_get line.heap.blocks j
        slot_last j other_one = by k other_one
          where
            by : (q : Option ℕ) → q ≢ Some j → slice_get (given_of q line.heap).blocks j ≡ slice_get line.heap.blocks j
            by None ne = refl
            by (Some i) ne = given_slot line.heap i j (λ e. ne (ap Some (sym e)))

        own_base : (base : Base) (v : Value) → HoldsAt w base v → (heap : Heap) → whole_at (record w { heap = heap }) base ≡ whole_at w base
        own_base (Standing level i) v g heap = refl
        own_base (Waiting level i) v g heap = refl
        own_base (InHand i) v g heap = refl
        own_base (InException i) v g heap = absurd g
        own_base (Made u) v g heap = refl
        own_base (InBlock i) v g heap = absurd g

        own_lead : (base : Base) (v : Value) → HoldsAt w base v → (heap : Heap) → leads_from (record w { heap = heap }) base l.path ≡ leads_from w base l.path
        own_lead (Standing level i) v g heap = refl
        own_lead (Waiting level i) v g heap = refl
        own_lead (InHand i) v g heap = refl
        own_lead (InException i) v g heap = absurd g
        own_lead (Made u) v g heap = refl
        own_lead (InBlock i) v g heap = absurd g

        block_away : (f : FromBlock StandsFixed Homes apart d l to block) → k ≢ Some f.block
        block_away f e = away f.block e f refl

        whole_line : whole_at with_line l.base ≡ whole_at w l.base
        whole_line = by leads
          where
            by : LeadsTo StandsFixed Homes apart d l to block → whole_at with_line l.base ≡ whole_at w l.base
            by (inl f) =
                let at = x.homes f.home f.among in own_base l.base at.value (subst (λ c. HoldsAt w c at.value) (sym f.base) at.holds) line.heap
            by (inr f) =
                ap (whole_at with_line) f.base ∙ ap (λ o. contents_value (flat o)) (slot_line f.block f.leads.born) ∙ sym (ap (whole_at w) f.base)

        whole_last : whole_at last_world l.base ≡ whole_at w l.base
        whole_last = by leads
          where
            by : LeadsTo StandsFixed Homes apart d l to block → whole_at last_world l.base ≡ whole_at w l.base
            by (inl f) =
                let at = x.homes f.home f.among in own_base l.base at.value (subst (λ c. HoldsAt w c at.value) (sym f.base) at.holds) heap_last
            by (inr f) =
                ap (whole_at last_world) f.base ∙ ap (λ o. contents_value (flat o)) (slot_last f.block (block_away f) ∙ slot_line f.block f.leads.born)
                ∙ sym (ap (whole_at w) f.base)

        live_last : is_there last_world l ≡ true
        live_last = by leads
          where
            by : LeadsTo StandsFixed Homes apart d l to block → is_there last_world l ≡ true
            by (inl f) =
                let at = x.homes f.home f.among in
                let own = subst (λ c. HoldsAt w c at.value) (sym f.base) at.holds in
                own_lead l.base at.value own heap_last ∙ sym (own_lead l.base at.value own line.heap) ∙ live_line
            by (inr f) =
                ap (λ c. leads_from last_world c l.path) f.base ∙ ap (is_so_in (has_item l.path)) (slot_last f.block (block_away f))
                ∙ sym (ap (λ c. leads_from with_line c l.path) f.base) ∙ live_line

        -- the text that there was
        old_is : load ld.1 l ≡ Handle n k
        old_is = ap (λ v. part v l.path) (whole_alike ld.1 with_line ld.2.alike l.base no_exception ∙ whole_line) ∙ is

        put_there : Put StandsFixed Homes apart leaves.after last_world leaves.middle
            (homes_then StandsFixed law Homes apart d w m x heap_last other to block (length (next_line input)) (length (next_line input)) line.block leaves) l
            handle other
        put_there = by leads mine
          where
            by : (f : LeadsTo StandsFixed Homes apart d l to block)
                → MayWrite StandsFixed Homes apart law d w m x l to n k is block tt leads there_is away f
                → Put StandsFixed Homes apart leaves.after last_world leaves.middle
                (homes_then StandsFixed law Homes apart d w m x heap_last other to block (length (next_line input)) (length (next_line input)) line.block
                leaves) l
                handle other
            by (inl f) own =
                handle_put_at StandsFixed law Homes apart d w m x heap_last other to block (length (next_line input)) (length (next_line input)) line.block
                leaves tt
                l (inl f) live_last (inl f) own
            by (inr f) own =
                handle_put_at StandsFixed law Homes apart d w m x heap_last other to block (length (next_line input)) (length (next_line input)) line.block
                leaves tt
                l (inr f) live_last
                (inr (record { block = f.block; base = f.base; leads = leads_later d leaves.after leaves.ahead f.block l.path to block f.leads })) tt

        -- the world of the deed
        store_line : AreAlike (store ld.1 l handle) (store with_line l handle)
        store_line =
            subst (λ v. AreAlike (store ld.1 l handle) (stored with_line l.base (put_part v l.path handle)))
            (whole_alike ld.1 with_line ld.2.alike l.base no_exception)
            (stored_alike ld.1 with_line ld.2.alike l.base (put_part (whole_at ld.1 l.base) l.path handle))

        given_alike : AreAlike (record (store with_line l handle) { heap = given_of k (store with_line l handle).heap }) (store last_world l handle)
        given_alike = by k base_beside
          where
            by : (q : Option ℕ) → ((j : ℕ) → q ≡ Some j → IsBeside l.base j)
                → AreAlike (record (store with_line l handle) { heap = given_of q (store with_line l handle).heap })
                (store (record w { heap = given_of q line.heap }) l handle)
            by None ne = record { heap = refl; frames = refl; hand = refl }
            by (Some j) ne =
                let same = same_put l.path handle w line.heap (given line.heap j) l.base in
                record { heap = sym (given_put l.path handle w line.heap j l.base (ne j refl)); frames = same.0; hand = same.1 }

        after_alike : AreAlike after (store last_world l handle)
        after_alike =
            let q : block_of (load ld.1 l) ≡ k = ap block_of old_is in
            let one : AreAlike after (record (store ld.1 l ld.0) { heap = given_of k (store ld.1 l ld.0).heap })
            = subst (λ o. AreAlike after (record (store ld.1 l ld.0) { heap = given_of o (store ld.1 l ld.0).heap })) q r.alike in
            let two : AreAlike after (record (store ld.1 l handle) { heap = given_of k (store ld.1 l handle).heap })
            = subst (λ v. AreAlike after (record (store ld.1 l v) { heap = given_of k (store ld.1 l v).heap })) handle_is one in
            alike_more after (record (store ld.1 l handle) { heap = given_of k (store ld.1 l handle).heap }) (store last_world l handle) two
            (alike_more (record (store ld.1 l handle) { heap = given_of k (store ld.1 l handle).heap })
            (record (store with_line l handle) { heap = given_of k (store with_line l handle).heap }) (store last_world l handle)
            (record { heap = ap (given_of k) store_line.heap; frames = store_line.frames; hand = store_line.hand }) given_alike)

        pub put_so : IsPutSo l w after
        put_so = (
          handle,
          ap₂ (λ (fs : List Frame) (vs : List Value). (fs, vs)) after_alike.frames after_alike.hand ∙ put_frames l.path handle last_world w l.base refl,
        )

        pub line_left : IsLeft StandsFixed Homes apart d m after other to 8
        line_left = record {
          later = put_there.after;
          ahead = later_more d leaves.after put_there.after leaves.ahead put_there.ahead;
          holds = homes_alike StandsFixed Homes apart (store last_world l handle) after after_alike put_there.after other put_there.holds;
          rest = handle_beside StandsFixed d heap_last m other to block (length (next_line input)) (length (next_line input)) line.block leaves;
        }

-- ---- the row

module _ (StandsFixed : (place : ℕ) → List ℕ → Type 0) (Homes : Home → Type 0) (apart : (g h : Home) → Homes g → Homes h → SameOrApart g h)
    (law : MemoryLaw) (live : Lives) (procs : List WordProc) (kept : (input : List ℕ) → IsKeptOn live procs input (reads_text own_data_at (as_bytes input)))
    (c : Within) (from_first : IsFirst c) (d : Blocks) (w : World) (same_input : c.input ≡ w.input) (m : Memory)
    (x : HomesHold StandsFixed Homes apart d w m) (are : AreBytes m.heap) (lines : List WordInstr) (v g : Vars) (l : Location) (to n : ℕ) (k : Option ℕ)
    (is : load w l ≡ Handle n k) (leads : LeadsTo StandsFixed Homes apart d l to block) (h : IsHandle d m to block n k)
    (b : block_of_text StandsFixed law d w m x.heap x.sized n k)
    (mine : Mine StandsFixed Homes apart law d w m x are l to n k is leads h b) (can : MayHave m to) (home : Place) (at_home : IsAt c.base v home to)
    (goes : ℕ) (high : FOURTH ≤ goes)
  where
    -- whether there was one comes to a variable
    pub record LineRead (a : Value) (after : World) (other : Memory) (vars : Vars) : Type 0 where
      pub left : IsLeft StandsFixed Homes apart d m after other to 8
      pub told : Bool
      pub value : a ≡ Number (truth told)
      pub given : vars goes ≡ Some (word (truth told))
      pub but : AllBut v goes vars
      -- nothing is changed, or the text
      pub put : ((after ≡ w) × (other ≡ m)) ⊎ IsPutSo l w after

    abbrev used : List ℕ → ReadingText
    used input = read_use StandsFixed law d w m x.heap x.sized to n k h b input

    abbrev fits_line : List ℕ → Bool
    fits_line input = line_fits input (to_scratch own_data_at (used input))

    abbrev behind_line : List ℕ → List ℕ
    behind_line input = drop (up_to_feed input) c.input

    abbrev least_line : List ℕ → ℕ
    least_line input = up_to_feed input + least_work w.heap.room (length (next_line input)) (empty_text w.heap.classes)

    line_came : (input : List ℕ) → Came (least_line input) (fits_line input) (behind_line input) (perform (line_read input >>= then_told l) w)
    line_came input =
        let least : ℕ = least_work w.heap.room (length (next_line input)) (empty_text w.heap.classes) in
        let body : Deed (Unit {0}) = each_appended (line_text w input) (there w input) in
        let each : Came least (fits_line input) (first_world w input).input (perform body (first_world w input))
        = each_came w.heap (read_world w input) w.hand (line_text w input) (no_line w input) (empty_text w.heap.classes)
        (first_linked StandsFixed law d w m x.heap x.sized to n k h b input) refl (first_world w input) (first_alike w input) in
        let whole : Came least (fits_line input) (behind_line input) (perform (body >>= ends_line w input) (first_world w input))
        = then_came body (ends_line w input) (first_world w input) least (fits_line input) (behind_line input)
        (λ _ z. branch_still (is_full_at z (there w input)) (does Pops >> give (load z (there w input))) Errs (tt, tt) tt)
        (subst (λ i. Came least (fits_line input) (drop (up_to_feed input) i) (perform body (first_world w input))) (sym same_input) each) in
        then_came (line_read input) (then_told l) w (least_line input) (fits_line input) (behind_line input) (told_still l)
        (came_works least (up_to_feed input) (fits_line input) (behind_line input) (perform (body >>= ends_line w input) (first_world w input)) whole)

    same_left : IsLeft StandsFixed Homes apart d m w m to 8
    same_left = record {
      later = d;
      ahead = later_same d;
      holds = x;
      rest = record { sizes = sizes_same m; beside = λ p i own heap away. refl };
    }

    module _ (all : List ℕ) (here : c.input ≡ all) where
      abbrev input : List ℕ
      input = as_bytes all

      kept_now : IsKeptOn live procs c.input (reads_text own_data_at input)
      kept_now = subst (λ i. IsKeptOn live procs i (reads_text own_data_at input)) (sym here) (kept all)

      may_now : (reads_text own_data_at input).may (used input) m
      may_now = may_read StandsFixed law d w m x.heap x.sized to n k h b input can

      few_lines : 2 * 1 + (reads_text own_data_at input).lines (used input) + TEXT_SPARE ≤ ROW_PACE * suc (least_line input)
      few_lines = let f = lines_few w.heap.room (length (next_line input)) (empty_text w.heap.classes) in omega (arith, f)

    by_input : (all : List ℕ) → c.input ≡ all
        → RowDoes live procs c lines goes TEXT_SPARE LineRead (at c m (read_code goes home lines) v g) (perform (line_or_none l (as_bytes all)) w)
    by_input [] here =
        done_behind law live procs c from_first m x.sized (reads_text own_data_at []) (kept_now [] here) (used []) (may_now [] here) lines goes v g
        (Where home ∷ []) (omega arith) ((at_home.points, at_home.high), at_home.small, tt) TEXT_SPARE (behind_line []) LineRead (fits_line [])
        (record { shows = refl; ends = refl; reads = refl }) 0 (few_lines [] here) (perform (line_or_none l []) w) (refl, omega arith, refl, sym same_input)
        (λ es i a after e sure other got_word vars same left gave. record {
          left = subst (λ o. IsLeft StandsFixed Homes apart d m after o to 8) (sym left)
              (subst (λ z. IsLeft StandsFixed Homes apart d m z m to 8) (same_Some w after (ap answered e)) same_left);
          told = false;
          value = sym (same_Some (Number (truth false)) a (ap answer e));
          given = put_here vars goes got_word (omega (arith, gave)) ∙ ap Some gave;
          but = but_over v vars goes got_word high same;
          put = inl (sym (same_Some w after (ap answered e)), left);
        })
    by_input (i ∷ is_more) here =
        let input : List ℕ = as_bytes (i ∷ is_more) in
        done_behind law live procs c from_first m x.sized (reads_text own_data_at input) (kept_now (i ∷ is_more) here) (used input)
        (may_now (i ∷ is_more) here) lines goes v g
        (Where home ∷ []) (omega arith) ((at_home.points, at_home.high), at_home.small, tt) TEXT_SPARE (behind_line input) LineRead (fits_line input)
        (record { shows = refl; ends = refl; reads = refl }) (least_line input) (few_lines (i ∷ is_more) here) (perform (line_or_none l input) w)
        (line_came input)
        (λ es q a after e sure other got_word vars same left gave.
        let put_line : IsLinePut own_data_at (used input) (line_then input (to_scratch own_data_at (used input))) (next_line input) m other
        = subst (λ p. LineLeaves p own_data_at (used input) (line_then input (to_scratch own_data_at (used input))) (next_line input) m other) sure left in
        let f : Followed (then_told l) (perform (line_read input) w) after = then_done (then_told l) (line_read input) w after (ap answered e) in
        let ld : LineDone w input f.given f.middle = line_done w input f.events f.work f.given f.middle f.is in
        let told_is : answer (perform (then_told l f.given) f.middle) ≡ Some a
        = sym (ap answer (perform_then (then_told l) (line_read input) w ∙ ap (followed (then_told l)) f.is)
        ∙ behind_answer f.events f.work (perform (then_told l f.given) f.middle)) ∙ ap answer e in
        record {
          left = line_left StandsFixed Homes apart law d w m x are l to n k is leads h b mine input sure (f.given, f.middle, ld) other put_line after f.go;
          told = true;
          value = told_answer (replaced text_form l f.given) (Number (truth true)) a f.middle told_is;
          given = put_here vars goes got_word (omega (arith, gave)) ∙ ap Some gave;
          but = but_over v vars goes got_word high same;
          put = inr (put_so StandsFixed Homes apart law d w m x are l to n k is leads h b mine input sure (f.given, f.middle, ld) other put_line after f.go);
        })

    pub read_runs : RowDoes live procs c lines goes TEXT_SPARE LineRead (at c m (read_code goes home lines) v g) (perform (line_or_none l (bytes_left w)) w)
    read_runs =
        subst (λ all. RowDoes live procs c lines goes TEXT_SPARE LineRead (at c m (read_code goes home lines) v g) (perform (line_or_none l (as_bytes all)) w))
        same_input (by_input c.input refl)

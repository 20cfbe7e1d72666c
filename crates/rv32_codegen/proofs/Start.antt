-- The label code of word code does what each line of the word code does, and comes to its start.
use Rattle.std.proofs.Common.{◌≡◌, ℕ, suc, ◌+◌, ◌-◌, ◌*◌, ◌/◌, ◌%◌, ◌^◌, ◌<◌, ◌≤◌, List, []}
use Rattle.std.proofs.Common.{◌∷◌, ◌++◌, length, get_or, Bool, true, false}
use Rattle.std.proofs.Common.{Option, Some, None, refl, sym, ap, subst, ◌∙◌, arith, length-append, mul-suc}
use Rattle.std.specs.Prelude.{replicate, if◌then◌else◌}
use Rattle.std.proofs.lemmas.List.{length-replicate, replicate-append-replicate}
use Rattle.arc_base.specs.Event.{Event}
use Rattle.arc_base.specs.Stepping.{Next, Goes, Ends, Faults, Errs}
use Rattle.arc_base.proofs.ForCallers.{steps_one}
use Rattle.rv32_isa.specs.declared.instr.Instr.TheVariants.{Lui, Lw, Add}
use Rattle.rv32_isa.specs.declared.label.LabelName.TheVariants.{Entry}
use Rattle.rv32_isa.specs.declared.label.LabelLine.{LabelLine}
use Rattle.rv32_isa.specs.declared.label.LabelLine.TheVariants.{Do, Jump}
use Rattle.rv32_isa.specs.Words.{little, word_bytes}
use Rattle.rv32_isa.specs.Image.{statics_at, stack_at}
use Rattle.rv32_isa.specs.State.{readable}
use Rattle.rv32_isa.specs.Values.{added}
use Rattle.rv32_isa.specs.Labels.{from_label}
use Rattle.rv32_isa.specs.LabelsMeaning.{LabelRun, hook_at, goto, led, step}
use Rattle.rv32_isa.specs.LabelsMeaning as labels
use Rattle.rv32_isa.proofs.ForCallers.{little-word_bytes, length-word_bytes}
use Rattle.rv32_logic.specs.Data.{Holds}
use Rattle.rv32_logic.specs.Registers.{put, IsRegs}
use Rattle.rv32_logic.proofs.ForCallers.{put_regs, put_same, holds_read, lw_goes}
use Rattle.word_code.specs.declared.word.TheConstants.{MOST_ARGUMENTS, SPARE_ROOM}
use Rattle.nim_program.specs.declared.program.TheConstants.{ACTIVE_CALLS}
use Rattle.word_code.specs.declared.word.WordInstr.{WordInstr}
use Rattle.word_code.specs.declared.word.WordInstr.TheVariants as word
use Rattle.word_code.specs.declared.word.ProcKind.TheVariants.{Counted}
use Rattle.word_code.specs.declared.word.WordProc.{WordProc}
use Rattle.word_code.specs.Memory.{Memory, data_of}
use Rattle.word_code.specs.Words.{WordFrame, WordState, no_words, most_calls, from_proc, from_label as from_word_label, first_of, is_counted}
use Rattle.word_code.specs.Words.{is_full}
use Rattle.word_code.specs.Words.{WordScene, WordDid, Passes, Spends, Leaps, Calls, Returns, Exits, Fails, scene_of, onward, spent, does as word_does, jumped}
use Rattle.word_code.specs.Words.{entered, returned}
use Rattle.word_code.specs.Words.{settled}
use Rattle.word_code.specs.Words.{step_lines}
use Rattle.word_code.specs.Words as words
use Rattle.rv32_codegen.specs.Code.{lines_code, proc_code}
use Rattle.rv32_codegen.proofs.StackWords.{words, put_word, length-put_word, word_put_same}
use Rattle.rv32_codegen.proofs.Machine.{state_of, run_at, Fits, word_place, put_other, Goes_in, then_goes, instr_goes, writes}
use Rattle.rv32_codegen.proofs.Chunks.{quiet_entry}
use Rattle.rv32_codegen.proofs.Lookups.{procs_code, behind, none_some, number_is, code_from, entry_is}
use Rattle.rv32_codegen.proofs.Frames.{size, IsLaid, code_here, Setting, whole, True, Rel, Sim}
use Rattle.rv32_codegen.proofs.LineRuns.{spend_sim, spend_if_sim, label_sim, constant_sim, datum_sim, copy_sim, compute_sim, sum_sim, place_sim}
use Rattle.rv32_codegen.proofs.JumpRuns.{jump_sim, branch_sim}
use Rattle.rv32_codegen.proofs.Access.{load_sim, store_sim, argument_sim, write_sim, read_sim, exit_sim}
use Rattle.rv32_codegen.proofs.Calls.{seen_is, enters, call_sim}
use Rattle.rv32_codegen.proofs.Returns.{return_sim}

-- ---- each line of word code is work

abbrev pub HasWork : Next Event WordState → Type 0
HasWork (Goes es w t) = 1 ≤ w
HasWork (Ends es w status live) = 1 ≤ w
HasWork Faults = Unit {0}
HasWork Errs = Unit {0}

works_if : (b : Bool) (x y : Next Event WordState) → HasWork x → HasWork y → HasWork (if b then x else y)
works_if true x y h k = h
works_if false x y h k = k

works_jumped : (t : WordState) (x : WordScene) (o : Option (List WordInstr)) → HasWork (jumped t x o)
works_jumped t x None = tt
works_jumped t x (Some lines) = omega arith

works_entered : (bytes : List ℕ) (t : WordState) (rest : List WordInstr) (x : WordScene) (to : ℕ) (found : List WordProc) →
    HasWork (entered bytes t rest x to found)
works_entered bytes t rest x to [] = tt
works_entered bytes t rest x to (q ∷ tail) = works_if (is_full q (t.frame ∷ t.callers)) Faults _ tt (omega arith)

works_returned : (t : WordState) (a : ℕ) (callers : List WordFrame) → HasWork (returned t a callers)
works_returned t a [] = tt
works_returned t a (c ∷ cs) = omega arith

-- ---- zeros

zeros_split : (a b : ℕ) → replicate {A = ℕ} (a + b) 0 ≡ replicate a 0 ++ replicate b 0
zeros_split a b = sym (replicate-append-replicate a b 0)

-- ---- any line

module _ (g : Setting) where
  works_settled : (bytes : List ℕ) (t : WordState) (rest : List WordInstr) (d : WordDid) → t.units ≡ None → HasWork (settled g.live g.procs bytes t rest d)
  works_settled bytes t rest (Passes shown x) free = omega arith
  works_settled bytes t rest (Spends x) free = subst (λ o. HasWork (spent o (onward t rest x) t)) (sym free) (omega arith)
  works_settled bytes t rest (Leaps name x) free = works_jumped t x (from_word_label name t.frame.proc.lines)
  works_settled bytes t rest (Calls to callee x) free = works_entered bytes t rest x to (from_proc callee g.procs)
  works_settled bytes t rest (Returns word) free = works_returned t word t.callers
  works_settled bytes t rest (Exits status) free = omega arith
  works_settled bytes t rest Fails free = tt

  works_lines : (bytes : List ℕ) (t : WordState) (lines : List WordInstr) → t.units ≡ None → HasWork (step_lines g.live g.procs bytes t lines)
  works_lines bytes t [] free = tt
  works_lines bytes t (l ∷ rest) free = works_settled bytes t rest (word_does (scene_of t) l) free

  pub works : (bytes : List ℕ) (t : WordState) → t.units ≡ None → HasWork (words.step g.live g.procs bytes t)
  works bytes t free = works_lines bytes t t.frame.left free

  line_sim : (l : WordInstr) (t : WordState) (rest : List WordInstr) (regs ws : List ℕ) (j : ℕ) (f : True g t (l ∷ rest) regs ws j)
      → t.frame.left ≡ l ∷ rest
      → Sim g (run_at regs t.memory ws t.input (code_here g.lay g.procs t.frame.proc (l ∷ rest) f.sits)) t (step_lines g.live g.procs ws t (l ∷ rest))
  line_sim word.Spend t rest regs ws j f e = spend_sim g t rest regs ws j f e
  line_sim (word.SpendIf test left right) t rest regs ws j f e = spend_if_sim g test left right t rest regs ws j f e
  line_sim (word.Label name) t rest regs ws j f e = label_sim g name t rest regs ws j f
  line_sim (word.Constant to value) t rest regs ws j f e = constant_sim g to value t rest regs ws j f
  line_sim (word.Copy to from) t rest regs ws j f e = copy_sim g to from t rest regs ws j f
  line_sim (word.Compute to o left right) t rest regs ws j f e = compute_sim g to o left right t rest regs ws j f
  line_sim (word.Sum to from value) t rest regs ws j f e = sum_sim g to from value t rest regs ws j f
  line_sim (word.Place to a) t rest regs ws j f e = place_sim g to a t rest regs ws j f
  line_sim (word.Datum to a) t rest regs ws j f e = datum_sim g to a t rest regs ws j f
  line_sim (word.Load to address s) t rest regs ws j f e = load_sim g to address s t rest regs ws j f
  line_sim (word.Store address from s) t rest regs ws j f e = store_sim g address from s t rest regs ws j f
  line_sim (word.Jump to) t rest regs ws j f e = jump_sim g to t rest regs ws j f
  line_sim (word.Branch test left right to) t rest regs ws j f e = branch_sim g test left right to t rest regs ws j f
  line_sim (word.Argument index from) t rest regs ws j f e = argument_sim g index from t rest regs ws j f
  line_sim (word.Call to callee) t rest regs ws j f e = call_sim g to callee t rest regs ws j f
  line_sim (word.Return from) t rest regs ws j f e = return_sim g from t rest regs ws j f
  line_sim (word.Read to address len) t rest regs ws j f e = read_sim g to address len t rest regs ws j f e
  line_sim (word.Write stream address len) t rest regs ws j f e = write_sim g stream address len t rest regs ws j f
  line_sim (word.Exit status) t rest regs ws j f e = exit_sim g status t rest regs ws j f

  lines_sim : (t : WordState) (lines : List WordInstr) (regs ws : List ℕ) (j : ℕ) (f : True g t lines regs ws j) → t.frame.left ≡ lines →
      Sim g (run_at regs t.memory ws t.input (code_here g.lay g.procs t.frame.proc lines f.sits)) t (step_lines g.live g.procs ws t lines)
  lines_sim t [] regs ws j f e = tt
  lines_sim t (l ∷ rest) regs ws j f e = line_sim l t rest regs ws j f e

  -- where new places have what stands behind those that are there
  pub all_sim : (r : LabelRun) (t : WordState) (h : Rel g r t) → Sim g r t (words.step g.live g.procs h.ws t)
  all_sim r t h =
      subst (λ x. Sim g x t (step_lines g.live g.procs h.ws t t.frame.left)) (sym h.is) (lines_sim t t.frame.left h.regs h.ws h.j h.facts refl)

  -- ---- the start

  -- the memory that word code and its frames have
  pub record Holding (statics : List ℕ) (heap stack : ℕ) : Type 0 where
    pub starts : (first_of (from_proc 0 g.procs)).kind ≡ Counted
    pub statics_most : length statics + 8 ≤ 1048576
    pub heap_most : heap ≤ 16777216
    pub stack_most : stack ≤ 268435456
    pub stack_whole : stack % 4 ≡ 0
    pub stack_least : SPARE_ROOM + (4 * MOST_ARGUMENTS + g.total * most_calls) ≤ stack

  module _ (own : List ℕ) (heap stack : ℕ) (input : List ℕ) (room : Holding own heap stack) (q : WordProc) (tail : List WordProc)
      (found : from_proc 0 g.procs ≡ q ∷ tail) where
    abbrev pub statics : List ℕ
    statics = data_of heap stack own

    -- those of the start code, and what is behind those of each call
    abbrev pub places : ℕ
    places = q.room + SPARE_ROOM

    abbrev pub memory : Memory
    memory = record { statics = statics; heap = replicate heap 0; places = replicate places 0 }

    -- the bytes behind the places
    abbrev pub ws : List ℕ
    ws = replicate (stack - places) 0

    abbrev count : ℕ
    count = (stack - places) / 4

    laid : IsLaid (g.lay q.number) q
    laid = g.laid 0 q tail found

    stack_is : places + (stack - places) ≡ stack
    stack_is =
        let least = room.stack_least in
        let total = g.fits 0 q tail found in
        let all : g.total * most_calls ≡ g.total * suc ACTIVE_CALLS = refl in
        let split = mul-suc g.total ACTIVE_CALLS in
        omega (arith, least, total, all, split)

    in_words : places + 4 * count ≡ stack
    in_words = let is = stack_is in let a = room.stack_whole in let b = laid.room in omega (arith, is, a, b)

    long : length ws ≡ stack - places
    long = length-replicate (stack - places) 0

    long_places : length memory.places ≡ places
    long_places = length-replicate places 0

    fits : Fits memory ws
    fits =
        let a = length-word_bytes heap in
        let b = length-word_bytes stack in
        let c = length-append (word_bytes heap) (word_bytes stack ++ own) in
        let d = length-append (word_bytes stack) own in
        let whole_room = laid.room in
        record {
          statics_most = omega (arith, a, b, c, d, room.statics_most);
          heap_most = omega (arith, length-replicate {A = ℕ} heap 0, room.heap_most);
          stack_most = omega (arith, long, long_places, stack_is, room.stack_most);
          whole = omega (arith, long_places, whole_room);
        }

    abbrev pub zeros : List ℕ
    zeros = replicate 32 0

    zero_regs : IsRegs zeros
    zero_regs = record { all = refl; none = refl }

    pub first_is : labels.start (whole g) statics heap stack input ≡ run_at zeros memory ws input (whole g)
    unfolding labels.start
    first_is =
        let bytes : replicate stack 0 ≡ replicate places 0 ++ ws =
        ap (λ k. replicate k 0) (sym stack_is) ∙ zeros_split places (stack - places) in
        ap (λ l. record {
          state = record { regs = zeros; pc = 0; code = []; statics = statics; heap = replicate heap 0; stack = l };
          left = whole g;
          input = input;
        }) bytes

    -- the size of the stack stands in the data
    size_read : (regs : List ℕ) → readable (state_of regs memory ws) (statics_at + 4) 4 ≡ Some (word_bytes stack)
    size_read regs =
        let a = length-word_bytes heap in
        let b = length-word_bytes stack in
        let holds : Holds statics (statics_at + 4) (word_bytes stack) =
        record { pre = word_bytes heap; post = own; data_is = refl; at_is = ap (λ n. statics_at + n) (sym a) } in
        ap (readable (state_of regs memory ws) (statics_at + 4)) (sym b)
        ∙ holds_read (state_of regs memory ws) statics (statics_at + 4) (word_bytes stack) refl holds (omega (arith, b)) (omega arith)

    abbrev pub first : WordState
    first = record {
      units = None;
      memory = memory;
      input = input;
      frame = record { proc = q; left = q.lines; vars = no_words; given = no_words; base = stack_at; awaits = 0 };
      callers = [];
    }

    -- in front of all procedures
    abbrev low_at : ℕ
    low_at = statics_at / 4096 * 2 ^ 12

    abbrev base_at : ℕ
    base_at = stack_at / 4096 * 2 ^ 12

    record Begun (regs : List ℕ) : Type 0 where
      good : IsRegs regs
      one : get_or regs 1 0 ≡ 0
      two : get_or regs 2 0 ≡ word_place memory count
      three : get_or regs 3 0 ≡ stack_at
      four : get_or regs 4 0 ≡ statics_at

    sets_up : (regs : List ℕ) × Goes_in g.live (whole g) g.at 4 4 (run_at zeros memory ws input (whole g))
        (run_at regs memory ws input (Jump 0 (Entry 0) ∷ procs_code g.lay g.procs)) × Begun regs
    sets_up =
        let fifth : List LabelLine = Jump 0 (Entry 0) ∷ procs_code g.lay g.procs in
        let fourth : List LabelLine = Do (Add 2 2 3) ∷ fifth in
        let third : List LabelLine = Do (Lui 3 (stack_at / 4096)) ∷ fourth in
        let second : List LabelLine = Do (Lw 2 4 4) ∷ third in
        let one = put zeros 4 low_at in
        let a = writes g.live (whole g) g.at memory ws input zeros (Lui 4 (statics_at / 4096)) 4 low_at second refl refl in
        let v = little (word_bytes stack) in
        let small = room.stack_most in
        let v_is : v ≡ stack = little-word_bytes stack (omega (arith, small)) in
        let two = put one 2 v in
        let goes = lw_goes (state_of one memory ws) 0 0 2 4 4 (statics_at + 4) (word_bytes stack) refl refl (size_read one)
        (let e : little (word_bytes stack) ≡ stack = v_is in omega (arith, e, small)) in
        let b = instr_goes g.live (whole g) g.at memory ws input one (Lw 2 4 4) (state_of two memory ws) third refl
        (ap (led g.live (whole g) g.at (run_at one memory ws input second) third) goes) in
        let three = put two 3 base_at in
        let c = writes g.live (whole g) g.at memory ws input two (Lui 3 (stack_at / 4096)) 3 base_at fourth refl refl in
        let top = added (get_or three 2 0) (get_or three 3 0) in
        let regs = put three 2 top in
        let d = writes g.live (whole g) g.at memory ws input three (Add 2 2 3) 2 top fifth refl refl in
        let good1 = put_regs zeros 4 low_at zero_regs in
        let good2 = put_regs one 2 v good1 in
        let good3 = put_regs two 3 base_at good2 in
        let two_is : get_or three 2 0 ≡ stack = put_other two 3 2 base_at (λ e. omega (arith, e)) ∙ put_same one 2 v good1 (omega arith) (omega arith)
        ∙ v_is in
        let three_is : get_or three 3 0 ≡ stack_at = put_same two 3 base_at good2 (omega arith) (omega arith) in
        let top_is : top ≡ word_place memory count = ap (λ n. added n (get_or three 3 0)) two_is ∙ ap (added stack) three_is
        ∙ (let h : added stack stack_at ≡ word_place memory count = omega (arith, small, in_words, long_places) in h) in (
          regs,
          then_goes g.live (whole g) g.at 3 1 3 1 _ _ _ (then_goes g.live (whole g) g.at 2 1 2 1 _ _ _ (then_goes g.live (whole g) g.at 1 1 1 1 _ _ _ a b)
              c) d,
          record {
            good = put_regs three 2 top good3;
            one = put_other three 2 1 top (λ e. omega (arith, e)) ∙ put_other two 3 1 base_at (λ e. omega (arith, e))
                ∙ put_other one 2 1 v (λ e. omega (arith, e))
                ∙ put_other zeros 4 1 low_at (λ e. omega (arith, e));
            two = put_same three 2 top good3 (omega arith) (omega arith) ∙ top_is;
            three = put_other three 2 3 top (λ e. omega (arith, e)) ∙ three_is;
            four = put_other three 2 4 top (λ e. omega (arith, e)) ∙ put_other two 3 4 base_at (λ e. omega (arith, e))
                ∙ put_other one 2 4 v (λ e. omega (arith, e))
                ∙ put_same zeros 4 low_at zero_regs (omega arith) (omega arith);
          },
        )

    kind_is : q.kind ≡ Counted
    kind_is = ap (λ l. (first_of l).kind) (sym found) ∙ room.starts

    pub begins : (s : LabelRun) × Goes_in g.live (whole g) g.at 8 13 (run_at zeros memory ws input (whole g)) s × Rel g s first
    begins =
        let h = g.lay q.number in
        let body = proc_code h q (procs_code g.lay tail) in
        let x = sets_up in
        let mid = run_at x.0 memory ws input (Jump 0 (Entry 0) ∷ procs_code g.lay g.procs) in
        let there = run_at x.0 memory ws input body in
        let place : from_label (Entry 0) (whole g) ≡ Some body = entry_is g.lay 0 g.procs ∙ ap (code_from g.lay) found in
        let shown : hook_at body ≡ [] =
        seen_is q.kind _ (quiet_entry h q (lines_code h q q.lines (behind g.lay tail)))
        ∙ ap words.seen_call kind_is in
        let e : Goes_in g.live (whole g) g.at 1 1 mid there =
        steps_one (step g.live (whole g) g.at) mid there [] 1 1 (ap (λ o. goto (state_of x.0 memory ws) o input) place
        ∙ ap (λ es. Goes es 1 there) shown)
        (omega arith) in
        let frame = laid.frame in
        let some = laid.some in
        let whole_room = laid.room in
        let total = g.fits 0 q tail found in
        let least = room.stack_least in
        let all : g.total * most_calls ≡ g.total * suc ACTIVE_CALLS = refl in
        let split = mul-suc g.total ACTIVE_CALLS in
        let under : size h ≤ count = omega (arith, least, all, split, in_words, total, frame) in
        let w = enters g memory ws input x.0 count 0 stack_at q tail fits laid under (omega (arith, long)) x.2.good x.2.one (omega arith) x.2.two x.2.three
        (omega arith) x.2.four in
        let k = count - size h in
        let new = put_word ws k 0 in
        let made : k < words ws = omega (arith, long, under, some) in
        let long_new : length new ≡ length ws = length-put_word ws k 0 made in
        let number = number_is 0 g.procs q tail found in
        let s = run_at w.0 memory new input (lines_code h q q.lines (behind g.lay tail)) in
        let ones : (if is_counted q.kind then suc 0 else 0) ≡ 1 = ap (λ z. if is_counted z then suc 0 else 0) kind_is in
        let fewer : most_calls - (if is_counted q.kind then suc 0 else 0) ≡ ACTIVE_CALLS = ap (λ n. most_calls - n) ones in
        let facts : True g first q.lines w.0 new k = record {
          fits = record {
            statics_most = fits.statics_most;
            heap_most = fits.heap_most;
            stack_most = omega (arith, long_new, fits.stack_most);
            whole = fits.whole;
          };
          kept = w.2;
          sits = record { tail = tail; found = ap (λ n. from_proc n g.procs) number ∙ found; before = []; split = refl };
          held = λ v x lives e. absurd (none_some x e);
          given = λ v x e. absurd (none_some x e);
          linked = omega (arith, long_new, long, under);
          leaf = λ leaf more. w.3 ∙ sym (word_put_same ws k 0 made (omega arith));
          deep = subst (λ n. 4 * MOST_ARGUMENTS + (g.need q + g.total * n) ≤ 4 * k) (sym fewer)
              (omega (arith, least, all, split, in_words, total, frame, under));
          roomy = omega (arith, long_places);
          units = refl;
        } in (
          s,
          then_goes g.live (whole g) g.at 5 3 5 8 _ there s (then_goes g.live (whole g) g.at 4 1 4 1 _ mid there x.1 e) w.1,
          record { regs = w.0; ws = new; j = k; facts = facts; is = refl },
        )

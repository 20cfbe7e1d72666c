-- What calls of word code do, their label code does.
use Rattle.std.proofs.Common.{◌≡◌, ◌≢◌, ℕ, zero, suc, ◌+◌, ◌-◌, ◌*◌, ◌/◌, ◌%◌, ◌^◌, ◌<◌, ◌≤◌, inl, inr}
use Rattle.std.proofs.Common.{List, [], ◌∷◌, ◌++◌, length, take, drop, get_or, Bool, true, false}
use Rattle.std.proofs.Common.{Some, None, refl, sym, ap, subst, ◌∙◌, arith, append-nil, append_assoc, length-append, length-drop, mul-suc}
use Rattle.std.specs.Prelude.{nat_lt, nat_le, ◌&&◌, if◌then◌else◌, replicate}
use Rattle.std.proofs.lemmas.Bool.{cases_Bool, and_parts, ltb-true, leb-false, cond-true, cond-false}
use Rattle.std.proofs.lemmas.List.{length-take-le, take-append-le, take-append-drop}
use Rattle.arc_base.specs.Event.{Event}
use Rattle.arc_base.specs.Stepping.{Next, Goes}
use Rattle.arc_base.specs.Simulation.{Steps}
use Rattle.arc_base.proofs.ForCallers.{steps_one, steps_on}
use Rattle.rv32_isa.specs.declared.instr.Instr.TheVariants.{Sw}
use Rattle.rv32_isa.specs.declared.label.LabelName.TheVariants.{Entry}
use Rattle.rv32_isa.specs.declared.label.LabelLine.{LabelLine}
use Rattle.rv32_isa.specs.declared.label.LabelLine.TheVariants.{Do, Jump}
use Rattle.rv32_isa.specs.Image.{statics_at, stack_at}
use Rattle.rv32_isa.specs.Values.{added}
use Rattle.rv32_isa.specs.Labels.{Rise, marks, mark_before, from_label, from_mark}
use Rattle.rv32_isa.specs.LabelsMeaning.{LabelRun, hook_or, hook_at, goto, step}
use Rattle.rv32_isa.proofs.ForCallers.{comes_back, mark_some, mark_within}
use Rattle.rv32_logic.specs.Registers.{put, IsRegs}
use Rattle.rv32_logic.proofs.ForCallers.{put_regs, put_same, plain_address}
use Rattle.word_code.specs.declared.word.TheConstants.{MOST_ARGUMENTS}
use Rattle.word_code.specs.declared.word.WordInstr.{WordInstr}
use Rattle.word_code.specs.declared.word.WordInstr.TheVariants as word
use Rattle.word_code.specs.declared.word.ProcKind.{ProcKind}
use Rattle.word_code.specs.declared.word.ProcKind.TheVariants as kind
use Rattle.word_code.specs.declared.word.WordProc.{WordProc}
use Rattle.word_code.specs.Memory.{Memory, with_places}
use Rattle.reg_scan.specs.declared.homes.Home.TheVariants.{Frame}
use Rattle.reg_scan.specs.Alive.{effect_of, IsOne, Alive, kept_by}
use Rattle.reg_scan.specs.Homes.{home_of, IsFrame}
use Rattle.word_code.specs.Words.{Vars, no_words, WordState, most_calls, is_counted, counted, seen_call, is_full, from_proc}
use Rattle.word_code.specs.Words.{params_of}
use Rattle.word_code.specs.Words.{scene_of, entered}
use Rattle.rv32_codegen.specs.Code.{does, shift, sum, negative, is_call_or_label, only_calls, is_leaf, after_call, lines_code, hook_of, proc_code}
use Rattle.rv32_codegen.specs.Code.{start_code}
use Rattle.rv32_codegen.proofs.StackWords.{words, word_in, put_word, length-put_word, word_put_same, before_put, word_put_other, word_dropped}
use Rattle.rv32_codegen.proofs.Machine.{state_of, run_at, Fits, word_place, Regs, put_other, quiet_does, Goes_in, then_goes}
use Rattle.rv32_codegen.proofs.PieceRuns.{shift_any, sum_any, sw_at}
use Rattle.rv32_codegen.proofs.Chunks.{quiet_entry, quiet_lines}
use Rattle.rv32_codegen.proofs.Lookups.{procs_code, behind, none_some, number_is, code_from, entry_is}
use Rattle.rv32_codegen.proofs.Frames.{size, IsThere, IsLaid, word_at, word_kept, word_framed, places_end, Within}
use Rattle.rv32_codegen.proofs.Frames.{sits_next, sits_within, Held, Gave, held_moved, linked_moved}
use Rattle.rv32_codegen.proofs.Frames.{Setting, whole, True, Sim}
use Rattle.rv32_codegen.proofs.LineRuns.{homes, laid_of, inside_of, Setting_line, Behind, Here}
use Rattle.rv32_codegen.proofs.LineRuns.{Line_sim, named_of}

-- a call of a user's hook is seen where its label is come to
pub seen_is : (k : ProcKind) (others : List Event) → others ≡ [] → hook_or (hook_of k) others ≡ seen_call k
seen_is kind.Counted others e = e
seen_is (kind.Hook kind of) others e = refl
seen_is kind.Uncounted others e = e

-- ---- behind a call of a leaf there are calls alone

only_behind : (before : List WordInstr) (l : WordInstr) (rest : List WordInstr) → only_calls (before ++ l ∷ rest) ≡ true → only_calls rest ≡ true
only_behind [] l rest h = (and_parts (is_call_or_label l) (only_calls rest) h).1
only_behind (x ∷ before) l rest h = only_behind before l rest (and_parts (is_call_or_label x) (only_calls (before ++ l ∷ rest)) h).1

call_last : (before : List WordInstr) (l : WordInstr) (rest : List WordInstr) → (effect_of l).calls ≡ true →
    is_leaf (before ++ l ∷ rest) ≡ true → only_calls rest ≡ true
call_last [] l rest e h = sym (cond-true (effect_of l).calls (only_calls rest) (is_leaf rest) e) ∙ h
call_last (x ∷ before) l rest e h =
    let more = before ++ l ∷ rest in
    elim (cases_Bool (effect_of x).calls) [
      | inl t ↦ only_behind before l rest (sym (cond-true (effect_of x).calls (only_calls more) (is_leaf more) t) ∙ h)
      | inr f ↦ call_last before l rest e (sym (cond-false (effect_of x).calls (only_calls more) (is_leaf more) f) ∙ h)
    ]

module _ (g : Setting) where
  -- ---- the frame of a call

  -- what stands in front of all procedures
  abbrev front : List LabelLine
  front = start_code []

  whole_within : (left : List LabelLine) → Within (procs_code g.lay g.procs) left → Within (whole g) left
  whole_within left h = (front ++ h.0, ap (λ l. front ++ l) h.1)

  -- the front of a procedure makes its frame: from word k, behind which the caller's begins; and its places behind the caller's
  pub enters : (m : Memory) (ws input regs : List ℕ) (k return base : ℕ) (q : WordProc) (tail : List WordProc) → Fits m ws →
      IsLaid (g.lay q.number) q →
      size (g.lay q.number) ≤ k → k ≤ words ws → IsRegs regs → get_or regs 1 0 ≡ return → return < 2 ^ 32 →
      get_or regs 2 0 ≡ word_place m k →
      get_or regs 3 0 ≡ base → base < 2 ^ 32 → get_or regs 4 0 ≡ statics_at → (new : List ℕ)
      × Goes_in g.live (whole g) g.at 3 8 (run_at regs m ws input (proc_code (g.lay q.number) q (procs_code g.lay tail)))
      (run_at new m (put_word ws (k - size (g.lay q.number)) return) input (lines_code (g.lay q.number) q q.lines (behind g.lay tail)))
      × Regs new (word_place m (k - size (g.lay q.number))) (added base q.room) × (get_or new 1 0 ≡ return)
  enters m ws input regs k return base q tail fits laid under inside good at1 small at2 at3 low at4 =
      let h = g.lay q.number in
      let lines = lines_code h q q.lines (behind g.lay tail) in
      let j = k - size h in
      let most = fits.stack_most in
      let frame = laid.frame in
      let some = laid.some in
      let fourth = Do (Sw 2 1 0) ∷ lines in
      let third = does (shift 3 q.room) fourth in
      let second = does (sum 2 2 (negative h.frame)) third in
      let quiet = quiet_does (shift 3 q.room) fourth refl in
      let a : Goes_in g.live (whole g) g.at 1 1 (run_at regs m ws input (proc_code h q (procs_code g.lay tail))) (run_at regs m ws input second) =
      steps_one (step g.live (whole g) g.at) _ _ [] 0 1 refl (omega arith) in
      let b = sum_any g.live (whole g) g.at m ws input regs 2 2 (negative h.frame) third quiet (omega arith) (omega arith) (λ e. omega (arith, e)) good in
      let at3' : get_or b.0 3 0 ≡ base = b.2.other 3 (λ e. omega (arith, e)) (λ e. omega (arith, e)) ∙ at3 in
      let d = shift_any g.live (whole g) g.at m ws input b.0 3 q.room fourth refl (omega arith) (omega arith) (λ e. omega (arith, e))
      (subst (λ n. n < 2 ^ 32) (sym at3') low) b.2.good in
      let new = d.0 in
      let at2' : get_or new 2 0 ≡ word_place m j = d.2.other 2 (λ e. omega (arith, e)) (λ e. omega (arith, e)) ∙ b.2.same
      ∙ ap (λ n. added n (negative h.frame)) at2
      ∙ (let e : added (word_place m k) (negative h.frame) ≡ word_place m j = omega (arith, under, inside, most, frame) in e) in
      let at1' : get_or new 1 0 ≡ return =
      d.2.other 1 (λ e. omega (arith, e)) (λ e. omega (arith, e)) ∙ b.2.other 1 (λ e. omega (arith, e)) (λ e. omega (arith, e)) ∙ at1 in
      let within : j < words ws = omega (arith, under, inside, some) in
      let c = sw_at g.live (whole g) g.at m ws input new 2 1 0 j return lines (quiet_lines h q q.lines (behind g.lay tail) refl)
      (plain_address (get_or new 2 0) (word_place m j) at2' (omega (arith, most, within))) within at1' fits in
      let first = run_at regs m ws input (proc_code h q (procs_code g.lay tail)) in
      let to_fourth : Goes_in g.live (whole g) g.at 2 7 first (run_at new m ws input fourth) =
      then_goes g.live (whole g) g.at 2 0 4 3 _ _ _ (then_goes g.live (whole g) g.at 1 1 1 3 _ _ _ a b.1) d.1 in
      let same : return % 2 ^ 32 ≡ return = omega (arith, small) in (
        new,
        subst (λ n. Goes_in g.live (whole g) g.at 3 8 first (run_at new m (put_word ws j n) input lines)) same
            (then_goes g.live (whole g) g.at 2 1 7 1 _ _ _ to_fourth c),
        record {
          good = d.2.good;
          frame_is = at2';
          places_is = d.2.same ∙ ap (λ n. added n q.room) at3';
          data_is = d.2.other 4 (λ e. omega (arith, e)) (λ e. omega (arith, e)) ∙ b.2.other 4 (λ e. omega (arith, e)) (λ e. omega (arith, e)) ∙ at4;
        },
        at1',
      )

  -- parameters that are alive hold the arguments that stand below the caller's frame
  params_held : (regs ws : List ℕ) (k return : ℕ) (q : WordProc) (given : Vars) → IsLaid (g.lay q.number) q → size (g.lay q.number) ≤ k →
      k ≤ words ws → Gave g.lay g.procs ws k given →
      Held g.lay g.procs regs (put_word ws (k - size (g.lay q.number)) return) (k - size (g.lay q.number)) q q.lines (params_of q given)
  params_held regs ws k return q given laid under inside h v w lives e =
      let n = size (g.lay q.number) in
      let own = g.lay q.number in
      elim (cases_Bool (nat_lt v q.params)) [
        | inl t ↦
            let lt = ltb-true v q.params t in
            let old = h v w (sym (cond-true (nat_lt v q.params) (given v) None t) ∙ e) in
            let few = laid.few in
            let var : v < q.vars = omega (arith, lt, few) in
            let offset = own.frame - 4 * suc v in
            let home : home_of own v ≡ Frame offset = laid.homes.params v lt var lives in
            let there : IsThere n (Frame offset) = subst (IsThere n) home (laid.there v var) in
            let up = there.1.0 in
            let frame = laid.frame in
            let some = laid.some in
            let place : k - n + offset / 4 ≡ k - suc v = omega (arith, under, frame, up) in (
              var,
              (
                ap (word_at regs (put_word ws (k - n) return) (k - n)) home
                    ∙ word_put_other ws (k - n) return (omega (arith, under, inside, some)) (k - n + offset / 4) (λ s. omega (arith, s, up))
                    ∙ ap (word_in ws) place ∙ old.1,
                old.2,
              ),
            )
        | inr bad ↦ absurd (none_some w (sym (cond-false (nat_lt v q.params) (given v) None bad) ∙ e))
      ]

  called_state : Memory → WordState → List WordInstr → ℕ → WordProc → WordState
  called_state m t rest to q = record {
    units = t.units;
    memory = m;
    input = t.input;
    frame = record { proc = q; left = q.lines; vars = params_of q t.frame.given; given = no_words; base = places_end t.frame; awaits = 0 };
    callers = record t.frame { left = rest; given = no_words; awaits = to } ∷ t.callers;
  }

  if_next : (r : LabelRun) (t : WordState) (b : Bool) (x y : Next Event WordState) → (b ≡ true → Sim g r t x) → (b ≡ false → Sim g r t y) →
      Sim g r t (if b then x else y)
  if_next r t true x y h k = h refl
  if_next r t false x y h k = k refl

  -- the bytes behind the places become places
  grown : Memory → (room : ℕ) → (bytes : List ℕ) → Memory
  grown m room bytes = record m { places = m.places ++ take room bytes }

  grown_is : (m : Memory) (room : ℕ) (bytes : List ℕ) → room ≤ length bytes → with_places m room bytes ≡ grown m room bytes
  unfolding grown
  grown_is m zero bytes le = ap (λ l. record m { places = l }) (sym (append-nil m.places))
  grown_is m (suc n) bytes le = ap (λ l. record m { places = m.places ++ l }) (take-append-le (suc n) bytes (replicate (suc n) 0) le)

  entered_sim : (bytes : List ℕ) (t : WordState) (r : LabelRun) (rest : List WordInstr) (to : ℕ) (found : List WordProc) →
      ((q : WordProc) (tail : List WordProc) → found ≡ q ∷ tail → is_full q (t.frame ∷ t.callers) ≡ false →
      (q.room ≤ length bytes) × Sim g r t (Goes (seen_call q.kind) 1 (called_state (grown t.memory q.room bytes) t rest to q))) →
      Sim g r t (entered bytes t rest (scene_of t) to found)
  unfolding called_state
  entered_sim bytes t r rest to [] h = tt
  entered_sim bytes t r rest to (q ∷ tail) h =
      if_next r t (is_full q (t.frame ∷ t.callers)) _ _ (λ e. tt) (λ e.
      let x = h q tail refl e in
      subst (λ m. Sim g r t (Goes (seen_call q.kind) 1 (called_state m t rest to q))) (sym (grown_is t.memory q.room bytes x.0)) x.1)

  -- the words of its frame, and of its places
  abbrev taken : WordProc → ℕ
  taken q = size (g.lay q.number) + q.room / 4

  -- there is room for the frame and the places, and for all that may be called from there
  record HasRoom (j counts : ℕ) (q : WordProc) : Type 0 where
    under : taken q ≤ j
    deep : 4 * MOST_ARGUMENTS + (g.need q + g.total * (most_calls - (if is_counted q.kind then suc counts else counts))) ≤ 4 * (j - taken q)

  not_both : (b c : Bool) → b ≡ true → (b && c) ≡ false → c ≡ false
  not_both true c e h = h
  not_both false c e h = absurd (no e)
    where
      no : false ≡ true → ⊥
      no e = cc

  room_for : (j counts : ℕ) (p q : WordProc) (tail : List WordProc) (callee : ℕ) → from_proc callee g.procs ≡ q ∷ tail →
      4 * MOST_ARGUMENTS + (g.need p + g.total * (most_calls - counts)) ≤ 4 * j → (is_counted q.kind && nat_le most_calls counts) ≡ false →
      (is_counted q.kind ≡ false → (g.lay q.number).frame + q.room + g.need q ≤ g.need p) → HasRoom j counts q
  room_for j counts p q tail callee found deep few chain =
      let h = g.lay q.number in
      let laid = g.laid callee q tail found in
      let frame = laid.frame in
      let whole_room = laid.room in
      elim (cases_Bool (is_counted q.kind)) [
        | inl t ↦
            let lt = leb-false most_calls counts (not_both (is_counted q.kind) (nat_le most_calls counts) t few) in
            let fits = g.fits callee q tail found in
            let step_up : most_calls - counts ≡ suc (most_calls - suc counts) = omega (arith, lt) in
            let split : g.total * (most_calls - counts) ≡ g.total * suc (most_calls - suc counts) = ap (λ n. g.total * n) step_up in
            let more = mul-suc g.total (most_calls - suc counts) in
            let is : (if is_counted q.kind then suc counts else counts) ≡ suc counts = cond-true (is_counted q.kind) (suc counts) counts t in
            record {
              under = omega (arith, deep, fits, split, more, frame, whole_room);
              deep = subst (λ n. 4 * MOST_ARGUMENTS + (g.need q + g.total * (most_calls - n)) ≤ 4 * (j - taken q)) (sym is)
                  (omega (arith, deep, fits, split, more, frame, whole_room));
            }
        | inr f ↦
            let less = chain f in
            let is : (if is_counted q.kind then suc counts else counts) ≡ counts = cond-false (is_counted q.kind) (suc counts) counts f in
            record {
              under = omega (arith, deep, less, frame, whole_room);
              deep = subst (λ n. 4 * MOST_ARGUMENTS + (g.need q + g.total * (most_calls - n)) ≤ 4 * (j - taken q)) (sym is)
                  (omega (arith, deep, less, frame, whole_room));
            }
      ]

  -- behind the front of a call
  after_of : (t : WordState) (l : WordInstr) (rest : List WordInstr) (regs ws : List ℕ) (j to : ℕ) → True g t (l ∷ rest) regs ws j → List LabelLine
  after_of t l rest regs ws j to f = after_call (homes g t) to (Behind g t l rest regs ws j f)

  record Call_line (l : WordInstr) (to : ℕ) : Type 0 where
    line : Setting_line g l to
    calls : (effect_of l).calls ≡ true

  -- where the frame of a called procedure begins, before its places take bytes and after
  abbrev made_at : ℕ → WordProc → ℕ
  made_at j q = j - size (g.lay q.number)

  abbrev called_at : ℕ → WordProc → ℕ
  called_at j q = j - taken q

  -- the bytes behind the places then
  abbrev called_words : (ws : List ℕ) → ℕ → WordProc → (return : ℕ) → List ℕ
  called_words ws j q return = drop q.room (put_word ws (made_at j q) return)

  -- the machine's stack stays the same
  stack_called : (m : Memory) (ws : List ℕ) (j return : ℕ) (q : WordProc) → IsLaid (g.lay q.number) q → taken q ≤ j → j ≤ words ws →
      m.places ++ put_word ws (made_at j q) return ≡ (grown m q.room ws).places ++ called_words ws j q return
  unfolding grown
  stack_called m ws j return q laid under inside =
      let some = laid.some in
      let whole_room = laid.room in
      let ws' = put_word ws (made_at j q) return in
      ap (λ l. m.places ++ l) (sym (take-append-drop q.room ws')
      ∙ ap (λ l. l ++ drop q.room ws') (before_put ws (made_at j q) return (omega (arith, under, inside, some)) q.room (omega (arith, under, whole_room))))
      ∙ sym (append_assoc m.places (take q.room ws) (drop q.room ws'))

  call_true : (t : WordState) (l : WordInstr) (rest : List WordInstr) (regs new ws : List ℕ) (j to callee : ℕ) (q : WordProc) (tail : List WordProc)
      (f : True g t (l ∷ rest) regs ws j) → Call_line l to → to < t.frame.proc.vars → from_proc callee g.procs ≡ q ∷ tail →
      Within (whole g) (Jump 1 (Entry callee) ∷ after_of t l rest regs ws j to f) → HasRoom j (counted (t.frame ∷ t.callers)) q →
      Regs new (word_place t.memory (made_at j q)) (added (places_end t.frame) q.room) →
      get_or new 1 0 ≡ g.at (mark_before (after_of t l rest regs ws j to f)) → g.at (mark_before (after_of t l rest regs ws j to f)) < 2 ^ 32 →
      (x : True g (called_state (grown t.memory q.room ws) t rest to q) q.lines new
      (called_words ws j q (g.at (mark_before (after_of t l rest regs ws j to f)))) (called_at j q)) × (x.sits.tail ≡ tail)
  unfolding called_state after_of grown
  call_true t l rest regs new ws j to callee q tail f line lt e stands room kept one small =
      let p = t.frame.proc in
      let h = g.lay q.number in
      let m = t.memory in
      let return = g.at (mark_before (after_of t l rest regs ws j to f)) in
      let n = q.room / 4 in
      let made = made_at j q in
      let k = called_at j q in
      let ws1 = put_word ws made return in
      let ws' = called_words ws j q return in
      let laid = g.laid callee q tail e in
      let own = laid_of g t (l ∷ rest) f.sits in
      let number = number_is callee g.procs q tail e in
      let inside = inside_of g t (l ∷ rest) regs ws j f in
      let some = laid.some in
      let own_some = own.some in
      let under = room.under in
      let in_words : q.room ≡ 4 * n = let whole_room = laid.room in omega (arith, whole_room) in
      let made_under : made < words ws = omega (arith, inside, under, some, own_some) in
      let long1 : length ws1 ≡ length ws = length-put_word ws made return made_under in
      let left : length ws' ≡ length ws - q.room = length-drop q.room ws1 ∙ ap (λ x. x - q.room) long1 in
      let enough : q.room ≤ length ws = omega (arith, inside, under, in_words) in
      let grows : length (m.places ++ take q.room ws) ≡ length m.places + q.room =
      length-append m.places (take q.room ws) ∙ ap (λ x. length m.places + x) (length-take-le q.room ws enough) in
      let moved : (i : ℕ) → word_in ws' i ≡ word_in ws1 (n + i) = λ i. word_dropped ws1 q.room n i in_words in
      let here : word_in ws' k ≡ return =
      moved k ∙ ap (word_in ws1) (let s : n + k ≡ made = omega (arith, under) in s) ∙ word_put_same ws made return made_under small in
      let own_frame : (d : ℕ) → word_in ws' (k + d) ≡ word_in ws1 (made + d) = λ d.
      moved (k + d) ∙ ap (word_in ws1) (let s : n + (k + d) ≡ made + d = omega (arith, under) in s) in
      let above : (d : ℕ) → word_in ws' (k + size h + d) ≡ word_in ws (j + d) = λ d.
      moved (k + size h + d) ∙ ap (word_in ws1) (let s : n + (k + size h + d) ≡ j + d = omega (arith, under) in s)
      ∙ word_put_other ws made return made_under (j + d) (λ s. omega (arith, s, under, some)) in
      let before_call : (v : ℕ) → Alive p.lines v rest → v ≢ to → Alive p.lines v (l ∷ rest) = λ v lives ne.
      kept_by line.line.goes (λ s. ne (subst (λ o. IsOne o v) line.line.is s)) lives in
      let across : (v : ℕ) → Alive p.lines v rest → v ≢ to → v < p.vars → IsFrame (home_of (homes g t) v) = λ v lives ne less.
      own.homes.across f.sits.before rest l v to f.sits.split line.line.is line.calls lives ne less in
      let bytes : 4 * j + 0 ≡ 4 * (k + size h) + (0 + q.room) = omega (arith, under, in_words) in
      let most = f.fits.stack_most in
      let whole_words = f.fits.whole in
      let roomy = f.roomy in (
        record {
          fits = record {
            statics_most = f.fits.statics_most;
            heap_most = f.fits.heap_most;
            stack_most = omega (arith, most, grows, left, enough);
            whole = omega (arith, grows, whole_words, in_words);
          };
          kept = subst (λ i. Regs new (stack_at + i) (added (places_end t.frame) q.room))
              (let s : length m.places + 4 * made ≡ length (m.places ++ take q.room ws) + 4 * k = omega (arith, grows, under, in_words) in s) kept;
          sits = record { tail = tail; found = ap (λ n. from_proc n g.procs) number ∙ e; before = []; split = refl };
          held = held_moved g.lay g.procs new ws1 ws' made k q q.lines (params_of q t.frame.given) own_frame
              (params_held new ws j return q t.frame.given laid (omega (arith, under)) (omega (arith, inside)) f.given);
          given = λ i w x. absurd (none_some w x);
          linked = (
            record {
              sits = sits_next g.lay g.procs p l rest f.sits;
              last = λ leaf. call_last f.sits.before l rest line.calls (ap is_leaf f.sits.split ∙ leaf);
              behind_call = subst (λ n. Within (whole g) (Jump 1 (Entry n) ∷ after_of t l rest regs ws j to f)) (sym number) stands;
              returns = here;
              base_is = refl;
              awaits = lt;
              given = refl;
              rests = λ v w lives ne x. let y = f.held v w (before_call v lives ne) x in (
                y.0,
                (
                  (λ any. word_kept any ws ws' j (k + size h) (home_of (homes g t) v) above
                      ∙ word_framed regs any ws j (home_of (homes g t) v) (across v lives ne y.0) ∙ y.1.0),
                  y.1.1,
                ),
              );
              apart = λ v lives ne less. own.homes.apart f.sits.before rest l v to f.sits.split line.line.is lives ne less lt;
              deep = subst (λ n. 4 * MOST_ARGUMENTS + (g.need p + g.total * (most_calls - counted (t.frame ∷ t.callers))) ≤ n)
                  (let s : 4 * j ≡ 4 * (k + size h) + (0 + q.room) = omega (arith, bytes) in s) f.deep;
            },
            linked_moved g.lay g.procs g.need g.total (whole g) g.at ws ws' j (k + size h) p t.frame.base 0 (0 + q.room) t.callers
                (omega (arith, left, enough, under, in_words)) (sym bytes) (λ d o. above d) f.linked,
          );
          leaf = λ leaf more. one ∙ sym here;
          deep = room.deep;
          roomy = omega (arith, roomy, grows);
          units = f.units;
        },
        refl,
      )

  -- the address of the mark behind a call
  module _ (number : ℕ) (after : List LabelLine) (stands : Within (whole g) (Jump 1 (Entry number) ∷ after)) where
    mark_in : mark_before after ≤ marks (whole g)
    mark_in = subst (λ l. mark_before after ≤ marks l) (sym stands.1) (mark_within stands.0 (Jump 1 (Entry number)) after refl)

    pub return_fits : g.at (mark_before after) < 2 ^ 32
    return_fits = g.rises.fits (mark_before after) (mark_some after) mark_in

    pub return_whole : g.at (mark_before after) % 4 ≡ 0
    return_whole = g.rises.whole (mark_before after) (mark_some after) mark_in

    pub returns_to : from_mark g.at (g.at (mark_before after)) (whole g) ≡ Some after
    returns_to =
        ap (from_mark g.at (g.at (mark_before after))) stands.1
        ∙ comes_back g.at stands.0 after (Jump 1 (Entry number)) (subst (λ l. Rise g.at (marks l)) stands.1 g.rises) refl refl

  pub call_sim : (to callee : ℕ) → Line_sim g (word.Call to callee)
  unfolding called_state call_true after_of grown
  call_sim to callee t rest regs ws j f =
      let l = word.Call to callee in
      let k = Behind g t l rest regs ws j f in
      let p = t.frame.proc in
      let m = t.memory in
      let base = places_end t.frame in
      let lt = ltb-true to p.vars (named_of g t l rest f.sits) in
      let r = Here g t l rest regs ws j f in
      entered_sim ws t r rest to (from_proc callee g.procs) (λ q tail e few.
      let h = g.lay q.number in
      let laid = g.laid callee q tail e in
      let after = after_call (homes g t) to k in
      let return = g.at (mark_before after) in
      let jump = Jump 1 (Entry callee) ∷ after in
      let stands : Within (whole g) jump = whole_within jump (sits_within g.lay g.procs p (l ∷ rest) f.sits) in
      let fits = return_fits callee after stands in
      let inside = inside_of g t (l ∷ rest) regs ws j f in
      let room = room_for j (counted (t.frame ∷ t.callers)) p q tail callee e f.deep few
      (g.chains p q f.sits.tail tail f.sits.before to callee rest f.sits.found f.sits.split e) in
      let two = put regs 1 return in
      let body = proc_code h q (procs_code g.lay tail) in
      let found : from_label (Entry callee) (whole g) ≡ Some body = entry_is g.lay callee g.procs ∙ ap (code_from g.lay) e in
      let there = run_at two m ws t.input body in
      let shown : hook_at body ≡ seen_call q.kind =
      seen_is q.kind _ (quiet_entry h q (lines_code h q q.lines (behind g.lay tail))) in
      let z = steps_one (step g.live (whole g) g.at) r there (seen_call q.kind) 1 1
      (ap (λ o. goto (state_of two m ws) o t.input) found ∙ ap (λ es. Goes es 1 there) shown) (omega arith) in
      let good = put_regs regs 1 return f.kept.good in
      let at2 : get_or two 2 0 ≡ word_place m j = put_other regs 1 2 return (λ e. omega (arith, e)) ∙ f.kept.frame_is in
      let at3 : get_or two 3 0 ≡ base = put_other regs 1 3 return (λ e. omega (arith, e)) ∙ f.kept.places_is in
      let at4 : get_or two 4 0 ≡ statics_at = put_other regs 1 4 return (λ e. omega (arith, e)) ∙ f.kept.data_is in
      let under = room.under in
      let w = enters m ws t.input two j return base q tail f.fits laid (omega (arith, under)) (omega (arith, inside)) good
      (put_same regs 1 return f.kept.good (omega arith) (omega arith)) fits at2 at3 (omega arith) at4 in
      let x_true = call_true t l rest regs w.0 ws j to callee q tail f (record { line = record { goes = refl; is = refl }; calls = refl }) lt e stands room
      w.2 w.3 fits in
      let code = lines_code h q q.lines (behind g.lay tail) in
      let last = run_at w.0 (grown m q.room ws) (called_words ws j q return) t.input code in
      let entered : Goes_in g.live (whole g) g.at 3 8 there last =
      subst (λ l. Goes_in g.live (whole g) g.at 3 8 there (record {
        state = record { regs = w.0; pc = 0; code = []; statics = m.statics; heap = m.heap; stack = l };
        left = code;
        input = t.input;
      })) (stack_called m ws j return q laid under (omega (arith, inside))) w.1 in
      let whole_room = laid.room in
      let all = steps_on (step g.live (whole g) g.at) 1 3 1 8 r there last (seen_call q.kind) [] z entered in
      let shown_all = subst (λ es. Steps (step g.live (whole g) g.at) 4 r es 9 last) (append-nil (seen_call q.kind)) all in (
        omega (arith, inside, under, whole_room),
        (
          last,
          4,
          record { work = shown_all.work; within = omega (arith, shown_all.within); by = shown_all.by },
          record { regs = w.0; ws = called_words ws j q return; j = called_at j q; facts = x_true.0; is = refl },
          inl (omega arith),
        ),
      ))

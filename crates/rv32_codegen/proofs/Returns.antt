-- What returns of word code do, their label code does.
use Rattle.std.proofs.Common.{◌≡◌, ◌≢◌, ℕ, zero, suc, ◌+◌, ◌-◌, ◌*◌, ◌/◌, ◌%◌, ◌^◌, ◌<◌, ◌≤◌, ◌⊎◌, inl, inr}
use Rattle.std.proofs.Common.{List, [], ◌∷◌, ◌++◌, length, take, drop, get_or, Bool, true, false}
use Rattle.std.proofs.Common.{Some, refl, sym, ap, subst, ◌∙◌, arith, append_assoc, length-append, length-drop, length-take-le, take_all}
use Rattle.std.proofs.lemmas.Bool.{true≢false}
use Rattle.std.proofs.lemmas.List.{take-append-drop}
use Rattle.arc_base.specs.Stepping.{Goes}
use Rattle.arc_base.proofs.ForCallers.{steps_one, steps_none}
use Rattle.rv32_isa.specs.declared.instr.Instr.TheVariants.{Jalr}
use Rattle.rv32_isa.specs.declared.label.LabelName.TheVariants.{Entry}
use Rattle.rv32_isa.specs.declared.label.LabelLine.{LabelLine}
use Rattle.rv32_isa.specs.declared.label.LabelLine.TheVariants.{Do, Jump}
use Rattle.rv32_isa.specs.Image.{stack_at}
use Rattle.rv32_isa.specs.Values.{added}
use Rattle.rv32_isa.specs.Steps.{signed12}
use Rattle.rv32_isa.specs.Labels.{mark_before, from_mark}
use Rattle.rv32_isa.specs.LabelsMeaning.{LabelRun, goto, step}
use Rattle.rv32_logic.specs.Registers.{put, IsRegs}
use Rattle.rv32_logic.proofs.ForCallers.{put_regs, put_same, plain_address}
use Rattle.word_code.specs.declared.word.TheConstants.{MOST_ARGUMENTS}
use Rattle.word_code.specs.declared.word.WordInstr.{WordInstr}
use Rattle.word_code.specs.declared.word.WordInstr.TheVariants as word
use Rattle.word_code.specs.Memory.{Memory, without_places}
use Rattle.reg_scan.specs.Alive.{Alive, read_by}
use Rattle.reg_scan.specs.Homes.{home_of}
use Rattle.word_code.specs.Words.{put as put_var, WordFrame, WordState}
use Rattle.word_code.specs.Words.{most_calls, counted, returned, on}
use Rattle.rv32_codegen.specs.Code.{does, shift, sum, negative, give, is_leaf, restore, after_call, line_code}
use Rattle.rv32_codegen.proofs.StackWords.{words, word_in, word_given}
use Rattle.rv32_codegen.proofs.Machine.{state_of, run_at, Fits, word_place, Regs, put_other, Quiet, quiet_does, Goes_in, then_goes}
use Rattle.rv32_codegen.proofs.Machine.{goes_within}
use Rattle.rv32_codegen.proofs.PieceRuns.{Leads, Puts, shift_any, sum_any, lw_at}
use Rattle.rv32_codegen.proofs.Chunks.{quiet_lines}
use Rattle.rv32_codegen.proofs.Lookups.{behind, none_some}
use Rattle.rv32_codegen.proofs.Frames.{size, saved, HasWord, length-saved, saved_outside, places_end, rooms, Within}
use Rattle.rv32_codegen.proofs.Frames.{code_here, Waits, Linked, linked_inside, linked_moved, held_moved, put_held}
use Rattle.rv32_codegen.proofs.Frames.{Setting, whole, True, Sim}
use Rattle.rv32_codegen.proofs.HomeRuns.{home_gives, alike_refl}
use Rattle.rv32_codegen.proofs.LineRuns.{homes, sim_goes, using_sim, laid_of, inside_of, var_moves, Behind, Here}
use Rattle.rv32_codegen.proofs.LineRuns.{Line_sim}
use Rattle.rv32_codegen.proofs.Calls.{return_fits, return_whole, returns_to}

-- a jump to an address that is a multiple of 4
target_is : (x n : ℕ) → x ≡ n → n % 4 ≡ 0 → n < 2 ^ 32 → added x (signed12 0) / 2 * 2 ≡ n
target_is x n e whole_words fits =
    ap (λ y. added y (signed12 0) / 2 * 2) e ∙ (let f : (n + 0) % 2 ^ 32 / 2 * 2 ≡ n = omega (arith, whole_words, fits) in f)

module _ (g : Setting) where
  -- ---- returns

  return_state : Memory → WordState → ℕ → WordFrame → List WordFrame → WordState
  return_state m t a c cs = record t { memory = m; frame = record c { vars = put_var c.vars c.awaits a }; callers = cs }

  -- the last places become bytes behind the places again
  shrunk : Memory → (room : ℕ) → Memory
  shrunk m room = record m { places = take (length m.places - room) m.places }

  abbrev gone : Memory → (room : ℕ) → List ℕ
  gone m room = drop (length m.places - room) m.places

  shrunk_is : (m : Memory) (room : ℕ) → without_places m room ≡ shrunk m room
  unfolding shrunk
  shrunk_is m zero = ap (λ l. record m { places = l }) (sym (take_all (length m.places - 0) m.places (omega arith)))
  shrunk_is m (suc n) = refl

  returned_sim : (t : WordState) (r : LabelRun) (a : ℕ) (callers : List WordFrame) →
      ((c : WordFrame) (cs : List WordFrame) → callers ≡ c ∷ cs →
      Sim g r t (on (return_state (shrunk t.memory t.frame.proc.room) t a c cs))) → Sim g r t (returned t a callers)
  unfolding return_state
  returned_sim t r a [] h = tt
  returned_sim t r a (c ∷ cs) h =
      subst (λ m. Sim g r t (on (return_state m t a c cs))) (sym (shrunk_is t.memory t.frame.proc.room)) (h c cs refl)

  abbrev Waiting : WordState → (ws : List ℕ) → (j : ℕ) → WordFrame → List WordFrame → Type 0
  Waiting t ws j c cs =
      Waits g.lay g.procs g.need g.total (whole g) g.at ws (j + size (homes g t)) t.frame.proc.number (word_in ws j) t.frame.base (0 + t.frame.proc.room)
      c cs

  abbrev Above : WordState → (ws : List ℕ) → (j : ℕ) → WordFrame → List WordFrame → Type 0
  Above t ws j c cs =
      Linked g.lay g.procs g.need g.total (whole g) g.at ws (j + size (homes g t)) c.proc c.base (0 + t.frame.proc.room) cs

  -- where the caller's frame begins then, and the bytes behind the places
  abbrev back_at : WordState → (j : ℕ) → ℕ
  back_at t j = t.frame.proc.room / 4 + (j + size (homes g t))

  abbrev back_words : WordState → (ws : List ℕ) → (j a : ℕ) → WordFrame → List ℕ
  back_words t ws j a c =
      gone t.memory t.frame.proc.room ++ saved ws (j + size (homes g t)) (home_of (g.lay c.proc.number) c.awaits) (a % 2 ^ 32)

  -- the machine's stack stays the same
  stack_back : (m : Memory) (room : ℕ) (ws : List ℕ) → m.places ++ ws ≡ (shrunk m room).places ++ (gone m room ++ ws)
  unfolding shrunk
  stack_back m room ws =
      let n = length m.places - room in
      ap (λ l. l ++ ws) (sym (take-append-drop n m.places)) ∙ append_assoc (take n m.places) (drop n m.places) ws

  return_true : (t : WordState) (lines : List WordInstr) (regs new ws : List ℕ) (j a : ℕ) (c : WordFrame) (cs : List WordFrame)
      (f : True g t lines regs ws j) →
      (x : Waiting t ws j c cs) → Above t ws j c cs → rooms (t.frame ∷ c ∷ cs) ≤ length t.memory.places →
      Regs new (word_place t.memory (j + size (homes g t))) (places_end c) →
      HasWord new (home_of (g.lay c.proc.number) c.awaits) (a % 2 ^ 32) →
      True g (return_state (shrunk t.memory t.frame.proc.room) t a c cs) c.left new (back_words t ws j a c) (back_at t j)
  unfolding return_state shrunk
  return_true t lines regs new ws j a c cs f x more roomy kept has =
      let m = t.memory in
      let room = t.frame.proc.room in
      let n = j + size (homes g t) in
      let k = back_at t j in
      let h = g.lay c.proc.number in
      let home = home_of h c.awaits in
      let ws1 = saved ws n home (a % 2 ^ 32) in
      let ws' = back_words t ws j a c in
      let laid = g.laid c.proc.number c.proc x.sits.tail x.sits.found in
      let there = laid.there c.awaits x.awaits in
      let inside = linked_inside g.lay g.procs g.need g.total (whole g) g.at ws n c.proc c.base (0 + room) cs more in
      let long1 : length ws1 ≡ length ws = length-saved ws n (size h) inside home (a % 2 ^ 32) there in
      let in_words : room ≡ 4 * (room / 4) = let own = laid_of g t lines f.sits in let whole_room = own.room in omega (arith, whole_room) in
      let less : length (take (length m.places - room) m.places) ≡ length m.places - room =
      length-take-le (length m.places - room) m.places (omega arith) in
      let given_back : length (gone m room) ≡ room =
      length-drop (length m.places - room) m.places ∙ (let s : length m.places - (length m.places - room) ≡ room = omega (arith, roomy) in s) in
      let long : length ws' ≡ room + length ws = length-append (gone m room) ws1 ∙ ap (λ i. i + length ws1) given_back ∙ ap (λ i. room + i) long1 in
      let moved : (i : ℕ) → word_in ws' (room / 4 + i) ≡ word_in ws1 i = λ i. word_given (gone m room) ws1 (room / 4) i (given_back ∙ in_words) in
      let own_frame : (d : ℕ) → word_in ws' (k + d) ≡ word_in ws1 (n + d) = λ d.
      ap (word_in ws') (let s : k + d ≡ room / 4 + (n + d) = omega arith in s) ∙ moved (n + d) in
      let bytes : 4 * k + 0 ≡ 4 * n + (0 + room) = omega (arith, in_words) in
      let most = f.fits.stack_most in
      let whole_words = f.fits.whole in
      record {
        fits = record {
          statics_most = f.fits.statics_most;
          heap_most = f.fits.heap_most;
          stack_most = omega (arith, most, less, long, roomy);
          whole = omega (arith, less, whole_words, in_words, roomy);
        };
        kept = subst (λ i. Regs new (stack_at + i) (places_end c))
            (let s : length m.places + 4 * n ≡ length (take (length m.places - room) m.places) + 4 * k = omega (arith, less, in_words, roomy) in s) kept;
        sits = x.sits;
        held = held_moved g.lay g.procs new ws1 ws' n k c.proc c.left (put_var c.vars c.awaits a) own_frame
            (put_held g.lay g.procs new ws n c.proc c.left c.vars c.awaits a laid x.awaits inside
            (λ v w lives ne e. let y = x.rests v w lives ne e in (y.0, (y.1.0 new, y.1.1))) x.apart has);
        given = λ i w e. absurd (none_some w (ap (λ v. v i) (sym x.given) ∙ e));
        linked = linked_moved g.lay g.procs g.need g.total (whole g) g.at ws ws' n k c.proc c.base (0 + room) 0 cs
            (omega (arith, long, in_words)) bytes
            (λ d o. own_frame d ∙ saved_outside ws n (size h) inside (n + d) home (a % 2 ^ 32) there (at_frame n d (size h) o)) more;
        leaf = λ leaf more. absurd (true≢false (sym (x.last leaf) ∙ more));
        deep = subst (λ i. 4 * MOST_ARGUMENTS + (g.need c.proc + g.total * (most_calls - counted (c ∷ cs))) ≤ i)
            (let s : 4 * n + (0 + room) ≡ 4 * k = omega (arith, bytes) in s) x.deep;
        roomy = omega (arith, roomy, less);
        units = f.units;
      }
    where
      at_frame : (n d s : ℕ) → (d ≡ 0) ⊎ (s ≤ d) → (n + d ≤ n) ⊎ (n + s ≤ n + d)
      at_frame n d s (inl e) = inl (omega (arith, e))
      at_frame n d s (inr le) = inr (omega (arith, le))

  -- the return address is in x1: it is still there, or is loaded
  restores : (m : Memory) (ws input regs : List ℕ) (j return : ℕ) (leaf : Bool) (rest : List LabelLine) → Quiet rest → Fits m ws → j < words ws →
      IsRegs regs → get_or regs 2 0 ≡ word_place m j → word_in ws j ≡ return → return < 2 ^ 32 → (leaf ≡ true → get_or regs 1 0 ≡ return) →
      Leads g.live (whole g) g.at m ws input 0 1 regs (restore leaf) rest (λ new. Puts regs new 1 return)
  restores m ws input regs j return true rest quiet fits within good frame is small there =
      (regs, steps_none (step g.live (whole g) g.at) (run_at regs m ws input rest) 1, record { good = good; same = there refl; other = λ r _. refl })
  restores m ws input regs j return false rest quiet fits within good frame is small there =
      let most = fits.stack_most in
      let place = plain_address (get_or regs 2 0) (word_place m j) frame (omega (arith, most, within)) in
      let x = lw_at g.live (whole g) g.at m ws input regs 1 2 0 j return rest quiet place within is small fits in (
        put regs 1 return,
        goes_within g.live (whole g) g.at 1 0 1 1 _ _ (omega arith) (omega arith) x,
        record {
          good = put_regs regs 1 return good;
          same = put_same regs 1 return good (omega arith) (omega arith);
          other = λ r ne. put_other regs 1 r return ne;
        },
      )

  -- what stands where a call has returned
  record Left (regs : List ℕ) (frame places a : ℕ) : Type 0 where
    kept : Regs regs frame places
    ten : get_or regs 10 0 ≡ a

  places_gone : (base room : ℕ) → base < 2 ^ 32 → added (added base room) (negative room) ≡ base
  places_gone base room small = omega (arith, small)

  -- the end of a procedure: frame and places go, and the mark behind the call is next
  leaves : (t : WordState) (from : ℕ) (rest : List WordInstr) (regs ws : List ℕ) (j a : ℕ) (f : True g t (word.Return from ∷ rest) regs ws j)
      (k after : List LabelLine)
      → t.frame.vars from ≡ Some a → t.frame.base < 2 ^ 32 → word_in ws j ≡ g.at (mark_before after) →
      Within (whole g) (Jump 1 (Entry t.frame.proc.number) ∷ after) → Quiet after →
      (new : List ℕ) × Goes_in g.live (whole g) g.at 3 11
      (run_at regs t.memory ws t.input (line_code (homes g t) t.frame.proc (word.Return from) k)) (run_at new t.memory ws t.input after)
      × Left new (word_place t.memory (j + size (homes g t))) t.frame.base a
  leaves t from rest regs ws j a f k after e fits returns stands quiet =
      let h = homes g t in
      let p = t.frame.proc in
      let m = t.memory in
      let fr = word_place m j in
      let base = t.frame.base in
      let leaf = is_leaf p.lines in
      let n = j + size h in
      let inside = inside_of g t (word.Return from ∷ rest) regs ws j f in
      let laid = laid_of g t (word.Return from ∷ rest) f.sits in
      let some = laid.some in
      let frame = laid.frame in
      let most = f.fits.stack_most in
      let return = g.at (mark_before after) in
      let small = return_fits g p.number after stands in
      let fifth = Do (Jalr 0 1 0) ∷ k in
      let fourth = does (shift 3 (negative p.room)) fifth in
      let third = does (sum 2 2 h.frame) fourth in
      let second = does (restore leaf) third in
      let quiet_fourth = quiet_does (shift 3 (negative p.room)) fifth refl in
      let quiet_third = quiet_does (sum 2 2 h.frame) fourth quiet_fourth in
      let r = run_at regs m ws t.input (line_code h p (word.Return from) k) in
      let within : j < words ws = omega (arith, inside, some) in
      let lives : Alive p.lines from (word.Return from ∷ rest) = read_by (inl refl) in
      let x = var_moves g t (word.Return from ∷ rest) regs ws j f regs 10 from a second (quiet_does (restore leaf) third quiet_third) (omega arith)
      (omega arith) lives e f.kept (alike_refl regs) in
      let still : leaf ≡ true → get_or x.0 1 0 ≡ return = λ b. x.2.other 1 (λ e. omega (arith, e)) ∙ f.leaf b refl ∙ returns in
      let y = restores m ws t.input x.0 j return leaf third quiet_third f.fits within x.2.kept.good x.2.kept.frame_is returns small still in
      let one = y.0 in
      let z = sum_any g.live (whole g) g.at m ws t.input one 2 2 h.frame fourth quiet_fourth (omega arith) (omega arith) (λ e. omega (arith, e)) y.2.good in
      let two = z.0 in
      let at2 : get_or two 2 0 ≡ word_place m n =
      z.2.same ∙ ap (λ i. added i h.frame) (y.2.other 2 (λ e. omega (arith, e)) ∙ x.2.kept.frame_is)
      ∙ (let w : added fr h.frame ≡ word_place m n = omega (arith, inside, most, frame) in w) in
      let at3 : get_or two 3 0 ≡ places_end t.frame =
      z.2.other 3 (λ e. omega (arith, e)) (λ e. omega (arith, e)) ∙ y.2.other 3 (λ e. omega (arith, e)) ∙ x.2.kept.places_is in
      let u = shift_any g.live (whole g) g.at m ws t.input two 3 (negative p.room) fifth refl (omega arith) (omega arith) (λ e. omega (arith, e))
      (subst (λ i. i < 2 ^ 32) (sym at3) (omega arith)) z.2.good in
      let new = u.0 in
      let same : (i : ℕ) → i ≢ 3 → i ≢ 2 → i ≢ 5 → get_or new i 0 ≡ get_or one i 0 =
      λ i third second fifth. u.2.other i third fifth ∙ z.2.other i second fifth in
      let kept : Regs new (word_place m n) base = record {
        good = u.2.good;
        frame_is = u.2.other 2 (λ e. omega (arith, e)) (λ e. omega (arith, e)) ∙ at2;
        places_is = u.2.same ∙ ap (λ i. added i (negative p.room)) at3 ∙ places_gone base p.room fits;
        data_is = same 4 (λ e. omega (arith, e)) (λ e. omega (arith, e)) (λ e. omega (arith, e)) ∙ y.2.other 4 (λ e. omega (arith, e))
            ∙ x.2.kept.data_is;
      } in
      let at1 : get_or new 1 0 ≡ return = same 1 (λ e. omega (arith, e)) (λ e. omega (arith, e)) (λ e. omega (arith, e)) ∙ y.2.same in
      let at10 : get_or new 10 0 ≡ a =
      same 10 (λ e. omega (arith, e)) (λ e. omega (arith, e)) (λ e. omega (arith, e)) ∙ y.2.other 10 (λ e. omega (arith, e)) ∙ x.2.same in
      let mid = run_at new m ws t.input fifth in
      let to = run_at new m ws t.input after in
      let marked : from_mark g.at (added (get_or new 1 0) (signed12 0) / 2 * 2) (whole g) ≡ Some after =
      ap (λ i. from_mark g.at i (whole g)) (target_is (get_or new 1 0) return at1 (return_whole g p.number after stands) small)
      ∙ returns_to g p.number after stands in
      let back : Goes_in g.live (whole g) g.at 1 1 mid to =
      steps_one (step g.live (whole g) g.at) mid to [] 1 1 (ap (λ o. goto (state_of new m ws) o t.input) marked
      ∙ ap (λ es. Goes es 1 to) quiet) (omega arith) in
      let at_second = run_at x.0 m ws t.input second in
      let at_third = run_at one m ws t.input third in
      let to_third : Goes_in g.live (whole g) g.at 1 4 r at_third = then_goes g.live (whole g) g.at 1 0 3 1 r at_second at_third x.1 y.1 in
      let at_fourth = run_at two m ws t.input fourth in
      let to_fourth : Goes_in g.live (whole g) g.at 2 7 r at_fourth = then_goes g.live (whole g) g.at 1 1 4 3 r at_third at_fourth to_third z.1 in
      let to_mid : Goes_in g.live (whole g) g.at 2 10 r mid = then_goes g.live (whole g) g.at 2 0 7 3 r at_fourth mid to_fourth u.1 in
      (new, then_goes g.live (whole g) g.at 2 1 10 1 r mid to to_mid back, record { kept = kept; ten = at10 })

  back_sim : (t : WordState) (from : ℕ) (rest : List WordInstr) (regs ws : List ℕ) (j a : ℕ) (f : True g t (word.Return from ∷ rest) regs ws j)
      (c : WordFrame)
      (cs : List WordFrame) → t.frame.vars from ≡ Some a → Waiting t ws j c cs → Above t ws j c cs →
      rooms (t.frame ∷ c ∷ cs) ≤ length t.memory.places →
      Sim g (Here g t (word.Return from) rest regs ws j f) t (on (return_state (shrunk t.memory t.frame.proc.room) t a c cs))
  unfolding return_state return_true shrunk
  back_sim t from rest regs ws j a f c cs e wait more roomy =
      let l = word.Return from in
      let k = Behind g t l rest regs ws j f in
      let m = t.memory in
      let r = Here g t l rest regs ws j f in
      let n = j + size (homes g t) in
      let h = g.lay c.proc.number in
      let home = home_of h c.awaits in
      let inside = linked_inside g.lay g.procs g.need g.total (whole g) g.at ws n c.proc c.base (0 + t.frame.proc.room) cs more in
      let laid = g.laid c.proc.number c.proc wait.sits.tail wait.sits.found in
      let code = code_here g.lay g.procs c.proc c.left wait.sits in
      let after = after_call h c.awaits code in
      let quiet = quiet_lines h c.proc c.left (behind g.lay wait.sits.tail) refl in
      let small = subst (λ i. i < 2 ^ 32) (sym wait.base_is) (omega arith) in
      let x = leaves t from rest regs ws j a f k after e small wait.returns wait.behind_call (quiet_does (give 10 home) code quiet) in
      let kept = subst (Regs x.0 (word_place m n)) wait.base_is x.2.kept in
      let y = home_gives g.live (whole g) g.at m ws t.input n (size h) (places_end c) code quiet f.fits inside x.0 10 a home
      (laid.there c.awaits wait.awaits) (omega arith) (λ e. omega (arith, e)) x.2.ten kept in
      let room = t.frame.proc.room in
      let there = run_at y.0 m (saved ws n home (a % 2 ^ 32)) t.input code in
      let s = run_at y.0 (shrunk m room) (back_words t ws j a c) t.input code in
      let ran = then_goes g.live (whole g) g.at 3 1 11 3 r (run_at x.0 m ws t.input after) there x.1 y.1 in
      let back : Goes_in g.live (whole g) g.at 4 14 r s =
      subst (λ l. Goes_in g.live (whole g) g.at 4 14 r (record {
        state = record { regs = y.0; pc = 0; code = []; statics = m.statics; heap = m.heap; stack = l };
        left = code;
        input = t.input;
      })) (stack_back m room (saved ws n home (a % 2 ^ 32))) ran in
      sim_goes g r s t (return_state (shrunk m room) t a c cs) 4 14 back (omega arith) (omega arith)
      (record {
        regs = y.0;
        ws = back_words t ws j a c;
        j = back_at t j;
        facts = return_true t (l ∷ rest) regs y.0 ws j a c cs f wait more roomy y.2.kept y.2.has;
        is = refl;
      })

  pub return_sim : (from : ℕ) → Line_sim g (word.Return from)
  return_sim from t rest regs ws j f =
      let r = Here g t (word.Return from) rest regs ws j f in
      using_sim g ws r t rest (t.frame.vars from) _ (λ a e.
      returned_sim t r a t.callers (λ c cs callers_are.
      let linked : Linked g.lay g.procs g.need g.total (whole g) g.at ws j t.frame.proc t.frame.base 0 (c ∷ cs) =
      subst (Linked g.lay g.procs g.need g.total (whole g) g.at ws j t.frame.proc t.frame.base 0) callers_are f.linked in
      let roomy = subst (λ l. rooms (t.frame ∷ l) ≤ length t.memory.places) callers_are f.roomy in
      back_sim t from rest regs ws j a f c cs e linked.0 linked.1 roomy))

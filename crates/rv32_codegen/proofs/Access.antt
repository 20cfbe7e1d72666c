-- What a line of word code does to memory, to arguments and outside, its label code does.
use Rattle.std.proofs.Common.{◌≡◌, ◌≢◌, ℕ, suc, ◌+◌, ◌-◌, ◌*◌, ◌%◌, ◌^◌, ◌<◌, ◌≤◌, ◌⊎◌, inl, inr, List}
use Rattle.std.proofs.Common.{[], ◌∷◌, ◌++◌, length, take, drop, get_or, true, false}
use Rattle.std.proofs.Common.{Option, Some, None, Result, Ok, Err, refl, sym, ap, subst, ◌∙◌, arith, append-nil, add_assoc}
use Rattle.std.specs.Prelude.{◌==◌, ◌&&◌, nat_lt, min}
use Rattle.std.proofs.lemmas.Bool.{cases_eq, eq-eqb, ne_eqb, and_parts, and_right, ltb-true, cond-true, cond-false}
use Rattle.std.proofs.lemmas.List.{length-take-le}
use Rattle.arc_base.specs.declared.outside.Stream.{Stream}
use Rattle.arc_base.specs.Event.{Event, writes as write_events}
use Rattle.arc_base.specs.Behaviour.{Live, Ended}
use Rattle.arc_base.specs.Stepping.{Next, Goes, Ends, seen}
use Rattle.arc_base.specs.Simulation.{Stops}
use Rattle.arc_base.proofs.ForCallers.{steps_one, steps_on, stops_one}
use Rattle.rv32_isa.specs.Regions.{as_bytes}
use Rattle.rv32_isa.specs.declared.instr.Instr.TheVariants.{Addi, Ecall}
use Rattle.rv32_isa.specs.declared.micro_op.Size.{Size}
use Rattle.rv32_isa.specs.declared.micro_op.Size.TheVariants.{Byte, Half, Word}
use Rattle.rv32_isa.specs.declared.micro_op.MicroOp.TheVariants.{Store}
use Rattle.rv32_isa.specs.declared.machine.FaultKind.{FaultKind}
use Rattle.rv32_isa.specs.declared.machine.FaultKind.TheVariants.{Misaligned, OutOfRange}
use Rattle.rv32_isa.specs.declared.label.LabelLine.{LabelLine}
use Rattle.rv32_isa.specs.declared.label.LabelLine.TheVariants.{Do}
use Rattle.rv32_isa.specs.Image.{stack_at}
use Rattle.rv32_isa.specs.State.{State, skip, readable, writable, filled}
use Rattle.rv32_isa.specs.Values.{added}
use Rattle.rv32_isa.specs.Steps.{signed12, size_of, found, low_bytes, loaded, stored, act}
use Rattle.rv32_isa.specs.Steps as leads
use Rattle.rv32_isa.specs.Machine.{Answers, answered, stream_of}
use Rattle.rv32_isa.specs.LabelsMeaning.{LabelRun, did, led, replied, step}
use Rattle.rv32_logic.specs.Registers.{put}
use Rattle.rv32_isa.proofs.ForCallers.{as_many_read}
use Rattle.rv32_logic.proofs.ForCallers.{plain_address, signed12_small}
use Rattle.word_code.specs.declared.word.TheConstants.{MOST_ARGUMENTS}
use Rattle.word_code.specs.declared.word.WordInstr.{WordInstr}
use Rattle.word_code.specs.declared.word.WordInstr.TheVariants as word
use Rattle.word_code.specs.Memory.{Memory, as_state, memory_of, number_at, may_put, bytes_at, may_fill}
use Rattle.reg_scan.specs.Alive.{Alive, read_by}
use Rattle.reg_scan.specs.Homes.{home_of}
use Rattle.word_code.specs.Words.{put as put_var, WordState, scene_of, settled, does as word_does, loads, shows, on}
use Rattle.rv32_codegen.specs.Code.{does, save, fetch, store, stream_number, move, give, keep, is_call_or_label, only_calls, target, left_of, right_of}
use Rattle.rv32_codegen.specs.Code.{argument_at, move_range}
use Rattle.rv32_codegen.proofs.StackWords.{words, word_in, put_word, length-put_word, word_put_same, word_put_other}
use Rattle.rv32_codegen.proofs.Machine.{state_of, run_at, Fits, fits_words, word_place, Regs, Quiet, quiet_does, Goes_in, then_goes}
use Rattle.rv32_codegen.proofs.Machine.{instr_goes, writes}
use Rattle.rv32_codegen.proofs.PieceRuns.{Gets, put_gets, save_goes}
use Rattle.rv32_codegen.proofs.Asked.{write_is, exit_is, read_is, stream_is, stream_small}
use Rattle.rv32_codegen.proofs.Wider.{read_wider, may_wider, may_less, fill_wider, fits_kept, places_kept, found_wider, length-low_bytes}
use Rattle.rv32_codegen.proofs.Lookups.{some_same}
use Rattle.rv32_codegen.proofs.Frees.{kept_apart}
use Rattle.rv32_codegen.proofs.Frames.{size, places_end, rooms, Alike, word_kept, word_alike, Sits, sits_next, linked_kept, held_alike}
use Rattle.rv32_codegen.proofs.Frames.{Setting, whole, True, Sim}
use Rattle.rv32_codegen.proofs.HomeRuns.{seats_past, alike_refl}
use Rattle.rv32_codegen.proofs.LineRuns.{at_lines, setting, homes, frame_at, sim_goes, Sim_did, using_sim, if_sim, laid_of, inside_of, arguments_fit}
use Rattle.rv32_codegen.proofs.LineRuns.{var_moves, var_brought, both_go, small_of, Behind, quiet_behind, Here, Line_sim, named_of, sets_from, same_true}
use Rattle.rv32_codegen.proofs.LineRuns.{Passing_line, passes_alive, target_above, target_small, sets, keep_quiet, give_quiet}

module _ (g : Setting) where
  -- ---- memory

  -- where memory, input, lines and registers changed
  memory_true : (t : WordState) (lines more : List WordInstr) (regs new ws : List ℕ) (j : ℕ) (f : True g t lines regs ws j) (a : ℕ)
      (bytes input : List ℕ) →
      writable (as_state t.memory) a (length bytes) ≡ true → Sits g.lay g.procs t.frame.proc more → Regs new (frame_at g t j) (places_end t.frame) →
      Alike regs new → ((v : ℕ) → Alive t.frame.proc.lines v more → Alive t.frame.proc.lines v lines) →
      (only_calls more ≡ false → only_calls lines ≡ false) →
      True g (record (at_lines t more) { memory = memory_of (filled (as_state t.memory) a bytes); input = input }) more new ws j
  memory_true t lines more regs new ws j f a bytes input may sits kept same stays returns = record {
    fits = fits_kept regs t.memory ws a bytes may f.fits;
    kept = subst (λ n. Regs new (stack_at + (n + 4 * j)) (places_end t.frame)) (sym (places_kept regs t.memory ws a bytes may)) kept;
    sits = sits;
    held = held_alike g.lay g.procs regs new ws j t.frame.proc lines more t.frame.vars (laid_of g t lines f.sits) same stays f.held;
    given = f.given;
    linked = f.linked;
    leaf = λ leaf some. same 1 refl ∙ f.leaf leaf (returns some);
    deep = f.deep;
    roomy = subst (λ n. rooms (t.frame ∷ t.callers) ≤ n) (sym (places_kept regs t.memory ws a bytes may)) f.roomy;
    units = f.units;
  }

  loaded_sim : (bytes : List ℕ) (t : WordState) (r : LabelRun) (rest : List WordInstr) (to : ℕ) (o : Result ℕ FaultKind) →
      ((w : ℕ) → o ≡ Ok w → Sim g r t (on (setting t rest to w))) → Sim_did g bytes r t rest (loads (scene_of t) to o)
  loaded_sim bytes t r rest to (Err kind) h = tt
  loaded_sim bytes t r rest to (Ok w) h = h w refl

  fetch_is : (s : Size) (rd rs : ℕ) (regs : List ℕ) (m : Memory) (ws input : List ℕ) (rest : List LabelLine) →
      did g.live (whole g) g.at (run_at regs m ws input (Do (fetch s rd rs) ∷ rest)) rest (fetch s rd rs)
      ≡ led g.live (whole g) g.at (run_at regs m ws input (Do (fetch s rd rs) ∷ rest)) rest
      (loaded (state_of regs m ws) 0 rd (found (state_of regs m ws) (added (get_or regs rs 0) (signed12 0)) s))
  fetch_is Byte rd rs regs m ws input rest = refl
  fetch_is Half rd rs regs m ws input rest = refl
  fetch_is Word rd rs regs m ws input rest = refl

  pub load_sim : (to address : ℕ) (s : Size) → Line_sim g (word.Load to address s)
  load_sim to address s t rest regs ws j f =
      let l = word.Load to address s in
      let vars = t.frame.proc.vars in
      let m = t.memory in
      let named = and_parts (nat_lt to vars) (nat_lt address vars) (named_of g t l rest f.sits) in
      let lt = ltb-true to vars named.0 in
      let rd = target (homes g t) to in
      let rs = left_of (homes g t) address in
      let r = Here g t l rest regs ws j f in
      let last = keep (homes g t) to (Behind g t l rest regs ws j f) in
      let lives : Alive t.frame.proc.lines address (l ∷ rest) = read_by (inl refl) in
      using_sim g ws r t rest (t.frame.vars address) _ (λ a e.
      loaded_sim ws t r rest to (number_at m a s) (λ w h.
      let x = var_brought g t (l ∷ rest) regs ws j f regs 5 address a (Do (fetch s rd rs) ∷ last) refl (omega arith) (omega arith) lives e f.kept
      (alike_refl regs) in
      let mid = run_at x.0 m ws t.input (Do (fetch s rd rs) ∷ last) in
      let st = state_of x.0 m ws in
      let at_is = plain_address (get_or x.0 rs 0) a x.2.same (small_of g t (l ∷ rest) regs ws j f address a lives e) in
      let is : found st (added (get_or x.0 rs 0) (signed12 0)) s ≡ Ok w = ap (λ n. found st n s) at_is ∙ found_wider x.0 m ws a s w h in
      let v = w % 2 ^ 32 in
      let y = writes g.live (whole g) g.at m ws t.input x.0 (fetch s rd rs) rd v last (keep_quiet g t l rest regs ws j f to)
      (fetch_is s rd rs x.0 m ws t.input last ∙ ap (λ o. led g.live (whole g) g.at mid last (loaded st 0 rd o)) is) in
      let z = put_gets x.0 rd v (frame_at g t j) (places_end t.frame) (target_above g t (l ∷ rest) to f.sits lt)
      (target_small g t (l ∷ rest) to f.sits lt) x.2.kept in
      sets g t l rest regs ws j f r 1 4 to w (put x.0 rd v) (record { goes = refl; is = refl }) lt (omega arith)
      (λ n kept ne. z.other n ne ∙ x.2.others n (kept_apart n 5 kept refl)) z.kept (omega arith)
      (then_goes g.live (whole g) g.at 0 1 3 1 _ _ _ x.1 y) z.same))

  store_is : (s : Size) (ra rs : ℕ) (regs : List ℕ) (m : Memory) (ws input : List ℕ) (rest : List LabelLine) →
      did g.live (whole g) g.at (run_at regs m ws input (Do (store s ra rs) ∷ rest)) rest (store s ra rs)
      ≡ led g.live (whole g) g.at (run_at regs m ws input (Do (store s ra rs) ∷ rest)) rest
      (act (state_of regs m ws) 0 0 (Store (added (get_or regs ra 0) (signed12 0)) s (get_or regs rs 0)))
  store_is Byte ra rs regs m ws input rest = refl
  store_is Half ra rs regs m ws input rest = refl
  store_is Word ra rs regs m ws input rest = refl

  -- what a store does where it may be
  store_goes : (st next : State) (s : Size) (x a v b : ℕ) → x ≡ a → v ≡ b → (a % size_of s == 0) ≡ true →
      writable st a (size_of s) ≡ true →
      filled st a (low_bytes s b) ≡ next → act st 0 0 (Store x s v) ≡ leads.Goes (skip next)
  store_goes st next s x a v b at_is value whole_is may is =
      ap (λ n. act st 0 0 (Store n s v)) at_is
      ∙ ap (λ n. act st 0 0 (Store a s n)) value
      ∙ cond-true (a % size_of s == 0) (stored st 0 a s b) (leads.Faults Misaligned st.pc 0) whole_is
      ∙ cond-true (writable st a (size_of s)) (leads.Goes (skip (filled st a (low_bytes s b)))) (leads.Faults OutOfRange st.pc 0) may
      ∙ ap (λ u. leads.Goes (skip u)) is

  pub store_sim : (address from : ℕ) (s : Size) → Line_sim g (word.Store address from s)
  unfolding memory_true
  store_sim address from s t rest regs ws j f =
      let l = word.Store address from s in
      let k = Behind g t l rest regs ws j f in
      let p = t.frame.proc in
      let m = t.memory in
      let i = store s (left_of (homes g t) address) (right_of (homes g t) from) in
      let r = Here g t l rest regs ws j f in
      let sits = sits_next g.lay g.procs p l rest f.sits in
      let lives : Alive p.lines address (l ∷ rest) = read_by (inl refl) in
      let also : Alive p.lines from (l ∷ rest) = read_by (inr refl) in
      using_sim g ws r t rest (t.frame.vars address) _ (λ a e.
      using_sim g ws r t rest (t.frame.vars from) _ (λ b d.
      if_sim g ws r t rest (may_put m a s) _ _ (λ h.
      let x = both_go g t (l ∷ rest) regs ws j f address from a b (Do i ∷ k) refl lives also e d in
      let parts = and_parts (a % size_of s == 0) (writable (as_state m) a (size_of s)) h in
      let bytes = low_bytes s b in
      let may : writable (as_state m) a (length bytes) ≡ true = ap (writable (as_state m) a) (length-low_bytes s b) ∙ parts.1 in
      let m' = memory_of (filled (as_state m) a bytes) in
      let mid = run_at x.0 m ws t.input (Do i ∷ k) in
      let next = state_of x.0 m' ws in
      let small = small_of g t (l ∷ rest) regs ws j f address a lives e in
      let acts = store_goes (state_of x.0 m ws) next s _ a _ b (plain_address (get_or x.0 (left_of (homes g t) address) 0) a x.2.first small)
      x.2.second parts.0
      (may_wider x.0 m ws a (size_of s) parts.1) (fill_wider x.0 m ws a bytes may) in
      let y = instr_goes g.live (whole g) g.at m ws t.input x.0 i next k (quiet_behind g t rest sits)
      (store_is s (left_of (homes g t) address) (right_of (homes g t) from) x.0 m ws t.input k ∙ ap (led g.live (whole g) g.at mid k) acts) in
      let t' = record (at_lines t rest) { memory = m' } in
      let facts = memory_true t (l ∷ rest) rest regs x.0 ws j f a bytes t.input may sits x.2.kept x.2.alike
      (λ v alive. passes_alive g l p.lines rest v (record { goes = refl; none = refl }) alive) (λ more. refl) in
      sim_goes g r (run_at x.0 m' ws t.input k) t t' 1 7 (then_goes g.live (whole g) g.at 0 1 6 1 r mid _ x.1 y) (omega arith) (omega arith)
      (record { regs = x.0; ws = ws; j = j; facts = facts; is = refl }))
      (λ h. tt)))

  -- ---- arguments

  argument_place : (m : Memory) (ws : List ℕ) (j i : ℕ) → Fits m ws → i < MOST_ARGUMENTS → MOST_ARGUMENTS ≤ j → j < words ws →
      added (word_place m j) (argument_at i) ≡ word_place m (j - suc i)
  argument_place m ws j i fits lt le inside = omega (arith, fits.stack_most, lt, le, inside)

  give_true : (t : WordState) (l : WordInstr) (rest : List WordInstr) (regs new ws : List ℕ) (j i a : ℕ) (f : True g t (l ∷ rest) regs ws j) →
      i < MOST_ARGUMENTS → Passing_line g l →
      Regs new (frame_at g t j) (places_end t.frame) → Alike regs new →
      True g (record t { frame = record t.frame { left = rest; given = put_var t.frame.given i a } }) rest new (put_word ws (j - suc i) (a % 2 ^ 32)) j
  give_true t l rest regs new ws j i a f lt line kept same =
      let p = t.frame.proc in
      let k = j - suc i in
      let n = a % 2 ^ 32 in
      let ws' = put_word ws k n in
      let inside = inside_of g t (l ∷ rest) regs ws j f in
      let fit = arguments_fit g t (l ∷ rest) regs ws j f in
      let laid = laid_of g t (l ∷ rest) f.sits in
      let some = laid.some in
      let under : k < words ws = omega (arith, inside, some, lt, fit) in
      let long : length ws' ≡ length ws = length-put_word ws k n under in
      let past : (x : ℕ) → j ≤ x → word_in ws' x ≡ word_in ws x = λ x le. word_put_other ws k n under x (λ s. omega (arith, s, le, lt, fit)) in
      record {
        fits = fits_words t.memory ws ws' long f.fits;
        kept = kept;
        sits = sits_next g.lay g.procs p l rest f.sits;
        held = λ v w lives e. let x = f.held v w (passes_alive g l p.lines rest v line lives) e in (
          x.0,
          (
            word_kept new ws ws' j j (home_of (homes g t) v) (λ d. past (j + d) (omega arith))
                ∙ word_alike regs new ws j (size (homes g t)) (home_of (homes g t) v) (laid.there v x.0) same ∙ x.1.0,
            x.1.1,
          ),
        );
        given = λ x w e. given_one x w e (cases_eq x i) fit lt inside some;
        linked = linked_kept g.lay g.procs g.need g.total (whole g) g.at ws ws' j p t.frame.base 0 t.callers long
            (λ x o. past x (elim o [ inl e ↦ omega (arith, e) | inr le ↦ omega (arith, le) ])) f.linked;
        leaf = λ leaf more. same 1 refl ∙ f.leaf leaf (and_right (is_call_or_label l) (only_calls rest) more) ∙ sym (past j (omega arith));
        deep = f.deep;
        roomy = f.roomy;
        units = f.units;
      }
    where
      given_one : (x w : ℕ) → put_var t.frame.given i a x ≡ Some w → (x ≡ i) ⊎ (x ≡ i → ⊥) → MOST_ARGUMENTS ≤ j →
          i < MOST_ARGUMENTS →
          j + size (homes g t) ≤ words ws → 0 < size (homes g t) →
          (x < MOST_ARGUMENTS) × (word_in (put_word ws (j - suc i) (a % 2 ^ 32)) (j - suc x) ≡ w) × (w < 2 ^ 32)
      given_one x w e (inl same) fit lt inside some =
          let n = a % 2 ^ 32 in
          let is = some_same n w (sym (cond-true (x == i) (Some n) (t.frame.given x) (eq-eqb x i same)) ∙ e) in (
            omega (arith, same, lt),
            ap (λ y. word_in (put_word ws (j - suc i) n) (j - suc y)) same
                ∙ word_put_same ws (j - suc i) n (omega (arith, inside, some, lt, fit)) (omega arith) ∙ is,
            omega (arith, is),
          )
      given_one x w e (inr ne) fit lt inside some =
          let n = a % 2 ^ 32 in
          let old = f.given x w (sym (cond-false (x == i) (Some n) (t.frame.given x) (ne_eqb x i ne)) ∙ e) in
          let apart : j - suc x ≢ j - suc i = λ s. ne (omega (arith, s, old.0, lt, fit)) in
          (old.0, word_put_other ws (j - suc i) n (omega (arith, inside, some, lt, fit)) (j - suc x) apart ∙ old.1, old.2)

  pub argument_sim : (index from : ℕ) → Line_sim g (word.Argument index from)
  unfolding give_true
  argument_sim index from t rest regs ws j f =
      let l = word.Argument index from in
      let k = Behind g t l rest regs ws j f in
      let m = t.memory in
      let vars = t.frame.proc.vars in
      let named = and_parts (nat_lt index MOST_ARGUMENTS) (nat_lt from vars) (named_of g t l rest f.sits) in
      let lt = ltb-true index MOST_ARGUMENTS named.0 in
      let r = Here g t l rest regs ws j f in
      let inside = inside_of g t (l ∷ rest) regs ws j f in
      let laid = laid_of g t (l ∷ rest) f.sits in
      let some = laid.some in
      let fit = arguments_fit g t (l ∷ rest) regs ws j f in
      let quiet = quiet_behind g t rest (sits_next g.lay g.procs t.frame.proc l rest f.sits) in
      let lives : Alive t.frame.proc.lines from (l ∷ rest) = read_by (inl refl) in
      let rs = left_of (homes g t) from in
      using_sim g ws r t rest (t.frame.vars from) _ (λ a e.
      let offset = argument_at index in
      let there = laid.there from (f.held from a lives e).0 in
      let x = var_brought g t (l ∷ rest) regs ws j f regs 5 from a (does (save rs offset) k) (quiet_does (save rs offset) k quiet) (omega arith)
      (omega arith) lives e f.kept (alike_refl regs) in
      let y = save_goes g.live (whole g) g.at m ws t.input x.0 rs offset (j - suc index) a (frame_at g t j) (places_end t.frame) k quiet (omega arith)
      (argument_place m ws j index f.fits lt fit (omega (arith, inside, some))) (omega (arith, inside, some)) f.fits x.2.kept
      (seats_past (size (homes g t)) (home_of (homes g t) from) there) x.2.same in
      let ws' = put_word ws (j - suc index) (a % 2 ^ 32) in
      let t' = record t { frame = record t.frame { left = rest; given = put_var t.frame.given index a } } in
      let alike : Alike regs y.0 = λ n kept. y.2.other n (kept_apart n 7 kept refl) ∙ x.2.others n (kept_apart n 5 kept refl) in
      sim_goes g r (run_at y.0 m ws' t.input k) t t' 1 6 (then_goes g.live (whole g) g.at 0 1 3 3 _ _ _ x.1 y.1) (omega arith) (omega arith)
      (record {
        regs = y.0;
        ws = ws';
        j = j;
        facts = give_true t l rest regs y.0 ws j index a f lt (record { goes = refl; none = refl }) y.2.kept alike;
        is = refl;
      }))

  -- ---- outside

  -- an address and a length are in x11 and x12
  record Range (regs new : List ℕ) (frame places a n : ℕ) : Type 0 where
    kept : Regs new frame places
    eleven : get_or new 11 0 ≡ a
    twelve : get_or new 12 0 ≡ n
    alike : Alike regs new

  range_goes : (t : WordState) (lines : List WordInstr) (regs ws : List ℕ) (j : ℕ) (f : True g t lines regs ws j) (v w a n : ℕ) (rest : List LabelLine)
      →
      Quiet rest → Alive t.frame.proc.lines v lines → Alive t.frame.proc.lines w lines → t.frame.vars v ≡ Some a → t.frame.vars w ≡ Some n →
      (new : List ℕ)
      × Goes_in g.live (whole g) g.at 2 6 (run_at regs t.memory ws t.input (move_range (homes g t) v w rest)) (run_at new t.memory ws t.input rest)
      × Range regs new (frame_at g t j) (places_end t.frame) a n
  range_goes t lines regs ws j f v w a n rest quiet lives also e d =
      let second = move 12 (home_of (homes g t) w) in
      let x = var_moves g t lines regs ws j f regs 11 v a (does second rest) (quiet_does second rest quiet) (omega arith) (omega arith) lives e f.kept
      (alike_refl regs) in
      let alike : Alike regs x.0 = λ r kept. x.2.other r (kept_apart r 11 kept refl) in
      let y = var_moves g t lines regs ws j f x.0 12 w n rest quiet (omega arith) (omega arith) also d x.2.kept alike in (
        y.0,
        then_goes g.live (whole g) g.at 1 1 3 3 _ _ _ x.1 y.1,
        record {
          kept = y.2.kept;
          eleven = y.2.other 11 (λ e. omega (arith, e)) ∙ x.2.same;
          twelve = y.2.same;
          alike = λ r kept. y.2.other r (kept_apart r 12 kept refl) ∙ alike r kept;
        },
      )

  -- a small number is in a register
  small_goes : (m : Memory) (ws input regs : List ℕ) (rd n frame places : ℕ) (rest : List LabelLine) → Quiet rest → 4 < rd → rd < 32 → n < 2048 →
      Regs regs frame places → (new : List ℕ)
      × Goes_in g.live (whole g) g.at 1 1 (run_at regs m ws input (Do (Addi rd 0 n) ∷ rest)) (run_at new m ws input rest) × Gets regs new rd n frame places
  small_goes m ws input regs rd n frame places rest quiet gt lt small h =
      let v = added (get_or regs 0 0) (signed12 n) in
      let v_is : v ≡ n = ap (λ x. added x (signed12 n)) h.good.none ∙ ap (added 0) (signed12_small n small)
      ∙ (let e : (0 + n) % 2 ^ 32 ≡ n = omega (arith, small) in e) in (
        put regs rd v,
        writes g.live (whole g) g.at m ws input regs (Addi rd 0 n) rd v rest quiet refl,
        subst (λ x. Gets regs (put regs rd v) rd x frame places) v_is (put_gets regs rd v frame places gt lt h),
      )

  -- what a call is asked for
  record Asks (old regs : List ℕ) (frame places stream number a n : ℕ) : Type 0 where
    kept : Regs regs frame places
    ten : get_or regs 10 0 ≡ stream
    eleven : get_or regs 11 0 ≡ a
    twelve : get_or regs 12 0 ≡ n
    seventeen : get_or regs 17 0 ≡ number
    alike : Alike old regs

  ask_goes : (t : WordState) (lines : List WordInstr) (regs ws : List ℕ) (j : ℕ) (f : True g t lines regs ws j) (v w a n stream number : ℕ)
      (k : List LabelLine) →
      stream < 2048 → number < 2048 → Alive t.frame.proc.lines v lines → Alive t.frame.proc.lines w lines →
      t.frame.vars v ≡ Some a → t.frame.vars w ≡ Some n → (new : List ℕ)
      × Goes_in g.live (whole g) g.at 4 8
      (run_at regs t.memory ws t.input (move_range (homes g t) v w (Do (Addi 10 0 stream) ∷ Do (Addi 17 0 number) ∷ Do Ecall ∷ k)))
      (run_at new t.memory ws t.input (Do Ecall ∷ k)) × Asks regs new (frame_at g t j) (places_end t.frame) stream number a n
  ask_goes t lines regs ws j f v w a n stream number k few less lives also e d =
      let m = t.memory in
      let fr = frame_at g t j in
      let places = places_end t.frame in
      let x = range_goes t lines regs ws j f v w a n (Do (Addi 10 0 stream) ∷ Do (Addi 17 0 number) ∷ Do Ecall ∷ k) refl lives also e d in
      let y = small_goes m ws t.input x.0 10 stream fr places (Do (Addi 17 0 number) ∷ Do Ecall ∷ k) refl (omega arith) (omega arith) few x.2.kept in
      let z = small_goes m ws t.input y.0 17 number fr places (Do Ecall ∷ k) refl (omega arith) (omega arith) less y.2.kept in (
        z.0,
        then_goes g.live (whole g) g.at 3 1 7 1 _ _ _ (then_goes g.live (whole g) g.at 2 1 6 1 _ _ _ x.1 y.1) z.1,
        record {
          kept = z.2.kept;
          ten = z.2.other 10 (λ e. omega (arith, e)) ∙ y.2.same;
          eleven = z.2.other 11 (λ e. omega (arith, e)) ∙ y.2.other 11 (λ e. omega (arith, e)) ∙ x.2.eleven;
          twelve = z.2.other 12 (λ e. omega (arith, e)) ∙ y.2.other 12 (λ e. omega (arith, e)) ∙ x.2.twelve;
          seventeen = z.2.same;
          alike = λ r kept. z.2.other r (kept_apart r 17 kept refl) ∙ y.2.other r (kept_apart r 10 kept refl) ∙ x.2.alike r kept;
        },
      )

  wrote_sim : (fresh : List ℕ) (t : WordState) (r : LabelRun) (rest : List WordInstr) (o : Option (List ℕ)) (stream : Stream) →
      ((bytes : List ℕ) → o ≡ Some bytes → Sim g r t (Goes (write_events stream bytes) 1 (at_lines t rest))) →
      Sim_did g fresh r t rest (shows (scene_of t) stream o)
  wrote_sim fresh t r rest None stream h = tt
  wrote_sim fresh t r rest (Some bytes) stream h = h bytes refl

  pub write_sim : (stream : Stream) (address len : ℕ) → Line_sim g (word.Write stream address len)
  unfolding same_true
  write_sim stream address len t rest regs ws j f =
      let l = word.Write stream address len in
      let k = Behind g t l rest regs ws j f in
      let p = t.frame.proc in
      let m = t.memory in
      let r = Here g t l rest regs ws j f in
      let sits = sits_next g.lay g.procs p l rest f.sits in
      let lives : Alive p.lines address (l ∷ rest) = read_by (inl refl) in
      let also : Alive p.lines len (l ∷ rest) = read_by (inr refl) in
      using_sim g ws r t rest (t.frame.vars address) _ (λ a e.
      using_sim g ws r t rest (t.frame.vars len) _ (λ n d.
      wrote_sim ws t r rest (bytes_at m a n) stream (λ bytes h.
      let x = ask_goes t (l ∷ rest) regs ws j f address len a n (stream_number stream) 64 k (stream_small stream) (omega arith) lives also e d in
      let q = x.2 in
      let mid = run_at x.0 m ws t.input (Do Ecall ∷ k) in
      let s = state_of x.0 m ws in
      let read : readable s (get_or x.0 11 0) (get_or x.0 12 0) ≡ Some bytes =
      ap (λ i. readable s i (get_or x.0 12 0)) q.eleven ∙ ap (readable s a) q.twelve ∙ read_wider x.0 m ws a n bytes h in
      let last = put x.0 10 (get_or x.0 12 0) in
      let next = run_at last m ws t.input k in
      let shown = write_events stream bytes in
      let does_call : step g.live (whole g) g.at mid ≡ Goes shown 1 next =
      ap (replied g.live (whole g) g.at mid k) (write_is s t.input stream bytes q.seventeen (ap stream_of q.ten ∙ stream_is stream) read)
      ∙ ap (λ es. Goes (shown ++ es) 1 next) (quiet_behind g t rest sits) ∙ ap (λ es. Goes es 1 next) (append-nil shown) in
      let showing = steps_one (step g.live (whole g) g.at) mid next shown 1 1 does_call (omega arith) in
      let all = steps_on (step g.live (whole g) g.at) 4 1 8 1 r mid next [] shown x.1 showing in
      let z = put_gets x.0 10 (get_or x.0 12 0) (frame_at g t j) (places_end t.frame) (omega arith) (omega arith) q.kept in
      let alike : Alike regs last = λ r kept. z.other r (kept_apart r 10 kept refl) ∙ q.alike r kept in
      let facts = same_true g t (l ∷ rest) rest regs last ws j f sits z.kept alike
      (λ v alive. passes_alive g l p.lines rest v (record { goes = refl; none = refl }) alive) (λ more. refl) in (
        next,
        5,
        record { work = all.work; within = omega (arith, all.within); by = all.by },
        record { regs = last; ws = ws; j = j; facts = facts; is = refl },
        inl (omega arith),
      ))))

  -- of a state with as many lines left
  as_many : (r : LabelRun) (t t' u : WordState) → length t'.frame.left ≡ length t.frame.left → Sim g r t' (on u) → Sim g r t (on u)
  as_many r t t' u same (s, least, steps, rel, inl some) = (s, least, steps, rel, inl some)
  as_many r t t' u same (s, least, steps, rel, inr less) = (s, least, steps, rel, inr (subst (λ n. length u.frame.left < n) same less))

  pub read_sim : (to address len : ℕ) (t : WordState) (rest : List WordInstr) (regs ws : List ℕ) (j : ℕ)
      (f : True g t (word.Read to address len ∷ rest) regs ws j) → t.frame.left ≡ word.Read to address len ∷ rest
      → Sim g (Here g t (word.Read to address len) rest regs ws j f) t
      (settled g.live g.procs ws t rest (word_does (scene_of t) (word.Read to address len)))
  unfolding memory_true
  read_sim to address len t rest regs ws j f lines =
      let l = word.Read to address len in
      let p = t.frame.proc in
      let m = t.memory in
      let named = and_parts (nat_lt to p.vars) (nat_lt address p.vars && nat_lt len p.vars) (named_of g t l rest f.sits) in
      let r = Here g t l rest regs ws j f in
      let k = does (give 10 (home_of (homes g t) to)) (Behind g t l rest regs ws j f) in
      let lives : Alive p.lines address (l ∷ rest) = read_by (inl refl) in
      let also : Alive p.lines len (l ∷ rest) = read_by (inr refl) in
      using_sim g ws r t rest (t.frame.vars address) _ (λ a e.
      using_sim g ws r t rest (t.frame.vars len) _ (λ n d.
      if_sim g ws r t rest (may_fill m a n) _ _ (λ h.
      let x = ask_goes t (l ∷ rest) regs ws j f address len a n 0 63 k (omega arith) (omega arith) lives also e d in
      let q = x.2 in
      let count = min n (length t.input) in
      let bytes = as_bytes (take count t.input) in
      let left = drop count t.input in
      let long : length bytes ≡ count = as_many_read (take count t.input) ∙ length-take-le count t.input (omega arith) in
      let may : writable (as_state m) a (length bytes) ≡ true = may_less (as_state m) a n (length bytes) (omega (arith, long)) h in
      let m' = memory_of (filled (as_state m) a bytes) in
      let mid = run_at x.0 m ws t.input (Do Ecall ∷ k) in
      let s = state_of x.0 m ws in
      let last = put x.0 10 count in
      let next = run_at last m' ws left k in
      let to_next : State → Next Event LabelRun = λ u. replied g.live (whole g) g.at mid k (Answers (answered u count) left []) in
      let does_call : step g.live (whole g) g.at mid ≡ Goes [] 1 next =
      ap (replied g.live (whole g) g.at mid k)
      (read_is s t.input a n q.seventeen q.ten q.eleven q.twelve (may_wider x.0 m ws a n h))
      ∙ ap to_next (fill_wider x.0 m ws a bytes may)
      ∙ ap (λ es. Goes es 1 next) (give_quiet g t l rest regs ws j f 10 to) in
      let reading = steps_one (step g.live (whole g) g.at) mid next [] 1 1 does_call (omega arith) in
      let z = put_gets x.0 10 count (frame_at g t j) (places_end t.frame) (omega arith) (omega arith) q.kept in
      let t' = record (at_lines t (l ∷ rest)) { memory = m'; input = left } in
      let alike : Alike regs last = λ r kept. z.other r (kept_apart r 10 kept refl) ∙ q.alike r kept in
      let f' = memory_true t (l ∷ rest) (l ∷ rest) regs last ws j f a bytes left may f.sits z.kept alike (λ v alive. alive) (λ more. more) in
      as_many r t t' (setting t' rest to count) (sym (ap length lines))
      (sets_from g t' l rest last ws j f' r 5 9 to count last (record { goes = refl; is = refl }) (ltb-true to p.vars named.0) (omega arith)
      (λ r kept ne. refl) f'.kept 10 (omega arith) (λ e. omega (arith, e))
      (then_goes g.live (whole g) g.at 4 1 8 1 r mid next x.1 reading) z.same))
      (λ h. tt)))

  -- steps, and then the end
  stops_on : (k n q status : ℕ) (live : Live) (r s : LabelRun) → Goes_in g.live (whole g) g.at k n r s →
      Stops (step g.live (whole g) g.at) s [] q status live → n + q ≤ 16 → Stops (step g.live (whole g) g.at) r [] 16 status live
  stops_on k n q status live r s x y le = record {
    work = x.work + y.work;
    within = omega (arith, x.within, y.within, le);
    by = let v = y.by in let u = x.by v.0 in (
      u.0,
      λ out done.
          u.2 out done ∙ v.1 (out ++ []) (done + x.work)
          ∙ ap (λ o. seen (o ++ []) (Ended status live) (done + x.work + y.work)) (append-nil out)
          ∙ ap (λ i. seen (out ++ []) (Ended status live) i) (add_assoc done x.work y.work),
    );
  }

  pub exit_sim : (status : ℕ) → Line_sim g (word.Exit status)
  exit_sim status t rest regs ws j f =
      let l = word.Exit status in
      let k = Behind g t l rest regs ws j f in
      let m = t.memory in
      let r = Here g t l rest regs ws j f in
      let fr = frame_at g t j in
      let lives : Alive t.frame.proc.lines status (l ∷ rest) = read_by (inl refl) in
      using_sim g ws r t rest (t.frame.vars status) _ (λ a e.
      let x = var_moves g t (l ∷ rest) regs ws j f regs 10 status a (Do (Addi 17 0 93) ∷ Do Ecall ∷ k) refl (omega arith) (omega arith) lives e f.kept
      (alike_refl regs) in
      let y = small_goes m ws t.input x.0 17 93 fr (places_end t.frame) (Do Ecall ∷ k) refl (omega arith) (omega arith) (omega arith) x.2.kept in
      let mid = run_at y.0 m ws t.input (Do Ecall ∷ k) in
      let s = state_of y.0 m ws in
      let ten : get_or y.0 10 0 ≡ a = y.2.other 10 (λ e. omega (arith, e)) ∙ x.2.same in
      let live = g.live (as_state m) in
      let ends : step g.live (whole g) g.at mid ≡ Ends [] 1 (a % 256) live =
      ap (replied g.live (whole g) g.at mid k) (exit_is s t.input (a % 256) y.2.same (ap (λ i. i % 256) ten))
      ∙ ap (Ends [] 1 (a % 256)) (g.alone s (as_state m) refl refl) in
      let stop = stops_one (step g.live (whole g) g.at) mid [] 1 1 (a % 256) live ends (omega arith) in
      stops_on 2 4 1 (a % 256) live r mid (then_goes g.live (whole g) g.at 1 1 3 1 r _ mid x.1 y.1) stop (omega arith))

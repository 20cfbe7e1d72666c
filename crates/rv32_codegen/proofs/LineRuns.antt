-- What a line of word code does that sets a variable or jumps, its label code does.
use Rattle.std.proofs.Common.{◌≡◌, ◌≢◌, ℕ, suc, ◌+◌, ◌-◌, ◌%◌, ◌^◌, ◌<◌, ◌≤◌, inl, inr, List, []}
use Rattle.std.proofs.Common.{◌∷◌, length, get_or, Bool, true, false}
use Rattle.std.proofs.Common.{Option, Some, None, refl, sym, ap, subst, ◌∙◌, arith}
use Rattle.std.specs.Prelude.{◌&&◌, nat_lt, if◌then◌else◌}
use Rattle.std.proofs.lemmas.Bool.{and_parts, and_right, ltb-true}
use Rattle.arc_base.proofs.ForCallers.{steps_one, steps_none}
use Rattle.rv32_isa.specs.declared.label.LabelLine.{LabelLine}
use Rattle.rv32_isa.specs.declared.label.LabelLine.TheVariants.{Do}
use Rattle.rv32_isa.specs.Values.{added}
use Rattle.rv32_isa.specs.Steps.{written}
use Rattle.rv32_isa.specs.LabelsMeaning.{LabelRun, did, led, step}
use Rattle.rv32_logic.specs.Registers.{put}
use Rattle.word_code.specs.declared.word.TheConstants.{MOST_ARGUMENTS}
use Rattle.word_code.specs.declared.word.WordOperation.{WordOperation}
use Rattle.word_code.specs.declared.word.WordOperation.TheVariants as operation
use Rattle.word_code.specs.declared.word.WordInstr.{WordInstr}
use Rattle.word_code.specs.declared.word.WordInstr.TheVariants as word
use Rattle.word_code.specs.Memory.{Memory}
use Rattle.word_code.specs.declared.word.Test.{Test}
use Rattle.word_code.specs.Words.{put as put_var, holds, WordState, computed, WordDid, scene_of, onward, using, on, settled, spent}
use Rattle.word_code.specs.Words.{does as word_does}
use Rattle.word_code.specs.Words.{are_named}
use Rattle.reg_scan.specs.declared.homes.Home.{Home}
use Rattle.reg_scan.specs.declared.homes.Homes.{Homes}
use Rattle.reg_scan.specs.Alive.{effect_of, IsOne, Alive, read_by, kept_by}
use Rattle.reg_scan.specs.Homes.{home_of}
use Rattle.rv32_codegen.specs.Code.{does, operate, datum_at, seat, bring, move, settle, give, is_call_or_label, only_calls, target, left_of, right_of}
use Rattle.rv32_codegen.specs.Code.{negative, sum, bring_both, keep, place_at}
use Rattle.rv32_codegen.proofs.StackWords.{words}
use Rattle.rv32_codegen.proofs.Machine.{state_of, run_at, fits_words, word_place, Regs, Quiet, quiet_does, Goes_in, then_goes, goes_within}
use Rattle.rv32_codegen.proofs.Machine.{writes}
use Rattle.rv32_codegen.proofs.PieceRuns.{Gets, put_gets, Leads, constant_any, datum_any, sum_any}
use Rattle.rv32_codegen.proofs.Frees.{kept_apart}
use Rattle.rv32_codegen.proofs.Computed.{computed_small}
use Rattle.rv32_codegen.proofs.HomeRuns.{seat_above, seat_small, seats_apart, seats_before, Brought, Settled, home_moves, home_brings, Lands}
use Rattle.rv32_codegen.proofs.HomeRuns.{home_gives, home_settles, alike_refl, word_but}
use Rattle.rv32_codegen.proofs.Chunks.{quiet_lines}
use Rattle.rv32_codegen.proofs.Lookups.{behind}
use Rattle.rv32_codegen.proofs.Frames.{size, IsLaid, saved, Alike, Alike_but, length-saved, saved_outside, word_alike, Sits, code_here, sits_next}
use Rattle.rv32_codegen.proofs.Frames.{places_end, sits_named, linked_inside, linked_kept, held_alike, put_held, Setting, whole, True, Rel, Sim}

-- with other lines left
abbrev pub at_lines : WordState → List WordInstr → WordState
at_lines t lines = onward t lines (scene_of t)

-- with a variable that has a number's low 32 bits
abbrev pub setting : WordState → List WordInstr → (to number : ℕ) → WordState
setting t rest to number = record t { frame = record t.frame { left = rest; vars = put_var t.frame.vars to number } }

module _ (g : Setting) where
  abbrev pub homes : WordState → Homes
  homes t = g.lay t.frame.proc.number

  -- where the frame begins
  abbrev pub frame_at : WordState → ℕ → ℕ
  frame_at t j = word_place t.memory j

  -- ---- putting together

  pub sim_goes : (r s : LabelRun) (t t' : WordState) (least n : ℕ) → Goes_in g.live (whole g) g.at least n r s → 0 < least → n ≤ 16 →
      Rel g s t' → Sim g r t (on t')
  sim_goes r s t t' least n h pos le rel = (s, least, goes_within g.live (whole g) g.at least least n 16 r s (omega arith) le h, rel, inl pos)

  -- what comes of what a line did, where the places of a call would bring these bytes with them
  abbrev pub Sim_did : (bytes : List ℕ) → LabelRun → WordState → List WordInstr → WordDid → Type 0
  Sim_did bytes r t rest d = Sim g r t (settled g.live g.procs bytes t rest d)

  pub using_sim : (bytes : List ℕ) (r : LabelRun) (t : WordState) (rest : List WordInstr) (o : Option ℕ) (go : ℕ → WordDid) →
      ((a : ℕ) → o ≡ Some a → Sim_did bytes r t rest (go a)) →
      Sim_did bytes r t rest (using o go)
  using_sim bytes r t rest None go h = tt
  using_sim bytes r t rest (Some a) go h = h a refl

  pub if_sim : (bytes : List ℕ) (r : LabelRun) (t : WordState) (rest : List WordInstr) (b : Bool) (x y : WordDid) →
      (b ≡ true → Sim_did bytes r t rest x) →
      (b ≡ false → Sim_did bytes r t rest y) → Sim_did bytes r t rest (if b then x else y)
  if_sim bytes r t rest true x y h k = h refl
  if_sim bytes r t rest false x y h k = k refl

  -- ---- the running call

  pub laid_of : (t : WordState) (lines : List WordInstr) → Sits g.lay g.procs t.frame.proc lines → IsLaid (homes t) t.frame.proc
  laid_of t lines s = g.laid t.frame.proc.number t.frame.proc s.tail s.found

  module _ (t : WordState) (lines : List WordInstr) (regs ws : List ℕ) (j : ℕ) (f : True g t lines regs ws j) where
    pub inside_of : j + size (homes t) ≤ words ws
    inside_of = linked_inside g.lay g.procs g.need g.total (whole g) g.at ws j t.frame.proc t.frame.base 0 t.callers f.linked

    -- there are words for all arguments below the frame
    pub arguments_fit : MOST_ARGUMENTS ≤ j
    arguments_fit = omega (arith, f.deep)

    -- a variable's word into a register
    pub var_moves : (old : List ℕ) (rd v a : ℕ) (rest : List LabelLine) → Quiet rest → 4 < rd → rd < 32 → Alive t.frame.proc.lines v lines →
        t.frame.vars v ≡ Some a → Regs old (frame_at t j) (places_end t.frame) → Alike regs old →
        Leads g.live (whole g) g.at t.memory ws t.input 1 3 old (move rd (home_of (homes t) v)) rest
        (λ new. Gets old new rd a (frame_at t j) (places_end t.frame))
    var_moves old rd v a rest quiet gt lt lives e kept same =
        let laid = laid_of t lines f.sits in
        let x = f.held v a lives e in
        let home = home_of (homes t) v in
        let there = laid.there v x.0 in
        home_moves g.live (whole g) g.at t.memory ws t.input j (size (homes t)) (places_end t.frame) rest quiet f.fits inside_of old rd a home there gt lt
        (word_alike regs old ws j (size (homes t)) home there same ∙ x.1.0) x.1.1 kept

    -- into the register in which it is used
    pub var_brought : (old : List ℕ) (other v a : ℕ) (rest : List LabelLine) → Quiet rest → 4 < other → other < 32 →
        Alive t.frame.proc.lines v lines → t.frame.vars v ≡ Some a → Regs old (frame_at t j) (places_end t.frame) → Alike regs old →
        Leads g.live (whole g) g.at t.memory ws t.input 0 3 old (bring other (home_of (homes t) v)) rest
        (λ new. Brought old new other (home_of (homes t) v) a (frame_at t j) (places_end t.frame))
    var_brought old other v a rest quiet gt lt lives e kept same =
        let laid = laid_of t lines f.sits in
        let x = f.held v a lives e in
        let home = home_of (homes t) v in
        let there = laid.there v x.0 in
        home_brings g.live (whole g) g.at t.memory ws t.input j (size (homes t)) (places_end t.frame) rest quiet f.fits inside_of old other a home there gt lt
        (word_alike regs old ws j (size (homes t)) home there same ∙ x.1.0) x.1.1 kept

    -- registers with two variables' words
    pub record Both (new : List ℕ) (v w a b : ℕ) : Type 0 where
      pub kept : Regs new (frame_at t j) (places_end t.frame)
      pub first : get_or new (left_of (homes t) v) 0 ≡ a
      pub second : get_or new (right_of (homes t) w) 0 ≡ b
      pub alike : Alike regs new

    -- two variables' words where they are used
    pub both_go : (v w a b : ℕ) (rest : List LabelLine) → Quiet rest → Alive t.frame.proc.lines v lines → Alive t.frame.proc.lines w lines →
        t.frame.vars v ≡ Some a → t.frame.vars w ≡ Some b →
        (new : List ℕ)
        × Goes_in g.live (whole g) g.at 0 6 (run_at regs t.memory ws t.input (bring_both (homes t) v w rest)) (run_at new t.memory ws t.input rest)
        × Both new v w a b
    both_go v w a b rest quiet lives also e k =
        let second = bring 6 (home_of (homes t) w) in
        let laid = laid_of t lines f.sits in
        let n = size (homes t) in
        let there = laid.there v (f.held v a lives e).0 in
        let x = var_brought regs 5 v a (does second rest) (quiet_does second rest quiet) (omega arith) (omega arith) lives e f.kept (alike_refl regs) in
        let alike : Alike regs x.0 = λ r kept. x.2.others r (kept_apart r 5 kept refl) in
        let y = var_brought x.0 6 w b rest quiet (omega arith) (omega arith) also k x.2.kept alike in (
          y.0,
          then_goes g.live (whole g) g.at 0 0 3 3 _ _ _ x.1 y.1,
          record {
            kept = y.2.kept;
            first = y.2.others (left_of (homes t) v) (seats_apart n (home_of (homes t) v) there) ∙ x.2.same;
            second = y.2.same;
            alike = λ r kept. y.2.others r (kept_apart r 6 kept refl) ∙ alike r kept;
          },
        )

    -- a variable's word is one of 32 bits
    pub small_of : (v a : ℕ) → Alive t.frame.proc.lines v lines → t.frame.vars v ≡ Some a → a < 2 ^ 32
    small_of v a lives e = (f.held v a lives e).1.1

  -- the code behind a line
  abbrev pub Behind : (t : WordState) (l : WordInstr) (rest : List WordInstr) (regs ws : List ℕ) (j : ℕ) → True g t (l ∷ rest) regs ws j →
      List LabelLine
  Behind t l rest regs ws j f = code_here g.lay g.procs t.frame.proc rest (sits_next g.lay g.procs t.frame.proc l rest f.sits)

  pub quiet_behind : (t : WordState) (lines : List WordInstr) (s : Sits g.lay g.procs t.frame.proc lines) →
      Quiet (code_here g.lay g.procs t.frame.proc lines s)
  quiet_behind t lines s = quiet_lines (homes t) t.frame.proc lines (behind g.lay s.tail) refl

  abbrev pub Here : (t : WordState) (l : WordInstr) (rest : List WordInstr) (regs ws : List ℕ) (j : ℕ) → True g t (l ∷ rest) regs ws j → LabelRun
  Here t l rest regs ws j f = run_at regs t.memory ws t.input (code_here g.lay g.procs t.frame.proc (l ∷ rest) f.sits)

  -- a line is done; a call's places take what stands behind those that are there
  abbrev pub Line_sim : WordInstr → Type 0
  Line_sim l = (t : WordState) (rest : List WordInstr) (regs ws : List ℕ) (j : ℕ) (f : True g t (l ∷ rest) regs ws j) →
      Sim g (Here t l rest regs ws j f) t (settled g.live g.procs ws t rest (word_does (scene_of t) l))

  pub named_of : (t : WordState) (l : WordInstr) (rest : List WordInstr) → Sits g.lay g.procs t.frame.proc (l ∷ rest) →
      are_named t.frame.proc.vars l ≡ true
  named_of t l rest s = sits_named g.lay g.procs t.frame.proc l rest (laid_of t (l ∷ rest) s) s

  -- ---- a line that sets a variable

  -- the register that a variable is computed into
  pub target_above : (t : WordState) (lines : List WordInstr) (to : ℕ) → Sits g.lay g.procs t.frame.proc lines → to < t.frame.proc.vars →
      4 < target (homes t) to
  target_above t lines to s lt = seat_above (size (homes t)) 5 (home_of (homes t) to) ((laid_of t lines s).there to lt) (omega arith)

  pub target_small : (t : WordState) (lines : List WordInstr) (to : ℕ) → Sits g.lay g.procs t.frame.proc lines → to < t.frame.proc.vars →
      target (homes t) to < 32
  target_small t lines to s lt = seat_small (size (homes t)) 5 (home_of (homes t) to) ((laid_of t lines s).there to lt) (omega arith)

  -- a line from which control goes on to the next one, and which sets a variable
  pub record Setting_line (l : WordInstr) (to : ℕ) : Type 0 where
    pub goes : (effect_of l).goes_on ≡ true
    pub is : (effect_of l).to ≡ Some to

  set_true : (t : WordState) (l : WordInstr) (rest : List WordInstr) (regs new ws : List ℕ) (j to n : ℕ) (f : True g t (l ∷ rest) regs ws j) →
      Setting_line l to → to < t.frame.proc.vars → Settled regs new (home_of (homes t) to) (n % 2 ^ 32) (frame_at t j) (places_end t.frame) →
      True g (setting t rest to n) rest new (saved ws j (home_of (homes t) to) (n % 2 ^ 32)) j
  set_true t l rest regs new ws j to n f line lt x =
      let p = t.frame.proc in
      let h = homes t in
      let home = home_of h to in
      let value = n % 2 ^ 32 in
      let ws' = saved ws j home value in
      let laid = laid_of t (l ∷ rest) f.sits in
      let there = laid.there to lt in
      let inside = inside_of t (l ∷ rest) regs ws j f in
      let above = target_above t (l ∷ rest) to f.sits lt in
      let long : length ws' ≡ length ws = length-saved ws j (size h) inside home value there in
      let apart : (v : ℕ) → Alive p.lines v rest → v ≢ to → v < p.vars → home_of h v ≢ home =
      λ v lives ne less. laid.homes.apart f.sits.before rest l v to f.sits.split line.is lives ne less lt in
      record {
        fits = fits_words t.memory ws ws' long f.fits;
        kept = x.kept;
        sits = sits_next g.lay g.procs p l rest f.sits;
        held = put_held g.lay g.procs new ws j p rest t.frame.vars to n laid lt inside
            (λ v w lives ne e.
            let y = f.held v w (kept_by line.goes (λ s. ne (subst (λ o. IsOne o v) line.is s)) lives) e in (
              y.0,
              (
                word_but regs new ws j (size h) home (home_of h v) (laid.there v y.0) (apart v lives ne y.0) x.alike ∙ y.1.0,
                y.1.1,
              ),
            )) apart x.has;
        given = λ i w e. let y = f.given i w e in
            (y.0, saved_outside ws j (size h) inside (j - suc i) home value there (inl (omega arith)) ∙ y.1, y.2);
        linked = linked_kept g.lay g.procs g.need g.total (whole g) g.at ws ws' j p t.frame.base 0 t.callers long
            (λ k o. saved_outside ws j (size h) inside k home value there (elim o [ inl e ↦ inl (omega (arith, e)) | inr le ↦ inr le ])) f.linked;
        leaf = λ leaf more. x.alike 1 refl (λ e. omega (arith, e, above)) ∙ f.leaf leaf (and_right (is_call_or_label l) (only_calls rest) more)
            ∙ sym (saved_outside ws j (size h) inside j home value there (inl (omega arith)));
        deep = f.deep;
        roomy = f.roomy;
        units = f.units;
      }

  -- registers that lines keep, but the one that is computed into, are as they were, and others still
  then_settled : (regs mid new : List ℕ) (home : Home) (value frame places : ℕ) → Alike_but (seat 5 home) regs mid →
      Settled mid new home value frame places → Settled regs new home value frame places
  then_settled regs mid new home value frame places same x =
      record { kept = x.kept; has = x.has; alike = λ r kept ne. x.alike r kept ne ∙ same r kept ne }

  -- where code comes to what puts a word to its home, and then to what follows
  module _ (t : WordState) (l : WordInstr) (rest : List WordInstr) (regs ws : List ℕ) (j : ℕ) (f : True g t (l ∷ rest) regs ws j) (r : LabelRun)
      (least count to n : ℕ) (mid : List ℕ) (line : Setting_line l to) (lt : to < t.frame.proc.vars) (few : count + 3 ≤ 16)
      (same : Alike_but (target (homes t) to) regs mid) (kept : Regs mid (frame_at t j) (places_end t.frame)) where
    abbrev ends_at : List LabelLine
    ends_at = Behind t l rest regs ws j f

    abbrev its_home : Home
    its_home = home_of (homes t) to

    sets_by : (more : ℕ) (code : List LabelLine) → 0 < least + more →
        Goes_in g.live (whole g) g.at least count r (run_at mid t.memory ws t.input code) →
        Lands g.live (whole g) g.at t.memory ws t.input j (size (homes t)) (places_end t.frame) ends_at
        (quiet_behind t rest (sits_next g.lay g.procs t.frame.proc l rest f.sits))
        f.fits (inside_of t (l ∷ rest) regs ws j f) more 3 mid code its_home (n % 2 ^ 32) → Sim g r t (on (setting t rest to n))
    unfolding set_true
    sets_by more code pos ran x =
        let y = set_true t l rest regs x.0 ws j to n f line lt
        (then_settled regs mid x.0 its_home (n % 2 ^ 32) (frame_at t j) (places_end t.frame) same x.2) in
        let ws' = saved ws j its_home (n % 2 ^ 32) in
        sim_goes r (run_at x.0 t.memory ws' t.input ends_at) t (setting t rest to n) (least + more) (count + 3)
        (then_goes g.live (whole g) g.at least more count 3 r (run_at mid t.memory ws t.input code)
        (run_at x.0 t.memory ws' t.input ends_at) ran x.1) pos few (record { regs = x.0; ws = ws'; j = j; facts = y; is = refl })

    -- from the register that it is computed into
    pub sets : 0 < least →
        Goes_in g.live (whole g) g.at least count r (run_at mid t.memory ws t.input (keep (homes t) to ends_at)) →
        get_or mid (target (homes t) to) 0 ≡ n % 2 ^ 32 → Sim g r t (on (setting t rest to n))
    sets pos ran is =
        sets_by 0 (keep (homes t) to ends_at) (omega (arith, pos)) ran
        (home_settles g.live (whole g) g.at t.memory ws t.input j (size (homes t)) (places_end t.frame) ends_at
        (quiet_behind t rest (sits_next g.lay g.procs t.frame.proc l rest f.sits)) f.fits (inside_of t (l ∷ rest) regs ws j f) mid (n % 2 ^ 32) its_home
        ((laid_of t (l ∷ rest) f.sits).there to lt) is (omega arith) kept)

    -- from another register
    pub sets_from : (rs : ℕ) → rs < 32 → rs ≢ 7 →
        Goes_in g.live (whole g) g.at least count r (run_at mid t.memory ws t.input (does (give rs its_home) ends_at)) →
        get_or mid rs 0 ≡ n → Sim g r t (on (setting t rest to n))
    sets_from rs less ne ran is =
        sets_by 1 (does (give rs its_home) ends_at) (omega arith) ran
        (home_gives g.live (whole g) g.at t.memory ws t.input j (size (homes t)) (places_end t.frame) ends_at
        (quiet_behind t rest (sits_next g.lay g.procs t.frame.proc l rest f.sits)) f.fits (inside_of t (l ∷ rest) regs ws j f) mid rs n its_home
        ((laid_of t (l ∷ rest) f.sits).there to lt) less ne is kept)

  -- ---- lines

  -- where only lines and registers changed
  unfoldable pub same_true : (t : WordState) (lines more : List WordInstr) (regs new ws : List ℕ) (j : ℕ) (f : True g t lines regs ws j) →
      Sits g.lay g.procs t.frame.proc more → Regs new (frame_at t j) (places_end t.frame) → Alike regs new →
      ((v : ℕ) → Alive t.frame.proc.lines v more → Alive t.frame.proc.lines v lines) → (only_calls more ≡ false → only_calls lines ≡ false) →
      True g (at_lines t more) more new ws j
  same_true t lines more regs new ws j f sits kept same stays returns = record {
    fits = f.fits;
    kept = kept;
    sits = sits;
    held = held_alike g.lay g.procs regs new ws j t.frame.proc lines more t.frame.vars (laid_of t lines f.sits) same stays f.held;
    given = f.given;
    linked = f.linked;
    leaf = λ leaf some. same 1 refl ∙ f.leaf leaf (returns some);
    deep = f.deep;
    roomy = f.roomy;
    units = f.units;
  }

  -- a line from which control goes on to the next one, and which sets nothing
  pub record Passing_line (l : WordInstr) : Type 0 where
    pub goes : (effect_of l).goes_on ≡ true
    pub none : (effect_of l).to ≡ None

  pub passes_alive : (l : WordInstr) (all rest : List WordInstr) (v : ℕ) → Passing_line l → Alive all v rest → Alive all v (l ∷ rest)
  passes_alive l all rest v line lives = kept_by line.goes (λ s. subst (λ o. IsOne o v) line.none s) lives

  pub label_sim : (name : ℕ) → Line_sim (word.Label name)
  unfolding same_true
  label_sim name t rest regs ws j f =
      let l = word.Label name in
      let k = Behind t l rest regs ws j f in
      sim_goes (Here t l rest regs ws j f) (run_at regs t.memory ws t.input k) t (at_lines t rest) 1 1
      (steps_one (step g.live (whole g) g.at) _ _ [] 0 1 refl (omega arith)) (omega arith) (omega arith)
      (record {
        regs = regs;
        ws = ws;
        j = j;
        facts = same_true t (l ∷ rest) rest regs regs ws j f (sits_next g.lay g.procs t.frame.proc l rest f.sits) f.kept (alike_refl regs)
            (λ v lives. passes_alive l t.frame.proc.lines rest v (record { goes = refl; none = refl }) lives) (λ more. more);
        is = refl;
      })

  -- no instruction stands for a unit that is spent
  pub spend_sim : (t : WordState) (rest : List WordInstr) (regs ws : List ℕ) (j : ℕ) (f : True g t (word.Spend ∷ rest) regs ws j)
      → t.frame.left ≡ word.Spend ∷ rest
      → Sim g (Here t word.Spend rest regs ws j f) t (settled g.live g.procs ws t rest (word_does (scene_of t) word.Spend))
  unfolding same_true
  spend_sim t rest regs ws j f e =
      let k = Behind t word.Spend rest regs ws j f in
      let long : length t.frame.left ≡ suc (length rest) = ap length e in
      let less : length rest < length t.frame.left = omega (arith, long) in
      subst (λ o. Sim g (Here t word.Spend rest regs ws j f) t (spent o (at_lines t rest) t)) (sym f.units) (
        run_at regs t.memory ws t.input k,
        0,
        steps_none (step g.live (whole g) g.at) (run_at regs t.memory ws t.input k) 16,
        record {
          regs = regs;
          ws = ws;
          j = j;
          facts = same_true t (word.Spend ∷ rest) rest regs regs ws j f (sits_next g.lay g.procs t.frame.proc word.Spend rest f.sits) f.kept (alike_refl regs)
              (λ v lives. passes_alive word.Spend t.frame.proc.lines rest v (record { goes = refl; none = refl }) lives) (λ more. refl);
          is = refl;
        },
        inr less,
      )

  -- nor for one that may be
  pub spend_if_sim : (test : Test) (left right : ℕ) (t : WordState) (rest : List WordInstr) (regs ws : List ℕ) (j : ℕ)
      (f : True g t (word.SpendIf test left right ∷ rest) regs ws j) → t.frame.left ≡ word.SpendIf test left right ∷ rest
      → Sim g (Here t (word.SpendIf test left right) rest regs ws j f) t
      (settled g.live g.procs ws t rest (word_does (scene_of t) (word.SpendIf test left right)))
  unfolding same_true
  spend_if_sim test left right t rest regs ws j f e =
      let l = word.SpendIf test left right in
      let k = Behind t l rest regs ws j f in
      let r = Here t l rest regs ws j f in
      let long : length t.frame.left ≡ suc (length rest) = ap length e in
      let less : length rest < length t.frame.left = omega (arith, long) in
      let stays : Sim g r t (on (at_lines t rest)) = (
        run_at regs t.memory ws t.input k,
        0,
        steps_none (step g.live (whole g) g.at) (run_at regs t.memory ws t.input k) 16,
        record {
          regs = regs;
          ws = ws;
          j = j;
          facts = same_true t (l ∷ rest) rest regs regs ws j f (sits_next g.lay g.procs t.frame.proc l rest f.sits) f.kept (alike_refl regs)
              (λ v lives. passes_alive l t.frame.proc.lines rest v (record { goes = refl; none = refl }) lives) (λ more. refl);
          is = refl;
        },
        inr less,
      ) in
      using_sim ws r t rest (t.frame.vars left) _ (λ a here.
      using_sim ws r t rest (t.frame.vars right) _ (λ b there.
      if_sim ws r t rest (holds test a b) _ _
      (λ h. subst (λ o. Sim g r t (spent o (at_lines t rest) t)) (sym f.units) stays) (λ h. stays)))

  -- behind the front of a line, what puts a word to its home and what follows
  pub keep_quiet : (t : WordState) (l : WordInstr) (rest : List WordInstr) (regs ws : List ℕ) (j : ℕ) (f : True g t (l ∷ rest) regs ws j) (to : ℕ) →
      Quiet (keep (homes t) to (Behind t l rest regs ws j f))
  keep_quiet t l rest regs ws j f to =
      quiet_does (settle (home_of (homes t) to)) _ (quiet_behind t rest (sits_next g.lay g.procs t.frame.proc l rest f.sits))

  pub give_quiet : (t : WordState) (l : WordInstr) (rest : List WordInstr) (regs ws : List ℕ) (j : ℕ) (f : True g t (l ∷ rest) regs ws j) (rs to : ℕ)
      → Quiet (does (give rs (home_of (homes t) to)) (Behind t l rest regs ws j f))
  give_quiet t l rest regs ws j f rs to =
      quiet_does (give rs (home_of (homes t) to)) _ (quiet_behind t rest (sits_next g.lay g.procs t.frame.proc l rest f.sits))

  -- a word into the register that a variable is computed into
  gets_but : (regs new : List ℕ) (rd value frame places : ℕ) → Gets regs new rd value frame places → Alike_but rd regs new
  gets_but regs new rd value frame places x r kept ne = x.other r ne

  pub constant_sim : (to value : ℕ) → Line_sim (word.Constant to value)
  constant_sim to value t rest regs ws j f =
      let l = word.Constant to value in
      let rd = target (homes t) to in
      let lt = ltb-true to t.frame.proc.vars (named_of t l rest f.sits) in
      let last = keep (homes t) to (Behind t l rest regs ws j f) in
      let x = constant_any g.live (whole g) g.at t.memory ws t.input regs rd value (frame_at t j) (places_end t.frame) last (keep_quiet t l rest regs ws j f to)
      (target_above t (l ∷ rest) to f.sits lt) (target_small t (l ∷ rest) to f.sits lt) f.kept in
      sets t l rest regs ws j f (Here t l rest regs ws j f) 1 2 to value x.0 (record { goes = refl; is = refl }) lt (omega arith)
      (gets_but regs x.0 rd (value % 2 ^ 32) (frame_at t j) (places_end t.frame) x.2) x.2.kept (omega arith) x.1 x.2.same

  pub datum_sim : (to a : ℕ) → Line_sim (word.Datum to a)
  datum_sim to a t rest regs ws j f =
      let l = word.Datum to a in
      let rd = target (homes t) to in
      let lt = ltb-true to t.frame.proc.vars (named_of t l rest f.sits) in
      let last = keep (homes t) to (Behind t l rest regs ws j f) in
      let value = datum_at t.frame.proc a in
      let n = (scene_of t).data_at + a in
      let x = datum_any g.live (whole g) g.at t.memory ws t.input regs rd value (frame_at t j) (places_end t.frame) last (keep_quiet t l rest regs ws j f to)
      (target_above t (l ∷ rest) to f.sits lt) (target_small t (l ∷ rest) to f.sits lt) (omega arith) f.kept in
      let same : value ≡ n % 2 ^ 32 = omega arith in
      sets t l rest regs ws j f (Here t l rest regs ws j f) 1 2 to n x.0 (record { goes = refl; is = refl }) lt (omega arith)
      (gets_but regs x.0 rd value (frame_at t j) (places_end t.frame) x.2) x.2.kept (omega arith) x.1 (x.2.same ∙ same)

  pub copy_sim : (to from : ℕ) → Line_sim (word.Copy to from)
  copy_sim to from t rest regs ws j f =
      let l = word.Copy to from in
      let vars = t.frame.proc.vars in
      let named = and_parts (nat_lt to vars) (nat_lt from vars) (named_of t l rest f.sits) in
      let lt = ltb-true to vars named.0 in
      let rd = target (homes t) to in
      let r = Here t l rest regs ws j f in
      using_sim ws r t rest (t.frame.vars from) _ (λ a e.
      let lives : Alive t.frame.proc.lines from (l ∷ rest) = read_by (inl refl) in
      let x = var_moves t (l ∷ rest) regs ws j f regs rd from a _ (keep_quiet t l rest regs ws j f to) (target_above t (l ∷ rest) to f.sits lt)
      (target_small t (l ∷ rest) to f.sits lt) lives e f.kept (alike_refl regs) in
      let small = small_of t (l ∷ rest) regs ws j f from a lives e in
      sets t l rest regs ws j f r 1 3 to a x.0 (record { goes = refl; is = refl }) lt (omega arith)
      (gets_but regs x.0 rd a (frame_at t j) (places_end t.frame) x.2) x.2.kept (omega arith) x.1
      (x.2.same ∙ (let g : a ≡ a % 2 ^ 32 = omega (arith, small) in g)))

  operate_is : (o : WordOperation) (rd left right : ℕ) (regs : List ℕ) (m : Memory) (ws input : List ℕ) (rest : List LabelLine) →
      did g.live (whole g) g.at (run_at regs m ws input (Do (operate o rd left right) ∷ rest)) rest (operate o rd left right)
      ≡ led g.live (whole g) g.at (run_at regs m ws input (Do (operate o rd left right) ∷ rest)) rest
      (written (state_of regs m ws) rd (computed o (get_or regs left 0) (get_or regs right 0)))
  operate_is operation.Add rd left right regs m ws input rest = refl
  operate_is operation.Subtract rd left right regs m ws input rest = refl
  operate_is operation.Multiply rd left right regs m ws input rest = refl
  operate_is operation.MultiplyHigh rd left right regs m ws input rest = refl
  operate_is operation.Divide rd left right regs m ws input rest = refl
  operate_is operation.Remainder rd left right regs m ws input rest = refl
  operate_is operation.DivideUnsigned rd left right regs m ws input rest = refl
  operate_is operation.RemainderUnsigned rd left right regs m ws input rest = refl
  operate_is operation.And rd left right regs m ws input rest = refl
  operate_is operation.Or rd left right regs m ws input rest = refl
  operate_is operation.Xor rd left right regs m ws input rest = refl
  operate_is operation.ShiftLeft rd left right regs m ws input rest = refl
  operate_is operation.ShiftRight rd left right regs m ws input rest = refl
  operate_is operation.ShiftRightSigned rd left right regs m ws input rest = refl
  operate_is operation.Less rd left right regs m ws input rest = refl
  operate_is operation.Below rd left right regs m ws input rest = refl

  pub compute_sim : (to : ℕ) (o : WordOperation) (left right : ℕ) → Line_sim (word.Compute to o left right)
  compute_sim to o left right t rest regs ws j f =
      let l = word.Compute to o left right in
      let vars = t.frame.proc.vars in
      let named = and_parts (nat_lt to vars) (nat_lt left vars && nat_lt right vars) (named_of t l rest f.sits) in
      let lt = ltb-true to vars named.0 in
      let h = homes t in
      let rd = target h to in
      let i = operate o rd (left_of h left) (right_of h right) in
      let r = Here t l rest regs ws j f in
      let m = t.memory in
      let last = keep h to (Behind t l rest regs ws j f) in
      let above = target_above t (l ∷ rest) to f.sits lt in
      let under = target_small t (l ∷ rest) to f.sits lt in
      let lives : Alive t.frame.proc.lines left (l ∷ rest) = read_by (inl refl) in
      let also : Alive t.frame.proc.lines right (l ∷ rest) = read_by (inr refl) in
      using_sim ws r t rest (t.frame.vars left) _ (λ a e.
      using_sim ws r t rest (t.frame.vars right) _ (λ b k.
      let x = both_go t (l ∷ rest) regs ws j f left right a b (Do i ∷ last) refl lives also e k in
      let v = computed o (get_or x.0 (left_of h left) 0) (get_or x.0 (right_of h right) 0) in
      let y = writes g.live (whole g) g.at m ws t.input x.0 i rd v last (keep_quiet t l rest regs ws j f to)
      (operate_is o rd (left_of h left) (right_of h right) x.0 m ws t.input last) in
      let value : v ≡ computed o a b = ap (λ n. computed o n (get_or x.0 (right_of h right) 0)) x.2.first ∙ ap (computed o a) x.2.second in
      let small = computed_small o a b (small_of t (l ∷ rest) regs ws j f left a lives e) (small_of t (l ∷ rest) regs ws j f right b also k) in
      let low : computed o a b ≡ computed o a b % 2 ^ 32 = omega (arith, small) in
      let z = put_gets x.0 rd v (frame_at t j) (places_end t.frame) above under x.2.kept in
      sets t l rest regs ws j f r 1 7 to (computed o a b) (put x.0 rd v) (record { goes = refl; is = refl }) lt (omega arith)
      (λ s kept ne. z.other s ne ∙ x.2.alike s kept) z.kept (omega arith)
      (then_goes g.live (whole g) g.at 0 1 6 1 _ _ _ x.1 y) (z.same ∙ value ∙ low)))

  pub sum_sim : (to from value : ℕ) → Line_sim (word.Sum to from value)
  sum_sim to from value t rest regs ws j f =
      let l = word.Sum to from value in
      let vars = t.frame.proc.vars in
      let named = and_parts (nat_lt to vars) (nat_lt from vars) (named_of t l rest f.sits) in
      let lt = ltb-true to vars named.0 in
      let h = homes t in
      let rd = target h to in
      let rs = right_of h from in
      let r = Here t l rest regs ws j f in
      let m = t.memory in
      let places = places_end t.frame in
      let last = keep h to (Behind t l rest regs ws j f) in
      let above = target_above t (l ∷ rest) to f.sits lt in
      let under = target_small t (l ∷ rest) to f.sits lt in
      let lives : Alive t.frame.proc.lines from (l ∷ rest) = read_by (inl refl) in
      using_sim ws r t rest (t.frame.vars from) _ (λ a e.
      let there = (laid_of t (l ∷ rest) f.sits).there from (f.held from a lives e).0 in
      let quiet = quiet_does (sum rd rs value) last (keep_quiet t l rest regs ws j f to) in
      let x = var_brought t (l ∷ rest) regs ws j f regs 6 from a (does (sum rd rs value) last) quiet (omega arith) (omega arith) lives e f.kept
      (alike_refl regs) in
      let y = sum_any g.live (whole g) g.at m ws t.input x.0 rd rs value last (keep_quiet t l rest regs ws j f to) (omega (arith, above)) under
      (seats_before (size h) (home_of h from) there) x.2.kept.good in
      let same : added (get_or x.0 rs 0) value ≡ (a + value) % 2 ^ 32 = ap (λ n. added n value) x.2.same in
      let kept : Regs y.0 (frame_at t j) places = record {
        good = y.2.good;
        frame_is = y.2.other 2 (λ e. omega (arith, e, above)) (λ e. omega (arith, e)) ∙ x.2.kept.frame_is;
        places_is = y.2.other 3 (λ e. omega (arith, e, above)) (λ e. omega (arith, e)) ∙ x.2.kept.places_is;
        data_is = y.2.other 4 (λ e. omega (arith, e, above)) (λ e. omega (arith, e)) ∙ x.2.kept.data_is;
      } in
      sets t l rest regs ws j f r 1 6 to (a + value) y.0 (record { goes = refl; is = refl }) lt (omega arith)
      (λ s kept ne. y.2.other s ne (kept_apart s 5 kept refl) ∙ x.2.others s (kept_apart s 6 kept refl)) kept (omega arith)
      (then_goes g.live (whole g) g.at 0 1 3 3 _ _ _ x.1 y.1) (y.2.same ∙ same))

  place_there : (base room a : ℕ) → added (added base room) ((a + negative room) % 2 ^ 32) ≡ (base + a) % 2 ^ 32
  place_there base room a = omega arith

  pub place_sim : (to a : ℕ) → Line_sim (word.Place to a)
  place_sim to a t rest regs ws j f =
      let l = word.Place to a in
      let p = t.frame.proc in
      let base = t.frame.base in
      let offset = place_at p a in
      let rd = target (homes t) to in
      let lt = ltb-true to p.vars (named_of t l rest f.sits) in
      let above = target_above t (l ∷ rest) to f.sits lt in
      let x = sum_any g.live (whole g) g.at t.memory ws t.input regs rd 3 offset (keep (homes t) to (Behind t l rest regs ws j f))
      (keep_quiet t l rest regs ws j f to) (omega (arith, above)) (target_small t (l ∷ rest) to f.sits lt)
      (λ e. omega (arith, e)) f.kept.good in
      let v = added (get_or regs 3 0) offset in
      let same : v ≡ (base + a) % 2 ^ 32 = ap (λ n. added n offset) f.kept.places_is ∙ place_there base p.room a in
      let kept : Regs x.0 (frame_at t j) (places_end t.frame) = record {
        good = x.2.good;
        frame_is = x.2.other 2 (λ e. omega (arith, e, above)) (λ e. omega (arith, e)) ∙ f.kept.frame_is;
        places_is = x.2.other 3 (λ e. omega (arith, e, above)) (λ e. omega (arith, e)) ∙ f.kept.places_is;
        data_is = x.2.other 4 (λ e. omega (arith, e, above)) (λ e. omega (arith, e)) ∙ f.kept.data_is;
      } in
      sets t l rest regs ws j f (Here t l rest regs ws j f) 1 3 to (base + a) x.0 (record { goes = refl; is = refl }) lt (omega arith)
      (λ r kept ne. x.2.other r ne (kept_apart r 5 kept refl)) kept (omega arith) x.1 (x.2.same ∙ same)

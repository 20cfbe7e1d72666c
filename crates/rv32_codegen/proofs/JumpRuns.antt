-- What a line of word code does that jumps, its label code does.
use Rattle.std.proofs.Common.{◌≡◌, ℕ, inl, inr, List, []}
use Rattle.std.proofs.Common.{◌∷◌, get_or}
use Rattle.std.proofs.Common.{Option, Some, None, refl, ap, ◌∙◌, arith}
use Rattle.std.specs.Prelude.{false, if◌then◌else◌}
use Rattle.std.proofs.lemmas.Bool.{cond-true, cond-false}
use Rattle.arc_base.specs.Event.{Event}
use Rattle.arc_base.specs.Stepping.{Next, Goes}
use Rattle.arc_base.proofs.ForCallers.{steps_one}
use Rattle.rv32_isa.specs.declared.label.LabelName.TheVariants.{Inner}
use Rattle.rv32_isa.specs.declared.label.LabelLine.{LabelLine}
use Rattle.rv32_isa.specs.declared.label.LabelLine.TheVariants.{Branch}
use Rattle.rv32_isa.specs.Labels.{holds as label_holds, from_label as label_from}
use Rattle.rv32_isa.specs.LabelsMeaning.{LabelRun, goto, comes, step}
use Rattle.word_code.specs.declared.word.Test.{Test}
use Rattle.word_code.specs.declared.word.Test.TheVariants as test
use Rattle.word_code.specs.declared.word.WordInstr.{WordInstr}
use Rattle.word_code.specs.declared.word.WordInstr.TheVariants as word
use Rattle.word_code.specs.Words.{WordState, holds, scene_of, on, jumped}
use Rattle.word_code.specs.Words.{from_label}
use Rattle.reg_scan.specs.Alive.{Alive, read_by, led_by}
use Rattle.rv32_codegen.specs.Code.{compare, only_calls, left_of, right_of, lines_code}
use Rattle.rv32_codegen.proofs.Machine.{state_of, run_at, Regs, Goes_in, then_goes}
use Rattle.rv32_codegen.proofs.HomeRuns.{alike_refl}
use Rattle.rv32_codegen.proofs.Chunks.{quiet_lines}
use Rattle.rv32_codegen.proofs.Lookups.{behind, inner_is}
use Rattle.rv32_codegen.proofs.Frames.{Alike, places_end, sits_next}
use Rattle.rv32_codegen.proofs.Frames.{sits_at, Setting, whole, True, Rel, Sim}
use Rattle.rv32_codegen.proofs.LineRuns.{Behind, Here, Line_sim, at_lines, both_go, frame_at, homes, if_sim}
use Rattle.rv32_codegen.proofs.LineRuns.{passes_alive, quiet_behind, same_true, sim_goes, using_sim}

module _ (g : Setting) where
  -- ---- jumps

  jump_true : (t : WordState) (lines found : List WordInstr) (regs new ws : List ℕ) (j name : ℕ) (f : True g t lines regs ws j) →
      from_label name t.frame.proc.lines ≡ Some found → Regs new (frame_at g t j) (places_end t.frame) → Alike regs new →
      ((v : ℕ) → Alive t.frame.proc.lines v found → Alive t.frame.proc.lines v lines) → only_calls lines ≡ false →
      Rel g (run_at new t.memory ws t.input (lines_code (homes g t) t.frame.proc found (behind g.lay f.sits.tail))) (at_lines t found)
  unfolding same_true
  jump_true t lines found regs new ws j name f e kept same stays leads = record {
    regs = new;
    ws = ws;
    j = j;
    facts = same_true g t lines found regs new ws j f (sits_at g.lay g.procs t.frame.proc lines found name f.sits e) kept same stays (λ more. leads);
    is = refl;
  }

  found_label : (t : WordState) (lines found : List WordInstr) (regs ws : List ℕ) (j name : ℕ) (f : True g t lines regs ws j) →
      from_label name t.frame.proc.lines ≡ Some found →
      label_from (Inner t.frame.proc.number name) (whole g) ≡ Some (lines_code (homes g t) t.frame.proc found (behind g.lay f.sits.tail))
  found_label t lines found regs ws j name f e = inner_is g.lay t.frame.proc.number name g.procs t.frame.proc f.sits.tail found f.sits.found e

  jumped_sim : (t : WordState) (r : LabelRun) (o : Option (List WordInstr)) →
      ((found : List WordInstr) → o ≡ Some found → Sim g r t (on (at_lines t found))) →
      Sim g r t (jumped t (scene_of t) o)
  jumped_sim t r None h = tt
  jumped_sim t r (Some found) h = h found refl

  -- a jump to a label of the procedure
  module _ (t : WordState) (lines found : List WordInstr) (regs new ws : List ℕ) (j to : ℕ) (f : True g t lines regs ws j) (mid : List LabelLine)
      (e : from_label to t.frame.proc.lines ≡ Some found) where
    abbrev there : LabelRun
    there = run_at new t.memory ws t.input (lines_code (homes g t) t.frame.proc found (behind g.lay f.sits.tail))

    goes_there : step g.live (whole g) g.at (run_at new t.memory ws t.input mid)
        ≡ goto (state_of new t.memory ws) (label_from (Inner t.frame.proc.number to) (whole g)) t.input →
        Goes_in g.live (whole g) g.at 1 1 (run_at new t.memory ws t.input mid) there
    goes_there h =
        let s = state_of new t.memory ws in
        let quiet = quiet_lines (homes g t) t.frame.proc found (behind g.lay f.sits.tail) refl in
        steps_one (step g.live (whole g) g.at) _ _ [] 1 1
        (h ∙ ap (λ o. goto s o t.input) (found_label t lines found regs ws j to f e) ∙ ap (λ es. Goes es 1 there) quiet) (omega arith)

  pub jump_sim : (to : ℕ) → Line_sim g (word.Jump to)
  jump_sim to t rest regs ws j f =
      let l = word.Jump to in
      let p = t.frame.proc in
      let r = Here g t l rest regs ws j f in
      jumped_sim t r (from_label to p.lines) (λ found e.
      sim_goes g r _ t (at_lines t found) 1 1 (goes_there t (l ∷ rest) found regs regs ws j to f r.left e refl) (omega arith) (omega arith)
      (jump_true t (l ∷ rest) found regs regs ws j to f e f.kept (alike_refl regs) (λ v lives. led_by refl e lives) refl))

  holds_same : (x : Test) (a b : ℕ) → label_holds (compare x) a b ≡ holds x a b
  holds_same test.Equal a b = refl
  holds_same test.Unequal a b = refl
  holds_same test.Less a b = refl
  holds_same test.AtLeast a b = refl
  holds_same test.Below a b = refl
  holds_same test.NotBelow a b = refl

  pub branch_sim : (x : Test) (left right to : ℕ) → Line_sim g (word.Branch x left right to)
  unfolding same_true
  branch_sim x left right to t rest regs ws j f =
      let l = word.Branch x left right to in
      let k = Behind g t l rest regs ws j f in
      let p = t.frame.proc in
      let h = homes g t in
      let first = left_of h left in
      let second = right_of h right in
      let r = Here g t l rest regs ws j f in
      let lives : Alive p.lines left (l ∷ rest) = read_by (inl refl) in
      let also : Alive p.lines right (l ∷ rest) = read_by (inr refl) in
      using_sim g ws r t rest (t.frame.vars left) _ (λ a e.
      using_sim g ws r t rest (t.frame.vars right) _ (λ b d.
      let branch = Branch (compare x) first second (Inner p.number to) ∷ k in
      let y = both_go g t (l ∷ rest) regs ws j f left right a b branch refl lives also e d in
      let s = state_of y.0 t.memory ws in
      let mid = run_at y.0 t.memory ws t.input branch in
      let yes = goto s (label_from (Inner p.number to) (whole g)) t.input in
      let no : Next Event LabelRun = comes [] s k t.input in
      let test_is : step g.live (whole g) g.at mid ≡ (if holds x a b then yes else no) =
      ap (λ n. if label_holds (compare x) n (get_or y.0 second 0) then yes else no) y.2.first
      ∙ ap (λ n. if label_holds (compare x) a n then yes else no) y.2.second
      ∙ ap (λ c. if c then yes else no) (holds_same x a b) in
      if_sim g ws r t rest (holds x a b) _ _
      (λ h. jumped_sim t r (from_label to p.lines) (λ found c.
      let goes = goes_there t (l ∷ rest) found regs y.0 ws j to f branch c (test_is ∙ cond-true (holds x a b) yes no h) in
      sim_goes g r _ t (at_lines t found) 1 7 (then_goes g.live (whole g) g.at 0 1 6 1 r mid _ y.1 goes) (omega arith) (omega arith)
      (jump_true t (l ∷ rest) found regs y.0 ws j to f c y.2.kept y.2.alike (λ v lives. led_by refl c lives) refl)))
      (λ h.
      let next = run_at y.0 t.memory ws t.input k in
      let quiet = quiet_behind g t rest (sits_next g.lay g.procs p l rest f.sits) in
      let goes : Goes_in g.live (whole g) g.at 1 1 mid next =
      steps_one (step g.live (whole g) g.at) mid next [] 1 1 (test_is ∙ cond-false (holds x a b) yes no h
      ∙ ap (λ es. Goes es 1 next) quiet) (omega arith) in
      sim_goes g r next t (at_lines t rest) 1 7 (then_goes g.live (whole g) g.at 0 1 6 1 r mid next y.1 goes) (omega arith) (omega arith)
      (record {
        regs = y.0;
        ws = ws;
        j = j;
        facts = same_true g t (l ∷ rest) rest regs y.0 ws j f (sits_next g.lay g.procs p l rest f.sits) y.2.kept y.2.alike
            (λ v lives. passes_alive g l p.lines rest v (record { goes = refl; none = refl }) lives) (λ more. refl);
        is = refl;
      }))))

-- How long a run may go on: each line is a work of one, and where none is left to do the run stands still.
use Rattle.std.proofs.Common.{◌≡◌, ℕ, zero, suc, ◌+◌, ◌≤◌, ◌<◌, Bool, true, false, List, [], ◌∷◌, ◌++◌, refl, sym, ap, ◌∙◌, arith, Option, Some, None}
use Rattle.std.specs.Prelude.{if◌then◌else◌}
use Rattle.arc_base.specs.Event.{Event}
use Rattle.arc_base.specs.Behaviour.{Behaviour, Seen, no_objects}
use Rattle.arc_base.specs.Stepping.{Next, Goes, Ends, Faults, Errs, after, run}
use Rattle.rv32_isa.specs.Machine.{Lives}
use Rattle.word_code.specs.declared.word.WordInstr.{WordInstr}
use Rattle.word_code.specs.declared.word.WordProc.{WordProc}
use Rattle.word_code.specs.Words.{WordDid, Passes, Spends, Leaps, Calls, Returns, Exits, Fails, WordScene, WordFrame, WordState, does, scene_of, onward}
use Rattle.word_code.specs.Words.{jumped, entered, returned, spent, settled, step, step_lines, from_label, from_proc, is_full}
use Rattle.word_runner.specs.Holding.{Holding, StopsWithin}
use Rattle.word_runner.specs.Sinks.{Told}

module _ {S : Type 0} (m : S → Next Event S) where
  -- the work of so many steps
  abbrev pub work_in : ℕ → S → ℕ
  work_in n s = (run m n s [] 0).work

  -- a step is a work of one, or it stands still
  abbrev IsLine : S → Next Event S → Type 0
  IsLine s (Goes es zero t) = (es ≡ []) × (t ≡ s)
  IsLine s (Goes es (suc w) t) = w ≡ 0
  IsLine s (Ends es w status live) = w ≡ 1
  IsLine s Faults = Unit {0}
  IsLine s Errs = Unit {0}

  on_by : (n : ℕ) → ((s : S) (out : List Event) (work : ℕ) → (run m n s out work).work ≡ work + work_in n s) → (r : Next Event S)
      (out : List Event) (work : ℕ) → (after r (run m n) out work).work ≡ work + (after r (run m n) [] 0).work
  on_by n more (Goes es w t) out work = let a = more t (out ++ es) (work + w) in let b = more t ([] ++ es) (0 + w) in omega (arith, a, b)
  on_by n more (Ends es w status live) out work = omega arith
  on_by n more Faults out work = omega arith
  on_by n more Errs out work = omega arith

  work_on : (n : ℕ) (s : S) (out : List Event) (work : ℕ) → (run m n s out work).work ≡ work + work_in n s
  work_on zero s out work = omega arith
  work_on (suc n) s out work = on_by n (work_on n) (m s) out work

  pub after_goes : (n : ℕ) (s t : S) (es : List Event) (w : ℕ) → m s ≡ Goes es w t → work_in (suc n) s ≡ w + work_in n t
  after_goes n s t es w e =
      let none : 0 + w ≡ w = omega arith in
      ap (λ (r : Next Event S). (after r (run m n) [] 0).work) e ∙ work_on n t es (0 + w) ∙ ap (λ (k : ℕ). k + work_in n t) none

  -- what stands still does no work, and what ends or fails does no more
  stands : (s t : S) (es : List Event) → m s ≡ Goes es 0 t → t ≡ s → (n : ℕ) → work_in n s ≡ 0
  stands s t es e f zero = refl
  stands s t es e f (suc n) =
      let a = after_goes n s t es 0 e in
      let b = ap (work_in n) f in
      let c = stands s t es e f n in omega (arith, a, b, c)

  over : (s : S) (r : Next Event S) (w : ℕ) → m s ≡ r → ((go : S → List Event → ℕ → Seen Event) → (after r go [] 0).work ≡ w) → (n : ℕ) → work_in (suc n) s ≡ w
  over s r w e h n = ap (λ (r : Next Event S). (after r (run m n) [] 0).work) e ∙ h (run m n)

  module _ (lines : (s : S) → IsLine s (m s)) where
    -- a run that did less work than it made steps does no more
    enough_by : (n : ℕ) (s : S) → ((t : S) → work_in (suc n) t ≤ n → work_in (suc n) t ≡ work_in n t) → work_in (suc (suc n)) s ≤ suc n
        → (r : Next Event S) → m s ≡ r → IsLine s r → work_in (suc (suc n)) s ≡ work_in (suc n) s
    enough_by n s more le (Goes es zero t) e f =
        let a = stands s t es e f.1 (suc (suc n)) in let b = stands s t es e f.1 (suc n) in omega (arith, a, b)
    enough_by n s more le (Goes es (suc w) t) e f =
        let a = after_goes (suc n) s t es (suc w) e in
        let b = after_goes n s t es (suc w) e in
        let h = more t (omega (arith, a, le, f)) in omega (arith, a, b, h)
    enough_by n s more le (Ends es w status live) e f =
        let none : 0 + w ≡ w = omega arith in
        over s (Ends es w status live) w e (λ go. none) (suc n) ∙ sym (over s (Ends es w status live) w e (λ go. none) n)
    enough_by n s more le Faults e f = over s Faults 0 e (λ go. refl) (suc n) ∙ sym (over s Faults 0 e (λ go. refl) n)
    enough_by n s more le Errs e f = over s Errs 0 e (λ go. refl) (suc n) ∙ sym (over s Errs 0 e (λ go. refl) n)

    enough : (n : ℕ) (s : S) → work_in (suc n) s ≤ n → work_in (suc n) s ≡ work_in n s
    enough zero s le = omega (arith, le)
    enough (suc n) s le = enough_by n s (enough n) le (m s) refl (lines s)

    pub falls : (most : ℕ) (s t : S) (es : List Event) → StopsWithin m s most → m s ≡ Goes es 1 t → work_in (suc most) t < work_in (suc most) s
    falls most s t es stops e =
        let a = after_goes most s t es 1 e in
        let b = after_goes (suc most) s t es 1 e in
        let c = stops (suc (suc most)) in
        let h = enough most t (omega (arith, b, c)) in omega (arith, a, h)

  pub stops_on : (most : ℕ) (s t : S) (es : List Event) (w : ℕ) → StopsWithin m s most → m s ≡ Goes es w t → StopsWithin m t most
  stops_on most s t es w stops e n = let a = after_goes n s t es w e in let b = stops (suc n) in omega (arith, a, b)

-- a run that is under way does no more work than the whole
pub within : {S : Type 0} (m : S → Next Event S) (shown : Behaviour Event) (s : S) (out err : Told) (most : ℕ) → Holding m shown s out err
    → ((n : ℕ) → (shown n).work ≤ most) → StopsWithin m s most
within m shown s out err most h le n =
    let a = work_on m n s h.events h.work in
    let b = ap (λ (x : Seen Event). x.work) (h.same n) in
    let c = le (h.lines + n) in omega (arith, a, b, c)

-- ---- word code

-- where nothing is said of what is live
abbrev pub none_live : Lives
none_live s = no_objects

module _ (live : Lives) (procs : List WordProc) where
  if_line : (s : WordState) (b : Bool) (x y : Next Event WordState) → IsLine (step live procs []) s x → IsLine (step live procs []) s y
      → IsLine (step live procs []) s (if b then x else y)
  if_line s true x y f g = f
  if_line s false x y f g = g

  spent_line : (s next : WordState) (units : Option ℕ) → IsLine (step live procs []) s (spent units next s)
  spent_line s next None = refl
  spent_line s next (Some zero) = (refl, refl)
  spent_line s next (Some (suc n)) = refl

  jumped_line : (s : WordState) (x : WordScene) (o : Option (List WordInstr)) → IsLine (step live procs []) s (jumped s x o)
  jumped_line s x None = tt
  jumped_line s x (Some lines) = refl

  entered_line : (s : WordState) (rest : List WordInstr) (x : WordScene) (to : ℕ) (found : List WordProc)
      → IsLine (step live procs []) s (entered [] s rest x to found)
  entered_line s rest x to [] = tt
  entered_line s rest x to (p ∷ others) = if_line s (is_full p (s.frame ∷ s.callers)) _ _ tt refl

  returned_line : (s : WordState) (word : ℕ) (callers : List WordFrame) → IsLine (step live procs []) s (returned s word callers)
  returned_line s word [] = tt
  returned_line s word (c ∷ callers) = refl

  settled_line : (s : WordState) (rest : List WordInstr) (d : WordDid) → IsLine (step live procs []) s (settled live procs [] s rest d)
  settled_line s rest (Passes shown x) = refl
  settled_line s rest (Spends x) = spent_line s (onward s rest x) s.units
  settled_line s rest (Leaps name x) = jumped_line s x (from_label name s.frame.proc.lines)
  settled_line s rest (Calls to callee x) = entered_line s rest x to (from_proc callee procs)
  settled_line s rest (Returns word) = returned_line s word s.callers
  settled_line s rest (Exits status) = refl
  settled_line s rest Fails = tt

  lines_line : (s : WordState) (lines : List WordInstr) → IsLine (step live procs []) s (step_lines live procs [] s lines)
  lines_line s [] = tt
  lines_line s (line ∷ rest) = settled_line s rest (does (scene_of s) line)

  pub word_lines : (s : WordState) → IsLine (step live procs []) s (step live procs [] s)
  word_lines s = lines_line s s.frame.left

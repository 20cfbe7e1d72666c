-- What word code does is the same whatever is said of live objects: its end alone tells of them.
use Rattle.std.proofs.Common.{◌≡◌, ℕ, zero, suc, ◌+◌, Bool, true, false, List, [], ◌∷◌, ◌++◌, refl, subst, Option, Some, None}
use Rattle.std.specs.Prelude.{if◌then◌else◌}
use Rattle.arc_base.specs.Event.{Event}
use Rattle.arc_base.specs.Behaviour.{Live, Phase, Ended, no_objects}
use Rattle.arc_base.specs.Stepping.{Next, Goes, Ends, Faults, Errs, next_map, after, run}
use Rattle.rv32_isa.specs.Machine.{Lives}
use Rattle.word_code.specs.declared.word.WordCode.{WordCode}
use Rattle.word_code.specs.declared.word.WordInstr.{WordInstr}
use Rattle.word_code.specs.declared.word.WordProc.{WordProc}
use Rattle.word_code.specs.Words.{Exits, Fails, Fresh, Passes, Leaps, Calls, Returns, Spends, WordDid, WordFrame, WordScene, WordState, does, entered}
use Rattle.word_code.specs.Words.{from_label}
use Rattle.word_code.specs.Words.{from_proc, if_formed, is_full, is_word_code, jumped, onward, returned, scene_of, settled, spent, start, step_lines, step_of}
use Rattle.word_code.specs.Words.{word_by_units}
use Rattle.core_compiler.specs.Compile.{live_objects}

module _ (procs : List WordProc) (fresh : Fresh) where
  -- ---- the work

  module _ (live other : Lives) where
    abbrev Works : ℕ → Type 0
    Works n = (x : ℕ × WordState) (es fs : List Event) (w : ℕ)
        → (run (step_of live procs fresh) n x es w).work ≡ (run (step_of other procs fresh) n x fs w).work

    works_next : (n : ℕ) → Works n → (i : ℕ) (next : Next Event WordState) (es fs : List Event) (w : ℕ)
        → (after (next_map (λ s. (i, s)) next) (run (step_of live procs fresh) n) es w).work
        ≡ (after (next_map (λ s. (i, s)) next) (run (step_of other procs fresh) n) fs w).work
    works_next n h i (Goes shown v s) es fs w = h (i, s) (es ++ shown) (fs ++ shown) (w + v)
    works_next n h i (Ends shown v status l) es fs w = refl
    works_next n h i Faults es fs w = refl
    works_next n h i Errs es fs w = refl

    works_did : (n : ℕ) → Works n → (i : ℕ) (bytes : List ℕ) (s : WordState) (rest : List WordInstr) (d : WordDid) (es fs : List Event) (w : ℕ)
        → (after (next_map (λ s. (i, s)) (settled live procs bytes s rest d)) (run (step_of live procs fresh) n) es w).work
        ≡ (after (next_map (λ s. (i, s)) (settled other procs bytes s rest d)) (run (step_of other procs fresh) n) fs w).work
    works_did n h i bytes s rest (Passes shown x) es fs w = works_next n h i (Goes shown 1 (onward s rest x)) es fs w
    works_did n h i bytes s rest (Spends x) es fs w = works_next n h i (spent s.units (onward s rest x) s) es fs w
    works_did n h i bytes s rest (Leaps name x) es fs w = works_next n h i (jumped s x (from_label name s.frame.proc.lines)) es fs w
    works_did n h i bytes s rest (Calls to callee x) es fs w = works_next n h i (entered bytes s rest x to (from_proc callee procs)) es fs w
    works_did n h i bytes s rest (Returns word) es fs w = works_next n h i (returned s word s.callers) es fs w
    works_did n h i bytes s rest (Exits status) es fs w = refl
    works_did n h i bytes s rest Fails es fs w = refl

    works_lines : (n : ℕ) → Works n → (i : ℕ) (bytes : List ℕ) (s : WordState) (left : List WordInstr) (es fs : List Event) (w : ℕ)
        → (after (next_map (λ s. (i, s)) (step_lines live procs bytes s left)) (run (step_of live procs fresh) n) es w).work
        ≡ (after (next_map (λ s. (i, s)) (step_lines other procs bytes s left)) (run (step_of other procs fresh) n) fs w).work
    works_lines n h i bytes s [] es fs w = refl
    works_lines n h i bytes s (line ∷ rest) es fs w = works_did n h i bytes s rest (does (scene_of s) line) es fs w

    works : (n : ℕ) → Works n
    works zero x es fs w = refl
    works (suc n) x es fs w = works_lines n (works n) (suc x.0) (fresh x.0) x.1 x.1.frame.left es fs w

  -- ---- where nothing is live

  abbrev Ends_none : Phase → Type 0
  Ends_none (Ended status l) = l ≡ no_objects
  Ends_none phase = Unit {0}

  abbrev NeverEnds : Next Event WordState → Type 0
  NeverEnds (Ends shown v status l) = ⊥
  NeverEnds next = Unit {0}

  spent_on : (units : Option ℕ) (next now : WordState) → NeverEnds (spent units next now)
  spent_on None next now = tt
  spent_on (Some zero) next now = tt
  spent_on (Some (suc n)) next now = tt

  jumped_on : (s : WordState) (x : WordScene) (o : Option (List WordInstr)) → NeverEnds (jumped s x o)
  jumped_on s x None = tt
  jumped_on s x (Some lines) = tt

  returned_on : (s : WordState) (word : ℕ) (callers : List WordFrame) → NeverEnds (returned s word callers)
  returned_on s word [] = tt
  returned_on s word (caller ∷ callers) = tt

  full_on : (b : Bool) (es : List Event) (w : ℕ) (s : WordState) → NeverEnds (if b then Faults else Goes es w s)
  full_on true es w s = tt
  full_on false es w s = tt

  entered_on : (bytes : List ℕ) (s : WordState) (rest : List WordInstr) (x : WordScene) (to : ℕ) (from : List WordProc)
      → NeverEnds (entered bytes s rest x to from)
  entered_on bytes s rest x to [] = tt
  entered_on bytes s rest x to (p ∷ from) = full_on (is_full p (s.frame ∷ s.callers)) _ _ _

  abbrev Nones : ℕ → Type 0
  Nones n = (x : ℕ × WordState) (es : List Event) (w : ℕ) → Ends_none (run (step_of live_objects procs fresh) n x es w).phase

  none_next : (n : ℕ) → Nones n → (i : ℕ) (next : Next Event WordState) → NeverEnds next → (es : List Event) (w : ℕ)
      → Ends_none (after (next_map (λ s. (i, s)) next) (run (step_of live_objects procs fresh) n) es w).phase
  none_next n h i (Goes shown v s) on es w = h (i, s) (es ++ shown) (w + v)
  none_next n h i (Ends shown v status l) on es w = absurd on
  none_next n h i Faults on es w = tt
  none_next n h i Errs on es w = tt

  none_did : (n : ℕ) → Nones n → (i : ℕ) (bytes : List ℕ) (s : WordState) (rest : List WordInstr) (d : WordDid) (es : List Event) (w : ℕ)
      → Ends_none (after (next_map (λ s. (i, s)) (settled live_objects procs bytes s rest d)) (run (step_of live_objects procs fresh) n) es w).phase
  none_did n h i bytes s rest (Passes shown x) es w = none_next n h i (Goes shown 1 (onward s rest x)) tt es w
  none_did n h i bytes s rest (Spends x) es w = none_next n h i (spent s.units (onward s rest x) s) (spent_on s.units (onward s rest x) s) es w
  none_did n h i bytes s rest (Leaps name x) es w =
      none_next n h i (jumped s x (from_label name s.frame.proc.lines)) (jumped_on s x (from_label name s.frame.proc.lines)) es w
  none_did n h i bytes s rest (Calls to callee x) es w =
      none_next n h i (entered bytes s rest x to (from_proc callee procs)) (entered_on bytes s rest x to (from_proc callee procs)) es w
  none_did n h i bytes s rest (Returns word) es w = none_next n h i (returned s word s.callers) (returned_on s word s.callers) es w
  none_did n h i bytes s rest (Exits status) es w = refl
  none_did n h i bytes s rest Fails es w = tt

  none_lines : (n : ℕ) → Nones n → (i : ℕ) (bytes : List ℕ) (s : WordState) (left : List WordInstr) (es : List Event) (w : ℕ)
      → Ends_none (after (next_map (λ s. (i, s)) (step_lines live_objects procs bytes s left)) (run (step_of live_objects procs fresh) n) es w).phase
  none_lines n h i bytes s [] es w = tt
  none_lines n h i bytes s (line ∷ rest) es w = none_did n h i bytes s rest (does (scene_of s) line) es w

  nones : (n : ℕ) → Nones n
  nones zero x es w = tt
  nones (suc n) x es w = none_lines n (nones n) (suc x.0) (fresh x.0) x.1 x.1.frame.left es w

-- ---- whole runs

module _ (code : WordCode) (fresh : Fresh) (heap stack : ℕ) (input : List ℕ) (units n : ℕ) where
  pub work_same : (live other : Lives) → (word_by_units live code fresh heap stack input units n).work
      ≡ (word_by_units other code fresh heap stack input units n).work
  work_same live other = by_test (is_word_code code)
    where
      by_test : (b : Bool) → (if_formed b (λ n. run (step_of live code.procs fresh) n (0, record (start code heap stack input) { units = Some units }) []
          0) n).work
          ≡ (if_formed b (λ n. run (step_of other code.procs fresh) n (0, record (start code heap stack input) { units = Some units }) [] 0) n).work
      by_test true = works code.procs fresh live other n (0, record (start code heap stack input) { units = Some units }) [] [] 0
      by_test false = refl

  pub ended_none : (status : ℕ) (l : Live) → (word_by_units live_objects code fresh heap stack input units n).phase ≡ Ended status l → l ≡ no_objects
  ended_none status l e = subst (Ends_none code.procs fresh) e (by_test (is_word_code code))
    where
      by_test : (b : Bool)
          → Ends_none code.procs fresh (if_formed b
          (λ n. run (step_of live_objects code.procs fresh) n (0, record (start code heap stack input) { units = Some units }) [] 0) n).phase
      by_test true = nones code.procs fresh n (0, record (start code heap stack input) { units = Some units }) [] 0
      by_test false = tt

-- A routine is entered from any caller, and comes back to it.
use Rattle.std.proofs.Common.{◌≡◌, ℕ, List, [], ◌∷◌, Some, sym, ap, subst, ◌∙◌}
use Rattle.arc_base.specs.Event.{Event}
use Rattle.arc_base.specs.Behaviour.{Live}
use Rattle.arc_base.specs.Stepping.{Goes}
use Rattle.rv32_isa.specs.Machine.{Lives}
use Rattle.rv32_isa.specs.Values.{added}
use Rattle.word_code.specs.declared.word.WordInstr.{WordInstr}
use Rattle.word_code.specs.declared.word.WordInstr.TheVariants.{Call, Return}
use Rattle.word_code.specs.declared.word.WordProc.{WordProc}
use Rattle.word_code.specs.Memory.{Memory, without_places}
use Rattle.word_code.specs.Words.{Vars, no_words, params_of, from_proc, WordFrame, WordState, scene_of, using, Returns, settled, entered, step}
use Rattle.word_code.specs.Joined.{moved}
use Rattle.word_code.specs.Routines.{goes_on}
use Rattle.word_code.proofs.ForCallers.{AlwaysSteps, AlwaysStops, one, Runs, Within, at}
use Rattle.refc_runtime.specs.Code.{routine}

-- a routine whose data stands so much later
abbrev pub later : (n number params vars : ℕ) → List WordInstr → WordProc
later n number params vars lines = moved n (routine number params vars lines)

-- what a state has beside memory, variables and lines
abbrev pub within : WordState → Within
within s = record { units = s.units; input = s.input; proc = s.frame.proc; base = s.frame.base; awaits = s.frame.awaits; callers = s.callers }

-- the caller's frame
abbrev pub caller_of : WordState → (to : ℕ) → List WordInstr → WordFrame
caller_of s to rest = record { proc = s.frame.proc; left = rest; vars = s.frame.vars; given = no_words; base = s.frame.base; awaits = to }

-- what the routine's call has
abbrev pub inside : WordState → WordProc → (to : ℕ) → List WordInstr → Within
inside s p to rest = record {
  units = s.units;
  input = s.input;
  proc = p;
  base = added s.frame.base s.frame.proc.room;
  awaits = 0;
  callers = caller_of s to rest ∷ s.callers;
}

module _ (live : Lives) (procs : List WordProc) (s : WordState) (to : ℕ) (rest : List WordInstr) where
  pub enters : (n number params vars : ℕ) (lines : List WordInstr) (others : List WordProc)
      → from_proc number procs ≡ later n number params vars lines ∷ others
      → Runs live procs 1 (at (within s) s.memory (Call to number ∷ rest) s.frame.vars s.frame.given)
      (at (inside s (later n number params vars lines) to rest) s.memory lines (params_of (later n number params vars lines) s.frame.given) no_words)
  enters n number params vars lines others stands =
      let from : WordState = at (within s) s.memory (Call to number ∷ rest) s.frame.vars s.frame.given in
      one (step live procs) (λ bytes. ap (entered bytes from rest (scene_of from) to) stands)

  -- it comes back with a word, whatever lines stand behind; it has no places
  pub returns_before : (k : List WordInstr) (p : WordProc) → p.room ≡ 0 → (m : Memory) (v : Vars) (from word : ℕ) → v from ≡ Some word
      → Runs live procs 1 (at (inside s p to rest) m (Return from ∷ k) v no_words) (goes_on s to word rest m s.input)
  returns_before k p none m v from word e =
      let t : WordState = at (inside s p to rest) m (Return from ∷ k) v no_words in
      one (step live procs) (λ bytes. ap (λ o. settled live procs bytes t k (using o (λ a. Returns a))) e
      ∙ ap (λ n. Goes [] 1 (goes_on s to word rest (without_places m n) s.input)) none)

  -- also behind calls that it made
  pub returns_awaiting : (awaits : ℕ) (k : List WordInstr) (p : WordProc) → p.room ≡ 0 → (m : Memory) (v : Vars) (from word : ℕ) → v from ≡ Some word
      → Runs live procs 1 (at (record (inside s p to rest) { awaits = awaits }) m (Return from ∷ k) v no_words) (goes_on s to word rest m s.input)
  returns_awaiting awaits k p none m v from word e =
      let t : WordState = at (record (inside s p to rest) { awaits = awaits }) m (Return from ∷ k) v no_words in
      one (step live procs) (λ bytes. ap (λ o. settled live procs bytes t k (using o (λ a. Returns a))) e
      ∙ ap (λ n. Goes [] 1 (goes_on s to word rest (without_places m n) s.input)) none)

  pub returns : (p : WordProc) → p.room ≡ 0 → (m : Memory) (v : Vars) (from word : ℕ) → v from ≡ Some word
      → Runs live procs 1 (at (inside s p to rest) m (Return from ∷ []) v no_words) (goes_on s to word rest m s.input)
  returns p none m v from word e = returns_before [] p none m v from word e

  -- the state that calls it
  pub from_call : (number : ℕ) (es : List Event) (l p : ℕ) (t : WordState) → s.frame.left ≡ Call to number ∷ rest
      → AlwaysSteps (step live procs) l (at (within s) s.memory (Call to number ∷ rest) s.frame.vars s.frame.given) es p t
      → AlwaysSteps (step live procs) l s es p t
  from_call number es l p t e x =
      subst (λ ls. AlwaysSteps (step live procs) l (at (within s) s.memory ls s.frame.vars s.frame.given) es p t) (sym e) x

  pub stops_call : (number : ℕ) (es : List Event) (p status : ℕ) (left : Live) → s.frame.left ≡ Call to number ∷ rest
      → AlwaysStops (step live procs) (at (within s) s.memory (Call to number ∷ rest) s.frame.vars s.frame.given) es p status left
      → AlwaysStops (step live procs) s es p status left
  stops_call number es p status left e x =
      subst (λ ls. AlwaysStops (step live procs) (at (within s) s.memory ls s.frame.vars s.frame.given) es p status left) (sym e) x

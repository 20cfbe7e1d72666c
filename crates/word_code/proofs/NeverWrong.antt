-- Runs of word code are never wrong: no step is.
use Rattle.std.proofs.Common.{◌≢◌, ℕ, zero, suc, List, [], ◌∷◌, Option, Some, None, Bool, true, false, refl}
use Rattle.std.specs.Prelude.{if◌then◌else◌}
use Rattle.arc_base.specs.Event.{Event}
use Rattle.arc_base.specs.Behaviour.{Behaviour, Wrong, Steady}
use Rattle.arc_base.specs.Stepping.{Next, Goes, Ends, Faults, Errs, next_map, after, run}
use Rattle.rv32_isa.specs.Machine.{Lives}
use Rattle.word_code.specs.declared.word.WordInstr.{WordInstr}
use Rattle.word_code.specs.declared.word.WordProc.{WordProc}
use Rattle.word_code.specs.Words as word
use Rattle.word_code.specs.Words.{WordState, WordFrame, WordScene, WordDid, Fresh, if_formed}

-- ---- machines

abbrev IsFine : {E S : Type 0} → Next E S → Type 0
IsFine (Goes es w s) = Unit {0}
IsFine (Ends es w status live) = Unit {0}
IsFine Faults = Unit {0}
IsFine Errs = ⊥

module _ {E S : Type 0} (step : S → Next E S) (fine : (s : S) → IsFine (step s)) where
  after_right : (x : Next E S) → IsFine x → (n : ℕ) → ((s : S) (out : List E) (done : ℕ) → (run step n s out done).phase ≢ Wrong) →
      (out : List E) (done : ℕ) → (after x (run step n) out done).phase ≢ Wrong
  after_right (Goes es w s) f n h out done = h s _ _
  after_right (Ends es w status live) f n h out done = λ e. cc
  after_right Faults f n h out done = λ e. cc
  after_right Errs f n h out done = absurd f

  pub run_right : (n : ℕ) (s : S) (out : List E) (done : ℕ) → (run step n s out done).phase ≢ Wrong
  run_right zero s out done = λ e. cc
  run_right (suc n) s out done = after_right (step s) (fine s) n (run_right n) out done

-- ---- word code

word_jumped : (s : WordState) (x : WordScene) (o : Option (List WordInstr)) → IsFine (word.jumped s x o)
word_jumped s x None = tt
word_jumped s x (Some rest) = tt

chosen_fine : {E S : Type 0} (b : Bool) (x y : Next E S) → IsFine x → IsFine y → IsFine (if b then x else y)
chosen_fine true x y f g = f
chosen_fine false x y f g = g

word_entered : (bytes : List ℕ) (s : WordState) (rest : List WordInstr) (x : WordScene) (to : ℕ) (procs : List WordProc) →
    IsFine (word.entered bytes s rest x to procs)
word_entered bytes s rest x to [] = tt
word_entered bytes s rest x to (p ∷ procs) = chosen_fine (word.is_full p (s.frame ∷ s.callers)) _ _ tt tt

word_returned : (s : WordState) (w : ℕ) (callers : List WordFrame) → IsFine (word.returned s w callers)
word_returned s w [] = tt
word_returned s w (caller ∷ callers) = tt

word_spent : (units : Option ℕ) (next now : WordState) → IsFine (word.spent units next now)
word_spent None next now = tt
word_spent (Some zero) next now = tt
word_spent (Some (suc n)) next now = tt

-- the same step with other states
map_fine : {E S T : Type 0} (f : T → S) (x : Next E T) → IsFine x → IsFine (next_map f x)
map_fine f (Goes es w t) h = tt
map_fine f (Ends es w status live) h = tt
map_fine f Faults h = tt
map_fine f Errs h = h

module _ (live : Lives) (procs : List WordProc) where
  word_settled : (bytes : List ℕ) (s : WordState) (rest : List WordInstr) (d : WordDid) → IsFine (word.settled live procs bytes s rest d)
  word_settled bytes s rest (word.Passes shown x) = tt
  word_settled bytes s rest (word.Spends x) = word_spent s.units (word.onward s rest x) s
  word_settled bytes s rest (word.Leaps name x) = word_jumped s x _
  word_settled bytes s rest (word.Calls to callee x) = word_entered bytes s rest x to _
  word_settled bytes s rest (word.Returns w) = word_returned s w s.callers
  word_settled bytes s rest (word.Exits status) = tt
  word_settled bytes s rest word.Fails = tt

  word_lines : (bytes : List ℕ) (s : WordState) (rest : List WordInstr) → IsFine (word.step_lines live procs bytes s rest)
  word_lines bytes s [] = tt
  word_lines bytes s (line ∷ rest) = word_settled bytes s rest (word.does (word.scene_of s) line)

  pub word_step : (fresh : Fresh) (x : ℕ × WordState) → IsFine (word.step_of live procs fresh x)
  word_step fresh x = map_fine (λ s. (suc x.0, s)) (word.step live procs (fresh x.0) x.1) (word_lines (fresh x.0) x.1 x.1.frame.left)

-- ---- code that isn't well formed

pub formed_right : (b : Bool) (x : Behaviour Event) (n : ℕ) → ((x n).phase ≢ Wrong) → (if_formed b x n).phase ≢ Wrong
formed_right true x n right = right
formed_right false x n right = λ e. cc

pub formed_steady : (b : Bool) (x : Behaviour Event) → Steady x → Steady (if_formed b x)
formed_steady true x steady = steady
formed_steady false x steady = record { grows = λ m n le. ([], refl); stays = λ m n le over. refl }

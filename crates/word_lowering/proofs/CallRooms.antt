-- A procedure that is found among small ones is small.
use Rattle.std.proofs.Common.{◌≡◌, ℕ, List, [], ◌∷◌, ◌==◌, sym, subst, ◌∙◌, inl, inr}
use Rattle.std.proofs.lemmas.Bool.{cases_Bool, cond-true, cond-false}
use Rattle.word_code.specs.declared.word.WordProc.{WordProc}
use Rattle.word_code.specs.Words.{from_proc}
use Rattle.word_lowering.specs.Lowers.{IsSmall, AreSmall}

pub small_found : (number : ℕ) (procs : List WordProc) (p : WordProc) (tail : List WordProc) → from_proc number procs ≡ p ∷ tail → AreSmall procs
    → IsSmall p
small_found number [] p tail e small = absurd cc
small_found number (q ∷ procs) p tail e small = elim (cases_Bool (q.number == number)) [
  | inl t ↦
      let is : q ∷ procs ≡ p ∷ tail = sym (cond-true (q.number == number) (q ∷ procs) (from_proc number procs) t) ∙ e in
      let first : q ≡ p = cc in
      subst IsSmall first small.0
  | inr f ↦ small_found number procs p tail (sym (cond-false (q.number == number) (q ∷ procs) (from_proc number procs) f) ∙ e) small.1
]

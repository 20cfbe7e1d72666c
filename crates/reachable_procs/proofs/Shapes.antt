-- What is left of well-formed code is well formed.
use Rattle.std.proofs.Common.{◌≡◌, ℕ, List, [], ◌∷◌, Bool, true, false, not, refl, ap, ◌∙◌}
use Rattle.std.specs.Prelude.{◌||◌, ◌&&◌, ◌==◌, if◌then◌else◌}
use Rattle.number_sets.specs.Numbers.{is_among}
use Rattle.word_code.specs.declared.word.WordProc.{WordProc}
use Rattle.word_code.specs.Words.{is_proc, has_number, are_procs}
use Rattle.word_code.specs.Sizes.{AreRanked}
use Rattle.reachable_procs.specs.Reachable.{kept}

module _ (numbers : List ℕ) where
  -- a number that no procedure has
  none_more : (n : ℕ) (procs : List WordProc) → has_number n procs ≡ false → has_number n (kept numbers procs) ≡ false
  none_more n [] e = refl
  none_more n (p ∷ procs) e = by (p.number == n) (is_among p.number numbers) refl e (none_more n procs)
    where
      by : (b c : Bool) → (p.number == n) ≡ b → (b || has_number n procs) ≡ false
          → (has_number n procs ≡ false → has_number n (kept numbers procs) ≡ false) →
          has_number n (if c then p ∷ kept numbers procs else kept numbers procs) ≡ false
      by true c e f rest = cc
      by false true e f rest = ap (λ d. d || has_number n (kept numbers procs)) e ∙ rest f
      by false false e f rest = rest f

  pub kept_formed : (procs : List WordProc) → are_procs procs ≡ true → are_procs (kept numbers procs) ≡ true
  kept_formed [] e = refl
  kept_formed (p ∷ procs) e = by (is_among p.number numbers) (is_proc p) (has_number p.number procs) refl refl e (kept_formed procs)
    where
      by : (c b d : Bool) → is_proc p ≡ b → has_number p.number procs ≡ d → (b && (not d && are_procs procs)) ≡ true
          → (are_procs procs ≡ true → are_procs (kept numbers procs) ≡ true) → are_procs (if c then p ∷ kept numbers procs else kept numbers procs) ≡ true
      by c false d f g h rest = cc
      by c true true f g h rest = cc
      by true true false f g h rest =
          ap (λ x. x && (not (has_number p.number (kept numbers procs)) && are_procs (kept numbers procs))) f
          ∙ ap (λ x. not x && are_procs (kept numbers procs)) (none_more p.number procs g) ∙ rest h
      by false true false f g h rest = rest h

  pub kept_ranked : (rank : ℕ → ℕ) (procs : List WordProc) → AreRanked rank procs → AreRanked rank (kept numbers procs)
  kept_ranked rank [] h = tt
  kept_ranked rank (p ∷ procs) h = by (is_among p.number numbers) (kept_ranked rank procs h.1)
    where
      by : (c : Bool) → AreRanked rank (kept numbers procs) → AreRanked rank (if c then p ∷ kept numbers procs else kept numbers procs)
      by true rest = (h.0, rest)
      by false rest = rest

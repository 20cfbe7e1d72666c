-- Procedures of two codes that are joined: those of the first are found as before, and those of the second with their data moved.
use Rattle.std.proofs.Common.{◌≡◌, inl, inr, ℕ, ◌+◌, List, [], ◌∷◌, ◌++◌, Bool, true, false, not, refl, sym, ap, ◌∙◌}
use Rattle.std.specs.Prelude.{◌==◌, ◌&&◌, ◌||◌}
use Rattle.std.proofs.lemmas.Bool.{and_parts, and_from, cases_Bool, cond-true, cond-false, ne_eqb, eqb-true}
use Rattle.word_code.specs.declared.word.WordProc.{WordProc}
use Rattle.word_code.specs.Words.{from_proc, is_proc, has_number, are_procs, is_no_hook, have_no_hooks}
use Rattle.word_code.specs.Sizes.{AreRanked}
use Rattle.word_code.specs.Joined.{moved, all_moved, IsFree, AreApart}

-- ---- by number

some_proc : (p : WordProc) (others : List WordProc) → [] ≡ p ∷ others → ⊥
some_proc p others e = cc

-- one of the first
pub found_first : (number : ℕ) (procs others : List WordProc) (p : WordProc) (tail : List WordProc) → from_proc number procs ≡ p ∷ tail
    → from_proc number (procs ++ others) ≡ p ∷ (tail ++ others)
found_first number [] others p tail e = absurd (some_proc p tail e)
found_first number (q ∷ procs) others p tail e = elim (cases_Bool (q.number == number)) [
  | inl t ↦
      cond-true (q.number == number) (q ∷ (procs ++ others)) (from_proc number (procs ++ others)) t
      ∙ ap (λ l. l ++ others) (sym (cond-true (q.number == number) (q ∷ procs) (from_proc number procs) t) ∙ e)
  | inr f ↦
      cond-false (q.number == number) (q ∷ (procs ++ others)) (from_proc number (procs ++ others)) f
      ∙ found_first number procs others p tail (sym (cond-false (q.number == number) (q ∷ procs) (from_proc number procs) f) ∙ e)
]

-- where none of the first has the number
pub found_last : (number : ℕ) (procs others : List WordProc) → IsFree number procs → from_proc number (procs ++ others) ≡ from_proc number others
found_last number [] others free = refl
found_last number (q ∷ procs) others free =
    cond-false (q.number == number) (q ∷ (procs ++ others)) (from_proc number (procs ++ others)) (ne_eqb q.number number free.0)
    ∙ found_last number procs others free.1

-- the number of one of the others is free among procedures that are apart from them
pub free_of : (number : ℕ) (procs others : List WordProc) (p : WordProc) (tail : List WordProc) → from_proc number others ≡ p ∷ tail
    → AreApart procs others → IsFree number procs
free_of number [] others p tail e apart = tt
free_of number (q ∷ procs) others p tail e apart = (λ same. no_such others e apart.0 same, free_of number procs others p tail e apart.1)
  where
    no_such : (others : List WordProc) → from_proc number others ≡ p ∷ tail → IsFree q.number others → q.number ≡ number → ⊥
    no_such [] e free same = some_proc p tail e
    no_such (o ∷ others) e free same = elim (cases_Bool (o.number == number)) [
      | inl t ↦ free.0 (eqb-true o.number number t ∙ sym same)
      | inr f ↦ no_such others (sym (cond-false (o.number == number) (o ∷ others) (from_proc number others) f) ∙ e) free.1 same
    ]

-- ---- what is true of both

moved_number : (n number : ℕ) (procs : List WordProc) → has_number number (all_moved n procs) ≡ has_number number procs
moved_number n number [] = refl
moved_number n number (p ∷ procs) = ap (λ b. (p.number == number) || b) (moved_number n number procs)

pub moved_formed : (n : ℕ) (procs : List WordProc) → are_procs procs ≡ true → are_procs (all_moved n procs) ≡ true
moved_formed n [] h = refl
moved_formed n (p ∷ procs) h =
    let a = and_parts (is_proc p) (not (has_number p.number procs) && are_procs procs) h in
    let b = and_parts (not (has_number p.number procs)) (are_procs procs) a.1 in
    and_from (is_proc p) _ a.0 (and_from (not (has_number p.number (all_moved n procs))) (are_procs (all_moved n procs))
    (ap not (moved_number n p.number procs) ∙ b.0) (moved_formed n procs b.1))

free_number : (number : ℕ) (procs : List WordProc) → IsFree number procs → has_number number procs ≡ false
free_number number [] free = refl
free_number number (p ∷ procs) free =
    ap (λ b. b || has_number number procs) (ne_eqb p.number number free.0) ∙ free_number number procs free.1

or_false : (a b : Bool) → a ≡ false → b ≡ false → (a || b) ≡ false
or_false true b e f = absurd cc
or_false false b e f = f

both_number : (number : ℕ) (procs others : List WordProc) → has_number number procs ≡ false → has_number number others ≡ false
    → has_number number (procs ++ others) ≡ false
both_number number [] others e f = f
both_number number (p ∷ procs) others e f =
    or_false (p.number == number) (has_number number (procs ++ others)) (left (p.number == number) (has_number number procs) e)
    (both_number number procs others (right (p.number == number) (has_number number procs) e) f)
  where
    left : (a b : Bool) → (a || b) ≡ false → a ≡ false
    left true b e = e
    left false b e = refl

    right : (a b : Bool) → (a || b) ≡ false → b ≡ false
    right true b e = absurd cc
    right false b e = e

not_false : (b : Bool) → not b ≡ true → b ≡ false
not_false true e = absurd cc
not_false false e = refl

pub joined_formed : (n : ℕ) (procs others : List WordProc) → AreApart procs others → are_procs procs ≡ true → are_procs others ≡ true
    → are_procs (procs ++ all_moved n others) ≡ true
joined_formed n [] others apart h i = moved_formed n others i
joined_formed n (p ∷ procs) others apart h i =
    let a = and_parts (is_proc p) (not (has_number p.number procs) && are_procs procs) h in
    let b = and_parts (not (has_number p.number procs)) (are_procs procs) a.1 in
    let free = moved_number n p.number others ∙ free_number p.number others apart.0 in
    let none = both_number p.number procs (all_moved n others) (not_false (has_number p.number procs) b.0) free in
    and_from (is_proc p) _ a.0 (and_from (not (has_number p.number (procs ++ all_moved n others))) (are_procs (procs ++ all_moved n others))
    (ap not none) (joined_formed n procs others apart.1 b.1 i))

moved_ranked : (rank : ℕ → ℕ) (n : ℕ) (procs : List WordProc) → AreRanked rank procs → AreRanked rank (all_moved n procs)
moved_ranked rank n [] h = tt
moved_ranked rank n (p ∷ procs) h = (h.0, moved_ranked rank n procs h.1)

pub joined_ranked : (rank : ℕ → ℕ) (n : ℕ) (procs others : List WordProc) → AreRanked rank procs → AreRanked rank others
    → AreRanked rank (procs ++ all_moved n others)
joined_ranked rank n [] others h i = moved_ranked rank n others i
joined_ranked rank n (p ∷ procs) others h i = (h.0, joined_ranked rank n procs others h.1 i)

moved_unhooked : (n : ℕ) (procs : List WordProc) → have_no_hooks procs ≡ true → have_no_hooks (all_moved n procs) ≡ true
moved_unhooked n [] h = refl
moved_unhooked n (p ∷ procs) h =
    let a = and_parts (is_no_hook p.kind) (have_no_hooks procs) h in
    and_from (is_no_hook p.kind) (have_no_hooks (all_moved n procs)) a.0 (moved_unhooked n procs a.1)

pub joined_unhooked : (n : ℕ) (procs others : List WordProc) → have_no_hooks procs ≡ true → have_no_hooks others ≡ true
    → have_no_hooks (procs ++ all_moved n others) ≡ true
joined_unhooked n [] others h i = moved_unhooked n others i
joined_unhooked n (p ∷ procs) others h i =
    let a = and_parts (is_no_hook p.kind) (have_no_hooks procs) h in
    and_from (is_no_hook p.kind) (have_no_hooks (procs ++ all_moved n others)) a.0 (joined_unhooked n procs others a.1 i)

-- How the procedures that are reached are searched.
use Rattle.std.proofs.Common.{◌≡◌, ℕ, zero, suc, ◌+◌, ◌<◌, ◌≤◌, List, [], ◌∷◌, ◌++◌, length, refl, sym, ap, subst, ◌∙◌}
use Rattle.std.proofs.Common.{arith, inl, inr, Option, Some, None, append_assoc}
use Rattle.std.specs.Prelude.{◌⊎◌, Bool, true, false, ◌||◌, nat_eq, slice_get}
use Rattle.std.proofs.lemmas.Bool.{eqb-true}
use Rattle.std.proofs.lemmas.Option.{same_Some}
use Rattle.std.proofs.lemmas.List.{append-nil}
use Rattle.number_sets.specs.Numbers.{is_among, with_number}
use Rattle.number_sets.proofs.ForCallers.{by_either, or_first, or_next, with_is, with_more, with_has, among_at, index_of, get_front}
use Rattle.number_sets.proofs.ForCallers.{below_or_not}
use Rattle.word_code.specs.declared.word.WordInstr.{WordInstr}
use Rattle.word_code.specs.declared.word.WordProc.{WordProc}
use Rattle.word_code.specs.Words.{callee_of, from_proc}
use Rattle.reachable_procs.specs.Reachable.{is_callee, calls, lines_from, IsReached, the_start, a_call, AreReached}
use Rattle.reachable_procs.specs.Search.{with_callee, with_called, Searches}

-- ---- what lines call, among numbers

callee_among : (n : ℕ) (o : Option ℕ) (xs : List ℕ) → is_among n (with_callee o xs) ≡ (is_callee n o || is_among n xs)
callee_among n None xs = refl
callee_among n (Some callee) xs = with_is n callee xs

or_around : (a b c : Bool) → (a || (b || c)) ≡ ((b || a) || c)
or_around true true c = refl
or_around true false c = refl
or_around false true c = refl
or_around false false c = refl

called_among : (n : ℕ) (lines : List WordInstr) (xs : List ℕ) → is_among n (with_called lines xs) ≡ (calls n lines || is_among n xs)
called_among n [] xs = refl
called_among n (line ∷ lines) xs =
    called_among n lines (with_callee (callee_of line) xs)
    ∙ ap (λ b. calls n lines || b) (callee_among n (callee_of line) xs)
    ∙ or_around (calls n lines) (is_callee n (callee_of line)) (is_among n xs)

callee_more : (o : Option ℕ) (xs : List ℕ) → (more : List ℕ) × (with_callee o xs ≡ xs ++ more)
callee_more None xs = ([], sym (append-nil xs))
callee_more (Some callee) xs = with_more callee xs

called_more : (lines : List WordInstr) (xs : List ℕ) → (more : List ℕ) × (with_called lines xs ≡ xs ++ more)
called_more [] xs = ([], sym (append-nil xs))
called_more (line ∷ lines) xs =
    let first = callee_more (callee_of line) xs in
    let next = called_more lines (with_callee (callee_of line) xs) in
    (first.0 ++ next.0, next.1 ∙ ap (λ l. l ++ next.0) first.1 ∙ append_assoc xs first.0 next.0)

-- ---- the search

before : (xs : List ℕ) (i n : ℕ) → slice_get xs i ≡ Some n → i < length xs
before [] i n s = cc
before (x ∷ xs) zero n s = omega arith
before (x ∷ xs) (suc i) n s = omega (arith, before xs i n s)

module _ (procs : List WordProc) where
  pub search_begins : (numbers : List ℕ) → numbers ≡ with_number 0 [] → Searches procs 0 numbers
  search_begins numbers e = record {
    start = ap (is_among 0) e ∙ with_has 0 [];
    only = λ n among. first n (sym (ap (is_among n) e ∙ with_is n 0 []) ∙ among);
    done = λ i caller callee lt. absurd (omega (arith, lt));
  }
    where
      differ : false ≡ true → ⊥
      differ e = cc

      by_first : (n : ℕ) → (nat_eq n 0 ≡ true) ⊎ (false ≡ true) → IsReached procs n
      by_first n (inl h) = subst (IsReached procs) (sym (eqb-true n 0 h)) the_start
      by_first n (inr h) = absurd (differ h)

      first : (n : ℕ) → (nat_eq n 0 || false) ≡ true → IsReached procs n
      first n h = by_first n (by_either (nat_eq n 0) false h)

  pub search_goes_on : (next number : ℕ) (old new : List ℕ) → Searches procs next old → slice_get old next ≡ Some number
      → new ≡ with_called (lines_from (from_proc number procs)) old → Searches procs (next + 1) new
  search_goes_on next number old new h here e = record {
    start = keeps 0 h.start;
    only = λ n among. by_first n (by_either (calls n lines) (is_among n old) (sym (among_is n) ∙ among));
    done = λ i caller callee lt at called. by_place i caller callee at called (below_or_not i next) (omega (arith, lt));
  }
    where
      lines : List WordInstr
      lines = lines_from (from_proc number procs)

      among_is : (n : ℕ) → is_among n new ≡ (calls n lines || is_among n old)
      among_is n = ap (is_among n) e ∙ called_among n lines old

      keeps : (n : ℕ) → is_among n old ≡ true → is_among n new ≡ true
      keeps n among = among_is n ∙ or_next (calls n lines) among

      by_first : (n : ℕ) → (calls n lines ≡ true) ⊎ (is_among n old ≡ true) → IsReached procs n
      by_first n (inl called) = a_call number n (h.only number (among_at old next number here)) called
      by_first n (inr among) = h.only n among

      more : (more : List ℕ) × (new ≡ old ++ more)
      more = let m = called_more lines old in (m.0, e ∙ m.1)

      within : next < length old
      within = before old next number here

      by_place : (i caller callee : ℕ) → slice_get new i ≡ Some caller → calls callee (lines_from (from_proc caller procs)) ≡ true
          → (i < next) ⊎ (next ≤ i) → i ≤ next → is_among callee new ≡ true
      by_place i caller callee at called (inl lt) le =
          keeps callee (h.done i caller callee lt
          (sym (ap (λ l. slice_get l i) more.1 ∙ get_front old more.0 i (omega (arith, lt, within))) ∙ at) called)
      by_place i caller callee at called (inr ge) le =
          let same : i ≡ next = omega (arith, ge, le) in
          let there : slice_get old next ≡ Some caller =
          sym (get_front old more.0 next within) ∙ sym (ap (λ l. slice_get l next) more.1) ∙ sym (ap (slice_get new) same) ∙ at in
          let it : number ≡ caller = same_Some number caller (sym here ∙ there) in
          among_is callee ∙ or_first (is_among callee old) (ap (λ m. calls callee (lines_from (from_proc m procs))) it ∙ called)

  pub search_ends : (next : ℕ) (numbers : List ℕ) → Searches procs next numbers → length numbers ≤ next → AreReached procs numbers
  search_ends next numbers h le = record { all = all; only = h.only }
    where
      all : (n : ℕ) → IsReached procs n → is_among n numbers ≡ true
      all n the_start = h.start
      all n (a_call caller callee reached called) =
          let at = index_of caller numbers (all caller reached) in
          h.done at.0 caller callee (omega (arith, le, before numbers at.0 caller at.1)) at.1 called

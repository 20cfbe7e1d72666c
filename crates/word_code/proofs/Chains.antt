-- What chains of calls take, by what each procedure takes and by the levels that they have.
use Rattle.std.proofs.Common.{◌≡◌, ℕ, zero, suc, ◌+◌, ◌*◌, ◌≤◌, max, List, [], ◌∷◌, length, Bool, true, false, Option, Some, None}
use Rattle.std.proofs.Common.{refl, sym, ap, ◌∙◌, arith, inl, inr, ◌==◌, if◌then◌else◌, mul-suc, mul-le-mul, le_refl}
use Rattle.std.proofs.lemmas.Bool.{cases_Bool, eqb-true, cond-true, cond-false}
use Rattle.word_code.specs.declared.word.WordInstr.{WordInstr}
use Rattle.word_code.specs.declared.word.WordProc.{WordProc}
use Rattle.word_code.specs.Words.{is_counted, from_proc, callee_of, taken_for, most_called, most_chain, uncounted, chain, longest}
use Rattle.word_code.specs.Sizes.{chain_level, AreRanked}

-- ---- each takes at most so much

module _ (taken : ℕ → ℕ) (most : ℕ) (is : (n : ℕ) → taken n ≤ most) where
  for_most : (callee : Option ℕ) → taken_for taken callee ≤ most
  for_most None = omega arith
  for_most (Some n) = is n

  called_most : (lines : List WordInstr) → most_called taken lines ≤ most
  called_most [] = omega arith
  called_most (line ∷ lines) = omega (arith, for_most (callee_of line), called_most lines)

  chain_most : (procs : List WordProc) → most_chain taken procs ≤ most
  chain_most [] = omega arith
  chain_most (p ∷ procs) = omega (arith, called_most p.lines, chain_most procs)

-- ---- each takes at most so many times what it takes by another count

module _ (m : ℕ) where
  both_times : (x y z w : ℕ) → x ≤ m * y → z ≤ m * w → max x z ≤ m * max y w
  both_times x y z w h i =
      let left : y ≤ max y w = omega arith in
      let right : w ≤ max y w = omega arith in
      let a : m * y ≤ m * max y w = mul-le-mul (le_refl m) left in
      let b : m * w ≤ m * max y w = mul-le-mul (le_refl m) right in
      omega (arith, h, i, a, b)

  module _ (a b : ℕ → ℕ) (less : (n : ℕ) → a n ≤ m * b n) where
    for_times : (callee : Option ℕ) → taken_for a callee ≤ m * taken_for b callee
    for_times None = omega arith
    for_times (Some n) = less n

    called_times : (lines : List WordInstr) → most_called a lines ≤ m * most_called b lines
    called_times [] = omega arith
    called_times (line ∷ lines) =
        both_times (taken_for a (callee_of line)) (taken_for b (callee_of line)) (most_called a lines) (most_called b lines)
        (for_times (callee_of line)) (called_times lines)

    chains_times : (procs : List WordProc) → most_chain a procs ≤ m * most_chain b procs
    chains_times [] = omega arith
    chains_times (p ∷ procs) =
        both_times (most_called a p.lines) (most_called b p.lines) (most_chain a procs) (most_chain b procs) (called_times p.lines) (chains_times procs)

-- ---- where each procedure that doesn't count takes at most so much, a chain takes at most that for each of its levels

-- a procedure is found by its number
number_is : (n : ℕ) (procs : List WordProc) (p : WordProc) (tail : List WordProc) → from_proc n procs ≡ p ∷ tail → p.number ≡ n
number_is n [] p tail e = absurd cc
number_is n (q ∷ procs) p tail e = elim (cases_Bool (q.number == n)) [
  | inl t ↦
      let is : q ∷ procs ≡ p ∷ tail = sym (cond-true (q.number == n) (q ∷ procs) (from_proc n procs) t) ∙ e in
      let first : q ≡ p = cc in
      ap (λ x. x.number) (sym first) ∙ eqb-true q.number n t
  | inr f ↦ number_is n procs p tail (sym (cond-false (q.number == n) (q ∷ procs) (from_proc n procs) f) ∙ e)
]

module _ (procs : List WordProc) (size : WordProc → ℕ) (m : ℕ)
    (each : (p : WordProc) (tail : List WordProc) → from_proc p.number procs ≡ p ∷ tail → is_counted p.kind ≡ false → size p ≤ m) where
  found_times : (a b : ℕ → ℕ) → ((n : ℕ) → a n ≤ m * b n) → (n : ℕ) (found : List WordProc) → from_proc n procs ≡ found →
      uncounted size a found ≤ m * uncounted chain_level b found
  found_times a b less n [] e = omega arith
  found_times a b less n (p ∷ tail) e = by_count (is_counted p.kind) refl
    where
      found : from_proc p.number procs ≡ p ∷ tail
      found = ap (λ k. from_proc k procs) (number_is n procs p tail e) ∙ e

      by_count : (c : Bool) → is_counted p.kind ≡ c →
          (if c then 0 else size p + most_called a p.lines) ≤ m * (if c then 0 else 1 + most_called b p.lines)
      by_count true f = omega arith
      by_count false f =
          let behind = called_times m a b less p.lines in
          let one : 1 + most_called b p.lines ≡ suc (most_called b p.lines) = omega arith in
          let split : m * (1 + most_called b p.lines) ≡ m * most_called b p.lines + m = ap (λ k. m * k) one ∙ mul-suc m (most_called b p.lines) in
          omega (arith, each p tail found f, behind, split)

  chain_times : (n number : ℕ) → chain procs size n number ≤ m * chain procs chain_level n number
  chain_times zero number = omega arith
  chain_times (suc n) number = found_times (chain procs size n) (chain procs chain_level n) (chain_times n) number (from_proc number procs) refl

  pub longest_times : longest procs size ≤ m * longest procs chain_level
  longest_times = chains_times m (chain procs size (length procs)) (chain procs chain_level (length procs)) (chain_times (length procs)) procs

-- ---- levels

module _ (rank : ℕ → ℕ) where
  -- so it has at most the levels of its rank, where what it calls has no more than those of theirs
  ranked_found : (behind : ℕ → ℕ) → ((n : ℕ) → behind n ≤ rank n) → (number : ℕ) (procs : List WordProc) → AreRanked rank procs →
      uncounted chain_level behind (from_proc number procs) ≤ rank number
  ranked_found behind less number [] h = omega arith
  ranked_found behind less number (p ∷ procs) h = by_number (p.number == number) refl (ranked_found behind less number procs h.1)
    where
      by_count : (c : Bool) → is_counted p.kind ≡ c → p.number ≡ number → (if c then 0 else 1 + most_called behind p.lines) ≤ rank number
      by_count true f e = omega arith
      by_count false f e =
          let once : (n : ℕ) → behind n ≤ 1 * rank n = λ n. omega (arith, less n) in
          omega (arith, called_times 1 behind rank once p.lines, h.0 f, ap rank e)

      by_number : (b : Bool) → (p.number == number) ≡ b → uncounted chain_level behind (from_proc number procs) ≤ rank number →
          uncounted chain_level behind (if b then p ∷ procs else from_proc number procs) ≤ rank number
      by_number true e more = by_count (is_counted p.kind) refl (eqb-true p.number number e)
      by_number false e more = more

  module _ (procs : List WordProc) (ranked : AreRanked rank procs) where
    chain_rank : (n number : ℕ) → chain procs chain_level n number ≤ rank number
    chain_rank zero number = omega arith
    chain_rank (suc n) number = ranked_found (chain procs chain_level n) (chain_rank n) number procs ranked

    pub levels_most : (most : ℕ) → ((n : ℕ) → rank n ≤ most) → (n : ℕ) → most_chain (chain procs chain_level n) procs ≤ most
    levels_most most few n = chain_most (chain procs chain_level n) most (λ k. omega (arith, chain_rank n k, few k)) procs

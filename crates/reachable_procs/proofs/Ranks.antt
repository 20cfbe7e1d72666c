-- Procedures that don't count call each other in no circle, if each calls only what has a lower rank: a chain from one has at most as many levels as
-- there are procedures of its rank or a lower one.
use Rattle.std.proofs.Common.{◌≡◌, ℕ, zero, suc, ◌+◌, ◌≤◌, ◌<◌, List, [], ◌∷◌, length, Bool, true, false, Option, Some, None}
use Rattle.std.proofs.Common.{refl, sym, ap, subst, ◌∙◌, arith}
use Rattle.std.specs.Prelude.{nat_le, ◌==◌, if◌then◌else◌}
use Rattle.std.proofs.lemmas.Bool.{eqb-true, leb-true, le-leb}
use Rattle.word_code.specs.declared.word.WordInstr.{WordInstr}
use Rattle.word_code.specs.declared.word.WordProc.{WordProc}
use Rattle.word_code.specs.Words.{is_counted, from_proc, callee_of, taken_for, most_called, most_chain, uncounted, chain}
use Rattle.word_code.specs.Sizes.{chain_level, AreRanked, has_no_circle}

-- each of these lines calls what takes at most so much
called_most : (taken : ℕ → ℕ) (most : ℕ) → ((n : ℕ) → taken n ≤ most) → (lines : List WordInstr) → most_called taken lines ≤ most
called_most taken most is [] = omega arith
called_most taken most is (line ∷ lines) = omega (arith, for_most (callee_of line), called_most taken most is lines)
  where
    for_most : (callee : Option ℕ) → taken_for taken callee ≤ most
    for_most None = omega arith
    for_most (Some n) = is n

chain_most : (taken : ℕ → ℕ) (most : ℕ) → ((n : ℕ) → taken n ≤ most) → (procs : List WordProc) → most_chain taken procs ≤ most
chain_most taken most is [] = omega arith
chain_most taken most is (p ∷ procs) = omega (arith, called_most taken most is p.lines, chain_most taken most is procs)

abbrev one_more : Bool → ℕ → ℕ
one_more true n = suc n
one_more false n = n

differ : false ≡ true → ⊥
differ e = cc

more_behind : (b c : Bool) (m n : ℕ) → (b ≡ true → c ≡ true) → suc m ≤ n → suc (one_more b m) ≤ one_more c n
more_behind true true m n h le = omega (arith, le)
more_behind true false m n h le = absurd (differ (h refl))
more_behind false true m n h le = omega (arith, le)
more_behind false false m n h le = le

more_grows : (b c : Bool) (m n : ℕ) → (b ≡ true → c ≡ true) → m ≤ n → one_more b m ≤ one_more c n
more_grows true true m n h le = omega (arith, le)
more_grows true false m n h le = absurd (differ (h refl))
more_grows false true m n h le = omega (arith, le)
more_grows false false m n h le = le

module _ (rank : ℕ → ℕ) where
  -- how many of the procedures have that rank or a lower one
  abbrev lower : ℕ → List WordProc → ℕ
  lower r [] = 0
  lower r (p ∷ procs) = one_more (nat_le (rank p.number) r) (lower r procs)

  lower_few : (r : ℕ) (procs : List WordProc) → lower r procs ≤ length procs
  lower_few r [] = omega arith
  lower_few r (p ∷ procs) = by (nat_le (rank p.number) r) (lower_few r procs)
    where
      by : (b : Bool) → lower r procs ≤ length procs → one_more b (lower r procs) ≤ suc (length procs)
      by true le = omega (arith, le)
      by false le = omega (arith, le)

  still_lower : (n r s : ℕ) → r ≤ s → nat_le n r ≡ true → nat_le n s ≡ true
  still_lower n r s le h = le-leb n s (omega (arith, le, leb-true n r h))

  lower_grows : (r s : ℕ) (procs : List WordProc) → r ≤ s → lower r procs ≤ lower s procs
  lower_grows r s [] le = omega arith
  lower_grows r s (p ∷ procs) le =
      more_grows (nat_le (rank p.number) r) (nat_le (rank p.number) s) (lower r procs) (lower s procs) (still_lower (rank p.number) r s le)
      (lower_grows r s procs le)

  -- a procedure of a rank is one more than those of a lower one
  lower_more : (n r : ℕ) (procs : List WordProc) (p : WordProc) (tail : List WordProc) → from_proc n procs ≡ p ∷ tail → r < rank p.number
      → suc (lower r procs) ≤ lower (rank p.number) procs
  lower_more n r [] p tail e lt = absurd (none e)
    where
      none : [] ≡ p ∷ tail → ⊥
      none e = cc
  lower_more n r (q ∷ procs) p tail e lt = by (q.number == n) e (lower_more n r procs p tail)
    where
      same : q ∷ procs ≡ p ∷ tail → q ≡ p
      same e = cc

      above : (b c : Bool) → nat_le (rank p.number) r ≡ b → nat_le (rank p.number) (rank p.number) ≡ c
          → suc (one_more b (lower r procs)) ≤ one_more c (lower (rank p.number) procs)
      above true c f g = absurd (omega (arith, lt, leb-true (rank p.number) r f))
      above false true f g = let grows = lower_grows r (rank p.number) procs (omega (arith, lt)) in omega (arith, grows)
      above false false f g = absurd (differ (sym g ∙ le-leb (rank p.number) (rank p.number) (omega arith)))

      first : q ≡ p → suc (lower r (q ∷ procs)) ≤ lower (rank p.number) (q ∷ procs)
      first f = subst (λ (x : WordProc). suc (lower r (x ∷ procs)) ≤ lower (rank p.number) (x ∷ procs)) (sym f)
          (above (nat_le (rank p.number) r) (nat_le (rank p.number) (rank p.number)) refl refl)

      by : (b : Bool) → (if b then q ∷ procs else from_proc n procs) ≡ p ∷ tail
          → (from_proc n procs ≡ p ∷ tail → r < rank p.number → suc (lower r procs) ≤ lower (rank p.number) procs)
          → suc (lower r (q ∷ procs)) ≤ lower (rank p.number) (q ∷ procs)
      by true f rest = first (same f)
      by false f rest = more_behind (nat_le (rank q.number) r) (nat_le (rank q.number) (rank p.number)) (lower r procs) (lower (rank p.number) procs)
          (still_lower (rank q.number) r (rank p.number) (omega (arith, lt))) (rest f lt)

  ranked_at : (n : ℕ) (procs : List WordProc) (p : WordProc) (tail : List WordProc) → from_proc n procs ≡ p ∷ tail → AreRanked rank procs
      → (is_counted p.kind ≡ false → suc (most_called rank p.lines) ≤ rank p.number) × (p.number ≡ n)
  ranked_at n [] p tail e h = absurd (none e)
    where
      none : [] ≡ p ∷ tail → ⊥
      none e = cc
  ranked_at n (q ∷ procs) p tail e h = by (q.number == n) refl e (ranked_at n procs p tail)
    where
      same : q ∷ procs ≡ p ∷ tail → q ≡ p
      same e = cc

      by : (b : Bool) → (q.number == n) ≡ b → (if b then q ∷ procs else from_proc n procs) ≡ p ∷ tail
          → (from_proc n procs ≡ p ∷ tail → AreRanked rank procs
          → (is_counted p.kind ≡ false → suc (most_called rank p.lines) ≤ rank p.number) × (p.number ≡ n))
          → (is_counted p.kind ≡ false → suc (most_called rank p.lines) ≤ rank p.number) × (p.number ≡ n)
      by true t f rest = subst (λ (x : WordProc). (is_counted x.kind ≡ false → suc (most_called rank x.lines) ≤ rank x.number) × (x.number ≡ n)) (same f)
          (h.0, eqb-true q.number n t)
      by false t f rest = rest f h.1

  module _ (procs : List WordProc) (ranked : AreRanked rank procs) where
    -- what these lines call takes at most so much, if it is of no higher rank
    called_few : (taken : ℕ → ℕ) → ((n : ℕ) → taken n ≤ lower (rank n) procs) → (most : ℕ) (lines : List WordInstr) → most_called rank lines ≤ most
        → most_called taken lines ≤ lower most procs
    called_few taken is most [] le = omega arith
    called_few taken is most (line ∷ lines) le =
        omega (arith, for_few (callee_of line) (omega (arith, le)), called_few taken is most lines (omega (arith, le)))
      where
        for_few : (callee : Option ℕ) → taken_for rank callee ≤ most → taken_for taken callee ≤ lower most procs
        for_few None le = omega arith
        for_few (Some n) le = let grows = lower_grows (rank n) most procs le in omega (arith, is n, grows)

    chain_few : (n number : ℕ) → chain procs chain_level n number ≤ lower (rank number) procs
    chain_few zero number = omega arith
    chain_few (suc n) number = by (from_proc number procs) refl (chain_few n)
      where
        by : (found : List WordProc) → from_proc number procs ≡ found → ((m : ℕ) → chain procs chain_level n m ≤ lower (rank m) procs)
            → uncounted chain_level (chain procs chain_level n) found ≤ lower (rank number) procs
        by [] e is = omega arith
        by (p ∷ tail) e is = by_count (is_counted p.kind) refl
          where
            at : (is_counted p.kind ≡ false → suc (most_called rank p.lines) ≤ rank p.number) × (p.number ≡ number)
            at = ranked_at number procs p tail e ranked

            by_count : (c : Bool) → is_counted p.kind ≡ c
                → (if c then 0 else 1 + most_called (chain procs chain_level n) p.lines) ≤ lower (rank number) procs
            by_count true f = omega arith
            by_count false f =
                let few = called_few (chain procs chain_level n) is (most_called rank p.lines) p.lines (omega arith) in
                let more = lower_more number (most_called rank p.lines) procs p tail e (omega (arith, at.0 f)) in
                let same : lower (rank p.number) procs ≡ lower (rank number) procs = ap (λ m. lower (rank m) procs) at.1 in
                omega (arith, few, more, same)

    pub ranked_no_circle : has_no_circle procs ≡ true
    ranked_no_circle =
        le-leb (most_chain (chain procs chain_level (suc (length procs))) procs) (length procs)
        (chain_most (chain procs chain_level (suc (length procs))) (length procs)
        (λ m. let few = lower_few (rank m) procs in omega (arith, chain_few (suc (length procs)) m, few)) procs)

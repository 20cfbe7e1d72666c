-- How much of the stack calls may take yet.
use Rattle.std.proofs.Common.{◌≡◌, ℕ, zero, suc, ◌+◌, ◌%◌, ◌≤◌, List, [], ◌∷◌, ◌++◌, length, Bool, true}
use Rattle.std.proofs.Common.{false, Option, Some, None, refl, sym, ap, subst, ◌∙◌, arith}
use Rattle.std.proofs.Common.{inl, inr}
use Rattle.std.specs.Prelude.{◌==◌, nat_le, if◌then◌else◌}
use Rattle.std.proofs.lemmas.Bool.{cases_Bool, and_parts, leb-true, cond-false}
use Rattle.word_code.specs.declared.word.WordInstr.{WordInstr}
use Rattle.word_code.specs.declared.word.WordInstr.TheVariants as word
use Rattle.word_code.specs.declared.word.WordProc.{WordProc}
use Rattle.word_code.specs.Words.{is_counted, from_proc, callee_of, taken_for, most_called, most_chain, uncounted, chain}
use Rattle.word_code.specs.Words.{is_kind, is_proc, are_procs}
use Rattle.word_code.specs.Sizes.{chain_level, has_no_circle}
use Rattle.rv32_codegen.proofs.Lookups.{nil_cons, here, later}

-- ---- what lines call

-- what is called takes at most so much
called_in : (taken : ℕ → ℕ) (before : List WordInstr) (to callee : ℕ) (rest : List WordInstr) →
    taken callee ≤ most_called taken (before ++ word.Call to callee ∷ rest)
called_in taken [] to callee rest = omega arith
called_in taken (l ∷ before) to callee rest = omega (arith, called_in taken before to callee rest)

-- where what is called takes no more, all takes no more: that of chains that are short enough
for_less : (a b short : ℕ → ℕ) (n : ℕ) (o : Option ℕ) → ((m : ℕ) → short m ≤ n → a m ≤ b m) → taken_for short o ≤ n →
    taken_for a o ≤ taken_for b o
for_less a b short n None h e = omega arith
for_less a b short n (Some m) h e = h m e

most_less : (a b short : ℕ → ℕ) (n : ℕ) → ((m : ℕ) → short m ≤ n → a m ≤ b m) → (lines : List WordInstr) →
    most_called short lines ≤ n →
    most_called a lines ≤ most_called b lines
most_less a b short n h [] e = omega arith
most_less a b short n h (l ∷ lines) e =
    let first = for_less a b short n (callee_of l) h (omega (arith, e)) in
    let more = most_less a b short n h lines (omega (arith, e)) in
    omega (arith, first, more)

-- what a procedure needs is in the longest chain
pub need_most : (taken : ℕ → ℕ) (n : ℕ) (procs : List WordProc) (q : WordProc) (tail : List WordProc) → from_proc n procs ≡ q ∷ tail →
    most_called taken q.lines ≤ most_chain taken procs
need_most taken n [] q tail e = absurd (nil_cons q tail e)
need_most taken n (p ∷ procs) q tail e = elim (cases_Bool (p.number == n)) [
  | inl t ↦ let is = here n p procs q tail t e in omega (arith, ap (λ x. most_called taken x.lines) is.first)
  | inr f ↦ omega (arith, need_most taken n procs q tail (later n p procs q tail f e))
]

-- ---- chains

-- the first procedure counts, or the chain behind it is one shorter
short_found : (short : ℕ → ℕ) (n : ℕ) (q : WordProc) (tail found : List WordProc) → found ≡ q ∷ tail → is_counted q.kind ≡ false →
    uncounted chain_level short found ≤ suc n → most_called short q.lines ≤ n
short_found short n q tail found e f h =
    let is = ap (uncounted chain_level short) e ∙ cond-false (is_counted q.kind) 0 (1 + most_called short q.lines) f in
    omega (arith, is, h)

module _ (procs : List WordProc) (size : WordProc → ℕ) where
  abbrev takes : ℕ → ℕ → ℕ
  takes n = chain procs size n

  -- a chain that ends takes no more where it may be longer
  stable_at : (a b short : ℕ → ℕ) (n : ℕ) → ((lines : List WordInstr) → most_called short lines ≤ n →
      most_called a lines ≤ most_called b lines) →
      (found : List WordProc) → uncounted chain_level short found ≤ suc n → uncounted size a found ≤ uncounted size b found
  stable_at a b short n h [] e = omega arith
  stable_at a b short n h (p ∷ ps) e = by_count (is_counted p.kind) e
    where
      by_count : (c : Bool) → (if c then 0 else 1 + most_called short p.lines) ≤ suc n →
          (if c then 0 else size p + most_called a p.lines) ≤ (if c then 0 else size p + most_called b p.lines)
      by_count true e = omega arith
      by_count false e = omega (arith, h p.lines (omega (arith, e)))

  none_at : (a short : ℕ → ℕ) (found : List WordProc) → uncounted chain_level short found ≤ 0 → uncounted size a found ≤ 0
  none_at a short [] e = omega arith
  none_at a short (p ∷ ps) e = by_count (is_counted p.kind) e
    where
      by_count : (c : Bool) → (if c then 0 else 1 + most_called short p.lines) ≤ 0 → (if c then 0 else size p + most_called a p.lines) ≤ 0
      by_count true e = omega arith
      by_count false e = absurd (omega (arith, e))

  stable : (n number : ℕ) → chain procs chain_level (suc n) number ≤ n → takes (suc n) number ≤ takes n number
  stable zero number e = none_at (takes zero) (chain procs chain_level zero) (from_proc number procs) e
  stable (suc n) number e =
      let short = chain procs chain_level (suc n) in
      stable_at (takes (suc n)) (takes n) short n (most_less (takes (suc n)) (takes n) short n (stable n)) (from_proc number procs) e

  takes_found : (n : ℕ) (q : WordProc) (tail found : List WordProc) → found ≡ q ∷ tail → is_counted q.kind ≡ false →
      uncounted size (takes n) found ≡ size q + most_called (takes n) q.lines
  takes_found n q tail found e f =
      ap (uncounted size (takes n)) e ∙ cond-false (is_counted q.kind) 0 (size q + most_called (takes n) q.lines) f

  abbrev pub need : WordProc → ℕ
  need p = most_called (takes (length procs)) p.lines

  -- what a procedure that doesn't count takes is in what its caller needs
  pub chain_fits : (p q : WordProc) (ptail qtail : List WordProc) (before : List WordInstr) (to callee : ℕ) (rest : List WordInstr) →
      has_no_circle procs ≡ true → from_proc p.number procs ≡ p ∷ ptail → before ++ word.Call to callee ∷ rest ≡ p.lines →
      from_proc callee procs ≡ q ∷ qtail → is_counted q.kind ≡ false → size q + need q ≤ need p
  chain_fits p q ptail qtail before to callee rest circle found split there f = by_count (length procs) refl
    where
      none : (ps : List WordProc) → length ps ≡ 0 → from_proc p.number ps ≡ []
      none [] e = refl
      none (x ∷ ps) e = absurd (omega (arith, e))

      by_count : (n : ℕ) → length procs ≡ n → size q + need q ≤ need p
      by_count zero e = absurd (nil_cons p ptail (sym (none procs e) ∙ found))
      by_count (suc n) e =
          let short = chain procs chain_level (suc n) in
          let longer = chain procs chain_level (suc (suc n)) in
          let in_lines : (taken : ℕ → ℕ) → taken callee ≤ most_called taken p.lines = λ taken.
          subst (λ l. taken callee ≤ most_called taken l) split (called_in taken before to callee rest) in
          let most : most_chain (chain procs chain_level (suc (suc n))) procs ≤ suc n =
          subst (λ k. most_chain (chain procs chain_level (suc k)) procs ≤ k) e (leb-true _ _ circle) in
          let behind : chain procs chain_level (suc (suc n)) callee ≤ suc n =
          omega (arith, most, in_lines longer, need_most longer p.number procs p ptail found) in
          let own = short_found short n q qtail (from_proc callee procs) there f behind in
          let less = most_less (takes (suc n)) (takes n) short n (stable n) q.lines own in
          let is = takes_found n q qtail (from_proc callee procs) there f in
          let all : size q + most_called (takes (suc n)) q.lines ≤ most_called (takes (suc n)) p.lines = omega (arith, less, is, in_lines (takes (suc n)))
          in
          subst (λ k. size q + most_called (takes k) q.lines ≤ most_called (takes k) p.lines) (sym e) all

-- ---- parts of what is said of procedures

pub proc_parts : (p : WordProc) (procs : List WordProc) → are_procs (p ∷ procs) ≡ true → (is_proc p ≡ true) × (are_procs procs ≡ true)
proc_parts p procs h =
    let a = and_parts (is_proc p) _ h in
    (a.0, (and_parts _ (are_procs procs) a.1).1)

pub kind_known : (p : WordProc) → is_proc p ≡ true → is_kind p.kind ≡ true
kind_known p h =
    let a = (and_parts (nat_le p.params p.vars) _ h).1 in
    let b = (and_parts (nat_le p.vars _) _ a).1 in
    (and_parts (is_kind p.kind) _ (and_parts (p.room % 4 == 0) _ b).1).0

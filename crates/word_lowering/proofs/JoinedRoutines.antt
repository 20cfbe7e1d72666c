-- A program's word code with all routines: its procedures are found behind those of the heap, and all that is joined is joined in any order.
use Rattle.std.proofs.Common.{◌≡◌, ◌⊎◌, inl, inr, ℕ, ◌+◌, ◌≤◌, List, [], ◌∷◌, ◌++◌, length, length-append, append_assoc}
use Rattle.std.proofs.Common.{refl, sym, ap, ap₂, ◌∙◌, arith}
use Rattle.std.specs.Prelude.{◌==◌}
use Rattle.std.proofs.lemmas.Bool.{cases_Bool, cond-true, cond-false}
use Rattle.word_code.specs.declared.routine.TheConstants.{PROCS_FROM}
use Rattle.word_code.specs.declared.word.WordProc.{WordProc}
use Rattle.word_code.specs.declared.word.WordCode.{WordCode}
use Rattle.word_code.specs.Joined.{moved, all_moved, joined, IsFree, AreApart}
use Rattle.word_code.specs.Runtime.{AreRoutines}
use Rattle.word_code.specs.Words.{from_proc}
use Rattle.word_code.proofs.ForCallers.{found_first, found_last}
use Rattle.heap_memory.specs.declared.numbers.TheConstants.{HEAP_DATA}
use Rattle.word_lowering.specs.Runtimes.{Runtimes, with_runtimes}

-- ---- procedures by their numbers

no_proc : (p : WordProc) (tail : List WordProc) → [] ≡ p ∷ tail → ⊥
no_proc p tail e = cc

found_moved : (n number : ℕ) (procs : List WordProc) (p : WordProc) (tail : List WordProc) → from_proc number procs ≡ p ∷ tail
    → from_proc number (all_moved n procs) ≡ moved n p ∷ all_moved n tail
found_moved n number [] p tail e = absurd (no_proc p tail e)
found_moved n number (q ∷ procs) p tail e = elim (cases_Bool (q.number == number)) [
  | inl t ↦
      cond-true (q.number == number) (moved n q ∷ all_moved n procs) (from_proc number (all_moved n procs)) t
      ∙ ap (all_moved n) (sym (cond-true (q.number == number) (q ∷ procs) (from_proc number procs) t) ∙ e)
  | inr f ↦
      cond-false (q.number == number) (moved n q ∷ all_moved n procs) (from_proc number (all_moved n procs)) f
      ∙ found_moved n number procs p tail (sym (cond-false (q.number == number) (q ∷ procs) (from_proc number procs) f) ∙ e)
]

-- the start code's number and those beyond the routines' are free among these
pub beyond : (n : ℕ) (rs : List WordProc) → AreRoutines rs → (n ≡ 0) ⊎ (PROCS_FROM ≤ n) → IsFree n rs
beyond n [] are h = tt
beyond n (r ∷ rs) are h = (λ e. by e h, beyond n rs are.1 h)
  where
    by : r.number ≡ n → (n ≡ 0) ⊎ (PROCS_FROM ≤ n) → ⊥
    by e (inl z) = let first = are.0.first in absurd (omega (arith, first, e, z))
    by e (inr far) = let last = are.0.last in absurd (omega (arith, last, e, far))

pub both_apart : (ps qs rs : List WordProc) (n : ℕ) → AreApart ps rs → AreApart qs rs → AreApart (ps ++ all_moved n qs) rs
both_apart [] [] rs n h i = tt
both_apart [] (q ∷ qs) rs n h i = (i.0, both_apart [] qs rs n h i.1)
both_apart (p ∷ ps) qs rs n h i = (h.0, both_apart ps qs rs n h.1 i)

module _ (r : Runtimes) (code : WordCode) where
  -- the procedures behind one that is found
  abbrev pub behind_found : List WordProc → List WordProc
  behind_found tail = all_moved HEAP_DATA tail ++ all_moved (length (joined r.heap code).statics) r.others.procs

  pub found_own : (number : ℕ) (p : WordProc) (tail : List WordProc) → (number ≡ 0) ⊎ (PROCS_FROM ≤ number) → from_proc number code.procs ≡ p ∷ tail
      → from_proc number (with_runtimes r code).procs ≡ moved HEAP_DATA p ∷ behind_found tail
  found_own number p tail far e =
      found_first number (joined r.heap code).procs (all_moved (length (joined r.heap code).statics) r.others.procs) (moved HEAP_DATA p)
      (all_moved HEAP_DATA tail)
      (found_last number r.heap.procs (all_moved (length r.heap.statics) code.procs) (beyond number r.heap.procs r.is_heap.routines far)
      ∙ ap (λ n. from_proc number (all_moved n code.procs)) r.is_heap.long ∙ found_moved HEAP_DATA number code.procs p tail e)

-- ---- in any order

moved_again : (n k : ℕ) (procs : List WordProc) → all_moved n (all_moved k procs) ≡ all_moved (n + k) procs
moved_again n k [] = refl
moved_again n k (p ∷ procs) =
    let e : n + (k + p.data_from) ≡ n + k + p.data_from = omega arith in
    ap₂ (λ d ps. record p { data_from = d } ∷ ps) e (moved_again n k procs)

pub moved_both : (n : ℕ) (procs others : List WordProc) → all_moved n (procs ++ others) ≡ all_moved n procs ++ all_moved n others
moved_both n [] others = refl
moved_both n (p ∷ procs) others = ap (λ ps. moved n p ∷ ps) (moved_both n procs others)

pub joined_again : (a b c : WordCode) → joined (joined a b) c ≡ joined a (joined b c)
joined_again a b c =
    ap₂ (λ ps bytes. record { procs = ps; statics = bytes }) procs (append_assoc a.statics b.statics c.statics)
  where
    behind : all_moved (length (a.statics ++ b.statics)) c.procs ≡ all_moved (length a.statics) (all_moved (length b.statics) c.procs)
    behind = ap (λ n. all_moved n c.procs) (length-append a.statics b.statics) ∙ sym (moved_again (length a.statics) (length b.statics) c.procs)

    procs : (joined (joined a b) c).procs ≡ (joined a (joined b c)).procs
    procs =
        append_assoc a.procs (all_moved (length a.statics) b.procs) (all_moved (length (a.statics ++ b.statics)) c.procs)
        ∙ ap (λ ps. a.procs ++ ps) (ap (λ ps. all_moved (length a.statics) b.procs ++ ps) behind
        ∙ sym (moved_both (length a.statics) b.procs (all_moved (length b.statics) c.procs)))

-- All routines together: no number is in both, and one rank serves both.
use Rattle.std.proofs.Common.{◌≡◌, ◌≢◌, ℕ, ◌≤◌, List, [], ◌∷◌, Bool, true, false, not, refl, sym, subst, ◌∙◌, arith}
use Rattle.std.specs.Prelude.{◌==◌, ◌&&◌, ◌||◌}
use Rattle.std.proofs.lemmas.Bool.{and_parts, eq-eqb, true≢false}
use Rattle.word_code.specs.declared.word.WordProc.{WordProc}
use Rattle.word_code.specs.declared.word.WordCode.{WordCode}
use Rattle.word_code.specs.Joined.{IsFree, AreApart}
use Rattle.word_code.specs.Sizes.{AreRanked}
use Rattle.word_code.specs.Words.{has_number, most_called}
use Rattle.word_code.proofs.ForCallers.{MemoryLaw}
use Rattle.refc_runtime.specs.BothRuntimes.{AreRuntimes}
use Rattle.refc_runtime.specs.Code.{routines, statics}
use Rattle.refc_runtime.specs.HeapCode.{heap_routines, heap_statics, heap_code}
use Rattle.refc_runtime.proofs.HeapWhole.{rank, heap_runtime_is, heap_ranked, rank_most}
use Rattle.refc_runtime.proofs.Whole.{runtime_is}

-- ---- numbers

free_by : (number : ℕ) (procs : List WordProc) → has_number number procs ≡ false → IsFree number procs
free_by number [] h = tt
free_by number (p ∷ procs) h = by (p.number == number) (has_number number procs) refl refl h (λ e. free_by number procs e)
  where
    by : (a b : Bool) → (p.number == number) ≡ a → has_number number procs ≡ b → (a || b) ≡ false
        → (has_number number procs ≡ false → IsFree number procs) → IsFree number (p ∷ procs)
    by true b e f h rest = absurd (true≢false h)
    by false b e f h rest = ((λ is. absurd (true≢false (sym (eq-eqb p.number number is) ∙ e))), rest (f ∙ h))

abbrev none_in : List WordProc → List WordProc → Bool
none_in [] others = true
none_in (p ∷ procs) others = not (has_number p.number others) && none_in procs others

not_there : (b : Bool) → not b ≡ true → b ≡ false
not_there true h = absurd (true≢false (sym h))
not_there false h = refl

apart_by : (procs others : List WordProc) → none_in procs others ≡ true → AreApart procs others
apart_by [] others h = tt
apart_by (p ∷ procs) others h =
    let a = and_parts (not (has_number p.number others)) (none_in procs others) h in
    (free_by p.number others (not_there (has_number p.number others) a.0), apart_by procs others a.1)

-- ---- ranks

-- they call nothing
abbrev CallNothing : List WordProc → Type 0
CallNothing [] = Unit {0}
CallNothing (p ∷ procs) = (most_called rank p.lines ≡ 0) × (1 ≤ rank p.number) × CallNothing procs

ranked_by : (procs : List WordProc) → CallNothing procs → AreRanked rank procs
ranked_by [] h = tt
ranked_by (p ∷ procs) h = (λ uncounted. omega (arith, h.0, h.1), ranked_by procs h.2)

others_call : CallNothing routines
others_call = (
  refl,
  omega arith,
  (
    refl,
    omega arith,
    (
      refl,
      omega arith,
      (
        refl,
        omega arith,
        (
          refl,
          omega arith,
          (
            refl,
            omega arith,
            (refl, omega arith, (refl, omega arith, (refl, omega arith, (refl, omega arith, tt)))),
          ),
        ),
      ),
    ),
  ),
)

pub both_are : MemoryLaw → (heap : WordCode) (procs : List WordProc) (bytes : List ℕ) → heap ≡ heap_code → procs ≡ routines → bytes ≡ statics
    → AreRuntimes heap (record { procs = procs; statics = bytes })
both_are law heap procs bytes is_heap are is =
    subst (λ h. AreRuntimes h (record { procs = procs; statics = bytes })) (sym is_heap)
    (subst (λ ps. AreRuntimes heap_code (record { procs = ps; statics = bytes })) (sym are) (record {
      is_heap = heap_runtime_is law heap_routines heap_statics refl refl;
      is_others = runtime_is law routines bytes refl is;
      apart = apart_by heap_routines routines refl;
      rank = rank;
      heap_ranked = heap_ranked;
      others_ranked = ranked_by routines others_call;
      chain = rank_most;
      heap_calls = refl;
      others_calls = refl;
    }))

-- Hooks of types are among all procedures.
use Rattle.std.proofs.Common.{◌≡◌, inr, ℕ, suc, ◌+◌, ◌<◌, ◌≤◌, Bool, true, false, List, [], ◌∷◌, ◌++◌, length, append_assoc, sym, ap, subst, ◌∙◌, arith}
use Rattle.nim_types.specs.declared.types.TypeDef.{TypeDef}
use Rattle.flat_code.specs.declared.block.BlockLine.{BlockLine}
use Rattle.flat_code.specs.declared.code.Code.{Code}
use Rattle.flat_code.specs.declared.code.CodeProc.{CodeProc}
use Rattle.word_code.specs.declared.word.WordProc.{WordProc}
use Rattle.word_code.specs.Joined.{all_moved, joined, IsFree}
use Rattle.hook_code.specs.HookCode.{procs_in}
use Rattle.hook_code.specs.Kept.{AreThere, CutsAreThere}
use Rattle.word_lowering.specs.declared.homes.Layout.{Layout}
use Rattle.word_lowering.specs.LineCode.{Around, proc_number, first_hook}
use Rattle.word_lowering.specs.Lowered.{if_runs, word_procs, lowered_procs, start_around, all_layouts, lowered}
use Rattle.word_lowering.specs.Runtimes.{Runtimes, with_runtimes}
use Rattle.word_lowering.proofs.JoinedRoutines.{beyond, moved_both}
use Rattle.word_lowering.proofs.HookProcs.{HookLaws}

-- ---- block code's procedures have smaller numbers

abbrev NumbersBelow : ℕ → List WordProc → Type 0
NumbersBelow last [] = Unit {0}
NumbersBelow last (p ∷ procs) = (p.number < last) × NumbersBelow last procs

below_if : (last : ℕ) (runs : Bool) (p : WordProc) (procs : List WordProc) → p.number < last → NumbersBelow last procs
    → NumbersBelow last (if_runs runs p procs)
below_if last true p procs less rest = (less, rest)
below_if last false p procs less rest = rest

procs_below : (last : ℕ) (x : Around) (index : ℕ) (owns : List Layout) (procs : List (CodeProc BlockLine)) → proc_number index + length procs ≤ last
    → NumbersBelow last (word_procs x index owns procs)
procs_below last x index owns [] le = tt
procs_below last x index [] (p ∷ procs) le = tt
procs_below last x index (own ∷ owns) (p ∷ []) le = tt
procs_below last x index (own ∷ owns) (p ∷ q ∷ ps) le =
    below_if last own.runs _ _ (omega (arith, le)) (procs_below last x (suc index) owns (q ∷ ps) (omega (arith, le)))

below_free : (n last k : ℕ) (procs : List WordProc) → last ≤ n → NumbersBelow last procs → IsFree n (all_moved k procs)
below_free n last k [] le below = tt
below_free n last k (p ∷ procs) le below = (λ e. absurd (omega (arith, e, le, below.0)), below_free n last k procs le below.1)

free_both : (n : ℕ) (ps qs : List WordProc) → IsFree n ps → IsFree n qs → IsFree n (ps ++ qs)
free_both n [] qs h i = i
free_both n (p ∷ ps) qs h i = (h.0, free_both n ps qs h.1 i)

-- ---- so theirs are found

module _ (laws : HookLaws) (table : List TypeDef) (blocks : Code BlockLine) (r : Runtimes) where
  abbrev first : ℕ
  first = first_hook blocks.procs

  abbrev own : List WordProc
  own = lowered_procs (start_around table blocks.procs) blocks.procs

  abbrev heap_data : ℕ
  heap_data = length r.heap.statics

  abbrev before : List WordProc
  before = r.heap.procs ++ all_moved heap_data own

  abbrev behind : List WordProc
  behind = all_moved (length (joined r.heap (lowered table blocks)).statics) r.others.procs

  own_below : NumbersBelow first own
  own_below = (
    omega arith,
    procs_below first (start_around table blocks.procs) 0 (all_layouts table blocks.procs) blocks.procs (omega arith),
  )

  before_free : (number : ℕ) → first ≤ number → IsFree number before
  before_free number le =
      free_both number r.heap.procs (all_moved heap_data own) (beyond number r.heap.procs r.is_heap.routines (inr (omega (arith, le))))
      (below_free number first heap_data own le own_below)

  apart : before ++ (all_moved heap_data (procs_in table first) ++ behind) ≡ (with_runtimes r (lowered table blocks)).procs
  apart =
      sym (append_assoc before (all_moved heap_data (procs_in table first)) behind)
      ∙ ap (λ ps. ps ++ behind) (append_assoc r.heap.procs (all_moved heap_data own) (all_moved heap_data (procs_in table first))
      ∙ ap (λ ps. r.heap.procs ++ ps) (sym (moved_both heap_data own (procs_in table first))))

  pub hooks_there : AreThere table first (with_runtimes r (lowered table blocks)).procs
  hooks_there = subst (AreThere table first) apart (laws.there table first heap_data before behind before_free)

  pub cuts_there : CutsAreThere table first (with_runtimes r (lowered table blocks)).procs
  cuts_there = subst (CutsAreThere table first) apart (laws.cuts_there table first heap_data before behind before_free)

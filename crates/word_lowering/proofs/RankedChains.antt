-- Ranks that end at a most one: what doesn't count still calls only what has a lower rank, where what doesn't count has no higher one.
use Rattle.std.proofs.Common.{◌≡◌, ℕ, suc, ◌≤◌, false, List, [], ◌∷◌, Option, Some, None, arith}
use Rattle.std.specs.Prelude.{min}
use Rattle.word_code.specs.declared.word.WordInstr.{WordInstr}
use Rattle.word_code.specs.declared.word.WordProc.{WordProc}
use Rattle.word_code.specs.Words.{is_counted, callee_of, taken_for, most_called}
use Rattle.word_code.specs.Sizes.{AreRanked}

module _ (rank : ℕ → ℕ) where
  -- those that don't count have ranks up to one
  abbrev pub HaveRanks : (most : ℕ) → List WordProc → Type 0
  HaveRanks most [] = Unit {0}
  HaveRanks most (p ∷ ps) = (is_counted p.kind ≡ false → rank p.number ≤ most) × HaveRanks most ps

  module _ (most : ℕ) where
    abbrev pub capped : ℕ → ℕ
    capped n = min (rank n) most

    pub capped_few : (n : ℕ) → capped n ≤ most
    capped_few n = omega arith

    taken_less : (o : Option ℕ) → taken_for capped o ≤ taken_for rank o
    taken_less None = omega arith
    taken_less (Some n) = omega arith

    called_less : (lines : List WordInstr) → most_called capped lines ≤ most_called rank lines
    called_less [] = omega arith
    called_less (line ∷ lines) = let one = taken_less (callee_of line) in let rest = called_less lines in omega (arith, one, rest)

    pub capped_ranked : (procs : List WordProc) → AreRanked rank procs → HaveRanks most procs → AreRanked capped procs
    capped_ranked [] ranked few = tt
    capped_ranked (p ∷ procs) ranked few = (
      λ e. let lower = ranked.0 e in let up = few.0 e in let less = called_less p.lines in omega (arith, lower, up, less),
      capped_ranked procs ranked.1 few.1,
    )

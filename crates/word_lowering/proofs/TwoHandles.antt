-- Two text operands of a row: each has its handle when both are made.
use Rattle.std.proofs.Common.{inr, ℕ, ◌+◌, ◌≤◌, List, ◌∷◌, ◌∙◌, arith}
use Rattle.flat_code.specs.declared.block.BlockLine.{BlockLine}
use Rattle.word_code.specs.declared.word.WordInstr.{WordInstr}
use Rattle.word_code.specs.Words.{Vars}
use Rattle.word_code.proofs.ForCallers.{Runs, at, then_runs}
use Rattle.word_lowering.specs.declared.handed.TheConstants.{LEFT_HANDLE_AT, RIGHT_HANDLE_AT}
use Rattle.word_lowering.specs.declared.homes.Home.{Home as Place}
use Rattle.word_lowering.specs.declared.homes.Home.TheVariants.{Placed, Static, Variable}
use Rattle.word_lowering.specs.Lowered.{data_at}
use Rattle.word_lowering.proofs.Gets.{same_temps}
use Rattle.word_lowering.proofs.HandlesMade.{text_kept}
use Rattle.word_lowering.proofs.Lines.{Basis, IsGood, all_procs, changed, starts}
use Rattle.word_lowering.proofs.Moves.{IsHigh, same_more}
use Rattle.word_lowering.proofs.OrdinalRuns.{AllSame}
use Rattle.word_lowering.proofs.Related.{Both, within}
use Rattle.word_lowering.proofs.RowOperands.{HasHandleAt}
use Rattle.word_lowering.proofs.Scenes.{Points}
use Rattle.word_lowering.proofs.Settling.{code_here}
use Rattle.word_lowering.proofs.TextOperands.{TextAt}
use Rattle.word_lowering.proofs.TextRowRuns.{IsAt}
use Rattle.word_lowering.proofs.Told.{good_told}
use Rattle.word_lowering.proofs.WrittenLines.{Writing}

-- variables of places are the same
pub still_at : (base : ℕ) (v w : Vars) (home : Place) (a : ℕ) → AllSame v w → IsAt base v home a → IsAt base w home a
still_at base v w home a same is = record { points = by home is.high is.points; high = is.high; small = is.small }
  where
    by : (home : Place) → IsHigh home → Points base v home a → Points base w home a
    by (Variable u) high points = same.others u high ∙ points
    by (Placed i) high points = points
    by (Static i) high points = points

module _ (x : Basis) (said : Writing x) (g : Both) (line : BlockLine) (rest : List BlockLine) (y : IsGood x (starts g line rest))
    (middle k : List WordInstr) (left right : Place) (first second : List ℕ)
    (a : HasHandleAt x said g line rest y LEFT_HANDLE_AT (code_here x g line rest y) middle left first) where
  -- behind the first one
  abbrev pub first_at : Both
  first_at = changed g rest g.call.temps a.vars a.memory g.words g.awaits g.world

  pub first_good : IsGood x (starts first_at line rest)
  first_good =
      good_told x said.least g line rest y (line ∷ rest) g.call.temps (same_temps x g line rest y) a.vars g.words g.awaits a.memory a.told a.same y.stands

  module _ (b : HasHandleAt x said first_at line rest first_good RIGHT_HANDLE_AT middle k right second) where
    -- behind both
    abbrev pub both_at : Both
    both_at = changed g rest g.call.temps b.vars b.memory g.words g.awaits g.world

    pub both_good : IsGood x (starts both_at line rest)
    both_good =
        good_told x said.least first_at line rest first_good (line ∷ rest) g.call.temps (same_temps x first_at line rest first_good) b.vars g.words g.awaits
        b.memory b.told b.same first_good.stands

    pub both_same : AllSame g.call.vars b.vars
    both_same = same_more g.call.vars a.vars b.vars a.same b.same

    pub left_text : TextAt g.world.heap g.ground.blocks.stands b.memory a.address first
    left_text =
        let apart = a.beside RIGHT_HANDLE_AT (omega arith) (omega arith) (inr (omega arith)) in
        text_kept g.world.heap g.ground.blocks.stands a.memory b.memory a.address first a.text_at (data_at + RIGHT_HANDLE_AT) 12 b.only apart.0 apart.1

    pub at_left : IsAt g.call.site.base b.vars left a.address
    at_left = still_at g.call.site.base a.vars b.vars left a.address b.same a.at_home

    abbrev pub both_count : ℕ
    both_count = a.count + b.count

    pub both_few : both_count ≤ 30
    both_few = let f = a.few in let h = b.few in omega (arith, f, h)

    pub both_runs : Runs x.live (all_procs x) both_count (at (within x.table x.blocks g) g.memory (code_here x g line rest y) g.call.vars g.words)
        (at (within x.table x.blocks g) b.memory k b.vars g.words)
    both_runs = then_runs x.live (all_procs x) a.runs b.runs

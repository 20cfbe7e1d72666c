-- A temporary gets a copy of a text that has a handle: the line is followed.
use Rattle.std.proofs.Common.{◌≡◌, ℕ, ◌+◌, ◌-◌, List, [], ◌∷◌, length, sym, subst, arith}
use Rattle.nim_meaning.specs.Heap.{Characters}
use Rattle.nim_meaning.specs.Deeds.{behind, costs, give, perform, ◌>>=◌}
use Rattle.nim_meaning.specs.Lifted.{fresh_text}
use Rattle.flat_code.specs.declared.block.BlockLine.{BlockLine}
use Rattle.flat_code.specs.Lines.{gives}
use Rattle.flat_code.specs.Running.{scene_of}
use Rattle.flat_code.specs.Scene.{Passes, with_value}
use Rattle.flat_code.specs.Shapes.{block}
use Rattle.word_code.proofs.ForCallers.{at}
use Rattle.word_lowering.specs.declared.handed.TheConstants.{LEFT_HANDLE_AT}
use Rattle.word_lowering.specs.declared.homes.TheConstants.{FIRST}
use Rattle.word_lowering.specs.declared.homes.Home.{Home as Place}
use Rattle.word_lowering.specs.RoutineCode.{copy_code}
use Rattle.word_lowering.proofs.Gets.{same_temps}
use Rattle.word_lowering.proofs.Lines.{Basis, IsGood, Settles, all_procs, changed, starts}
use Rattle.word_lowering.proofs.NewLines.{NewHere, copy_row, new_good, value_deed}
use Rattle.word_lowering.proofs.Related.{Both, high, low, within}
use Rattle.word_lowering.proofs.RowOperands.{HasHandleAt}
use Rattle.word_lowering.proofs.RowRuns.{RowDoes, in_front}
use Rattle.word_lowering.proofs.RowSettles.{row_settles}
use Rattle.word_lowering.proofs.Scenes.{IsThere, house, looked, of_value}
use Rattle.word_lowering.proofs.Settling.{code_here, code_next}
use Rattle.word_lowering.proofs.Sites.{InMemory}
use Rattle.word_lowering.proofs.TextRowRuns.{TEXT_SPARE}
use Rattle.word_lowering.proofs.Told.{good_told}
use Rattle.word_lowering.proofs.WrittenLines.{Writing}

module _ (x : Basis) (said : Writing x) (g : Both) (line : BlockLine) (rest : List BlockLine) (y : IsGood x (starts g line rest)) (t : ℕ)
    (there : IsThere g.call.site (of_value t)) (inside : InMemory (house g.call.site (of_value t)).home)
    (look : looked x.table g.call.site (of_value t) ≡ block) (from_home : Place) (text : List ℕ)
    (h : HasHandleAt x said g line rest y LEFT_HANDLE_AT (code_here x g line rest y)
    (copy_code (house g.call.site (of_value t)).home from_home (code_next x g line rest y)) from_home text) where
  -- where the operand has its handle
  abbrev then_at : Both
  then_at = changed g rest g.call.temps h.vars h.memory g.words g.awaits g.world

  then_good : IsGood x (starts then_at line rest)
  then_good = good_told x said.least g line rest y (line ∷ rest) g.call.temps (same_temps x g line rest y) h.vars g.words g.awaits h.memory h.told h.same
      y.stands

  row : RowDoes x.live (all_procs x) (within x.table x.blocks g) (code_next x g line rest y) FIRST (TEXT_SPARE - h.count)
      (NewHere x then_at line rest then_good t there inside block tt look) (low x.table x.blocks (starts g line rest)) (perform (fresh_text text) g.world)
  row =
      let few_lines = h.few in
      let spare : TEXT_SPARE - h.count + h.count ≡ TEXT_SPARE = omega (arith, few_lines) in
      in_front x.live (all_procs x) (within x.table x.blocks g) (code_next x g line rest y) FIRST (TEXT_SPARE - h.count) h.count
      (NewHere x then_at line rest then_good t there inside block tt look) (low x.table x.blocks (starts g line rest))
      (at (within x.table x.blocks g) h.memory (copy_code (house g.call.site (of_value t)).home from_home (code_next x g line rest y)) h.vars g.words) h.runs
      (perform (fresh_text text) g.world)
      (subst (λ i. RowDoes x.live (all_procs x) (within x.table x.blocks g) (code_next x g line rest y) FIRST i
      (NewHere x then_at line rest then_good t there inside block tt look)
      (at (within x.table x.blocks g) h.memory (copy_code (house g.call.site (of_value t)).home from_home (code_next x g line rest y)) h.vars g.words)
      (perform (fresh_text text) g.world)) (sym spare)
      (copy_row x then_at line rest then_good t there inside look (code_next x g line rest y) from_home text h.address h.text_at h.at_home))

  pub copy_settles : Settles x (starts g line rest) rest
      (gives (scene_of (high x.table x.blocks (starts g line rest))) t (costs 1 (fresh_text text) >>= (λ v. give v)))
  copy_settles =
      subst (λ done. Settles x (starts g line rest) rest (Passes (behind [] 1 done)))
      (sym (value_deed (fresh_text text) (λ v. with_value t g.call.temps v) g.world))
      (row_settles x g line rest y FIRST (TEXT_SPARE - h.count) (λ a. with_value t g.call.temps a)
      (NewHere x then_at line rest then_good t there inside block tt look) (perform (fresh_text text) g.world)
      (new_good x then_at line rest then_good t there inside block tt look (length text) (length text) (Characters text)) row)

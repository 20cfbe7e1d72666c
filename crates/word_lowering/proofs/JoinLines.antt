-- A temporary gets a text of two others: the line is followed.
use Rattle.std.proofs.Common.{◌≡◌, ℕ, ◌+◌, ◌-◌, ◌^◌, ◌<◌, List, [], ◌++◌, length, refl, sym, subst, arith}
use Rattle.nim_meaning.specs.Heap.{Characters}
use Rattle.nim_meaning.specs.Deeds.{behind, costs, give, perform, ◌>>=◌}
use Rattle.nim_meaning.specs.Lifted.{fresh_text}
use Rattle.flat_code.specs.declared.block.BlockLine.{BlockLine}
use Rattle.flat_code.specs.Lines.{gives}
use Rattle.flat_code.specs.Running.{scene_of}
use Rattle.flat_code.specs.Scene.{Passes, with_value}
use Rattle.flat_code.specs.Shapes.{block}
use Rattle.word_code.specs.declared.word.WordInstr.{WordInstr}
use Rattle.word_code.proofs.ForCallers.{at}
use Rattle.word_lowering.specs.declared.handed.TheConstants.{LEFT_HANDLE_AT, RIGHT_HANDLE_AT}
use Rattle.word_lowering.specs.declared.homes.TheConstants.{FIRST}
use Rattle.word_lowering.specs.declared.homes.Home.{Home as Place}
use Rattle.word_lowering.specs.RoutineCode.{join_code}
use Rattle.word_lowering.proofs.FreshRowRuns.{join_runs}
use Rattle.word_lowering.proofs.HandleLines.{heap_kept}
use Rattle.word_lowering.proofs.Lines.{Basis, IsGood, Settles, all_procs, starts}
use Rattle.word_lowering.proofs.NewHomes.{OtherHome, others_apart, others_hold}
use Rattle.word_lowering.proofs.NewLines.{NewHere, at_home, away, can, elsewhere, new_good, to, value_deed}
use Rattle.word_lowering.proofs.Related.{Both, high, low, within}
use Rattle.word_lowering.proofs.RowOperands.{HasHandleAt}
use Rattle.word_lowering.proofs.RowRuns.{RowDoes, in_front}
use Rattle.word_lowering.proofs.RowSettles.{row_settles}
use Rattle.word_lowering.proofs.Scenes.{IsThere, house, is_fixed, looked, of_value}
use Rattle.word_lowering.proofs.Settling.{code_here, code_next}
use Rattle.word_lowering.proofs.Sites.{InMemory}
use Rattle.word_lowering.proofs.TextRowRuns.{TEXT_SPARE}
use Rattle.word_lowering.proofs.TwoHandles.{at_left, both_at, both_count, both_few, both_good, both_runs, first_at, first_good, left_text}
use Rattle.word_lowering.proofs.WrittenLines.{Writing}

module _ (x : Basis) (said : Writing x) (g : Both) (line : BlockLine) (rest : List BlockLine) (y : IsGood x (starts g line rest)) (t : ℕ)
    (there : IsThere g.call.site (of_value t)) (inside : InMemory (house g.call.site (of_value t)).home)
    (look : looked x.table g.call.site (of_value t) ≡ block) (middle : List WordInstr) (left right : Place) (first second : List ℕ)
    (a : HasHandleAt x said g line rest y LEFT_HANDLE_AT (code_here x g line rest y) middle left first)
    (b : HasHandleAt x said (first_at x said g line rest y middle
    (join_code (house g.call.site (of_value t)).home left right (code_next x g line rest y)) left right first second a) line rest
    (first_good x said g line rest y middle (join_code (house g.call.site (of_value t)).home left right (code_next x g line rest y)) left right first second a)
    RIGHT_HANDLE_AT middle (join_code (house g.call.site (of_value t)).home left right (code_next x g line rest y)) right second) where
  abbrev k : List WordInstr
  k = join_code (house g.call.site (of_value t)).home left right (code_next x g line rest y)

  abbrev joins : List ℕ
  joins = first ++ second

  abbrev then_at : Both
  then_at = both_at x said g line rest y middle k left right first second a b

  then_good : IsGood x (starts then_at line rest)
  then_good = both_good x said g line rest y middle k left right first second a b

  few : length first + length second < 2 ^ 32
  few = let l = a.short in let r = b.short in omega (arith, l, r)

  abbrev count : ℕ
  count = both_count x said g line rest y middle k left right first second a b

  joined : RowDoes x.live (all_procs x) (within x.table x.blocks g) (code_next x g line rest y) FIRST TEXT_SPARE
      (NewHere x then_at line rest then_good t there inside block tt look) (at (within x.table x.blocks g) b.memory k b.vars g.words)
      (perform (fresh_text joins) g.world)
  joined =
      join_runs (is_fixed g.ground) (OtherHome x then_at line rest then_good t there inside) (others_apart x then_at line rest then_good t there inside) x.law
      x.live (all_procs x) (within x.table x.blocks g) refl g.ground.blocks g.world (sym y.input) b.memory
      (others_hold x then_at line rest then_good t there inside) (code_next x g line rest y) b.vars g.words
      (to x then_at line rest then_good t there inside block tt look) (elsewhere x then_at line rest then_good t there inside block tt look)
      (away x then_at line rest then_good t there inside block tt look) (can x then_at line rest then_good t there inside block tt look) (heap_kept x)
      (house g.call.site (of_value t)).home (at_home x then_at line rest then_good t there inside block tt look) a.address b.address first second
      (left_text x said g line rest y middle k left right first second a b) b.text_at few left right
      (at_left x said g line rest y middle k left right first second a b) b.at_home

  row : RowDoes x.live (all_procs x) (within x.table x.blocks g) (code_next x g line rest y) FIRST (TEXT_SPARE - count)
      (NewHere x then_at line rest then_good t there inside block tt look) (low x.table x.blocks (starts g line rest)) (perform (fresh_text joins) g.world)
  row =
      let few_lines = both_few x said g line rest y middle k left right first second a b in
      let spare : TEXT_SPARE - count + count ≡ TEXT_SPARE = omega (arith, few_lines) in
      in_front x.live (all_procs x) (within x.table x.blocks g) (code_next x g line rest y) FIRST (TEXT_SPARE - count) count
      (NewHere x then_at line rest then_good t there inside block tt look) (low x.table x.blocks (starts g line rest))
      (at (within x.table x.blocks g) b.memory k b.vars g.words) (both_runs x said g line rest y middle k left right first second a b)
      (perform (fresh_text joins) g.world)
      (subst (λ i. RowDoes x.live (all_procs x) (within x.table x.blocks g) (code_next x g line rest y) FIRST i
      (NewHere x then_at line rest then_good t there inside block tt look) (at (within x.table x.blocks g) b.memory k b.vars g.words)
      (perform (fresh_text joins) g.world)) (sym spare) joined)

  pub join_settles : Settles x (starts g line rest) rest
      (gives (scene_of (high x.table x.blocks (starts g line rest))) t (costs 1 (fresh_text joins) >>= (λ v. give v)))
  join_settles =
      subst (λ done. Settles x (starts g line rest) rest (Passes (behind [] 1 done)))
      (sym (value_deed (fresh_text joins) (λ v. with_value t g.call.temps v) g.world))
      (row_settles x g line rest y FIRST (TEXT_SPARE - count) (λ a. with_value t g.call.temps a)
      (NewHere x then_at line rest then_good t there inside block tt look) (perform (fresh_text joins) g.world)
      (new_good x then_at line rest then_good t there inside block tt look (length joins) (length joins) (Characters joins)) row)

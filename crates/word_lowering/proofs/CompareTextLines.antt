-- Two texts are compared: the line is followed.
use Rattle.std.proofs.Common.{◌≡◌, ℕ, ◌+◌, ◌-◌, ◌≤◌, List, [], ◌∷◌, Some, ℤ, pos, refl, sym, subst, arith}
use Rattle.nim_program.specs.declared.operation.Comparison.{Comparison}
use Rattle.nim_program.specs.Ints.{compared, truth}
use Rattle.nim_meaning.specs.Values.{Number, Value}
use Rattle.nim_meaning.specs.State.{World}
use Rattle.nim_meaning.specs.Deeds.{behind, costs, give, perform, ◌>>=◌}
use Rattle.nim_meaning.specs.OwnedRows.{compared_texts, order}
use Rattle.flat_code.specs.declared.block.BlockLine.{BlockLine}
use Rattle.flat_code.specs.Lines.{gives}
use Rattle.flat_code.specs.Running.{scene_of}
use Rattle.flat_code.specs.Scene.{Passes, with_value}
use Rattle.word_code.specs.declared.word.WordInstr.{WordInstr}
use Rattle.word_code.specs.Memory.{Memory}
use Rattle.word_code.specs.Words.{Vars, no_words}
use Rattle.word_code.proofs.ForCallers.{at}
use Rattle.word_lowering.specs.declared.handed.TheConstants.{LEFT_HANDLE_AT, RIGHT_HANDLE_AT}
use Rattle.word_lowering.specs.declared.homes.TheConstants.{FOURTH, OWN_FROM}
use Rattle.word_lowering.specs.declared.homes.Home.{Home as Place}
use Rattle.word_lowering.specs.Operations.{word}
use Rattle.word_lowering.specs.RoutineCode.{text_compare_code}
use Rattle.word_lowering.proofs.Gets.{same_temps}
use Rattle.word_lowering.proofs.HandleLines.{heap_kept}
use Rattle.word_lowering.proofs.Lines.{Basis, IsGood, Settles, all_procs, changed, changed_later, stands_next, starts}
use Rattle.word_lowering.proofs.Moves.{all_same}
use Rattle.word_lowering.proofs.NewLines.{value_deed}
use Rattle.word_lowering.proofs.NumberLines.{high_target, variable}
use Rattle.word_lowering.proofs.OrdinalRuns.{AllBut}
use Rattle.word_lowering.proofs.Related.{Both, body_of, high, low, sites_of, within}
use Rattle.word_lowering.proofs.RowOperands.{HasHandleAt}
use Rattle.word_lowering.proofs.RowRuns.{RowDoes, in_front}
use Rattle.word_lowering.proofs.RowSettles.{LeavesGood, row_settles}
use Rattle.word_lowering.proofs.Scenes.{is_fixed, looked, of_value}
use Rattle.word_lowering.proofs.Settling.{Getting, code_here, code_next}
use Rattle.word_lowering.proofs.TextReadRuns.{Compared, compare_text_runs}
use Rattle.word_lowering.proofs.TextRowRuns.{TEXT_SPARE}
use Rattle.word_lowering.proofs.Told.{good_told, told_none}
use Rattle.word_lowering.proofs.TwoHandles.{at_left, both_at, both_count, both_few, both_good, both_runs, first_at, first_good, left_text}
use Rattle.word_lowering.proofs.ValueFacts.{good_word}
use Rattle.word_lowering.proofs.ShapeFacts.{number_numbers}
use Rattle.word_lowering.proofs.WrittenLines.{Writing}

module _ (x : Basis) (said : Writing x) (g : Both) (line : BlockLine) (rest : List BlockLine) (y : IsGood x (starts g line rest)) (comparison : Comparison)
    (t : ℕ) (middle : List WordInstr) (left right : Place) (first second : List ℕ)
    (getting : Getting x g line rest y t (truth (compared comparison (order first second) (pos 0))))
    (a : HasHandleAt x said g line rest y LEFT_HANDLE_AT (code_here x g line rest y) middle left first)
    (b : HasHandleAt x said (first_at x said g line rest y middle
    (text_compare_code comparison (variable x g line rest y t) left right (code_next x g line rest y)) left right first second a) line rest
    (first_good x said g line rest y middle (text_compare_code comparison (variable x g line rest y t) left right (code_next x g line rest y)) left right first
    second a)
    RIGHT_HANDLE_AT middle (text_compare_code comparison (variable x g line rest y t) left right (code_next x g line rest y)) right second) where
  abbrev to : ℕ
  to = variable x g line rest y t

  abbrev k : List WordInstr
  k = text_compare_code comparison to left right (code_next x g line rest y)

  abbrev answer : ℤ
  answer = truth (compared comparison (order first second) (pos 0))

  abbrev then_at : Both
  then_at = both_at x said g line rest y middle k left right first second a b

  then_good : IsGood x (starts then_at line rest)
  then_good = both_good x said g line rest y middle k left right first second a b

  abbrev count : ℕ
  count = both_count x said g line rest y middle k left right first second a b

  high_to : OWN_FROM ≤ to
  high_to = high_target x g line rest y t answer getting

  abbrev Behind : Value → World → Memory → Vars → Type 0
  Behind v after other vars =
      Compared (is_fixed g.ground) x.law x.live (all_procs x) (heap_kept x) (within x.table x.blocks g) refl g.ground.blocks g.world (sym y.input) b.memory
      then_good.heap then_good.memory.sized (code_next x g line rest y) b.vars g.words a.address b.address first second
      (left_text x said g line rest y middle k left right first second a b) b.text_at left right
      (at_left x said g line rest y middle k left right first second a b) b.at_home to high_to comparison v after other vars

  row : RowDoes x.live (all_procs x) (within x.table x.blocks g) (code_next x g line rest y) FOURTH (TEXT_SPARE - count) Behind
      (low x.table x.blocks (starts g line rest)) (perform (compared_texts comparison first second) g.world)
  row =
      let few_lines = both_few x said g line rest y middle k left right first second a b in
      let spare : TEXT_SPARE - count + count ≡ TEXT_SPARE = omega (arith, few_lines) in
      in_front x.live (all_procs x) (within x.table x.blocks g) (code_next x g line rest y) FOURTH (TEXT_SPARE - count) count Behind
      (low x.table x.blocks (starts g line rest)) (at (within x.table x.blocks g) b.memory k b.vars g.words)
      (both_runs x said g line rest y middle k left right first second a b) (perform (compared_texts comparison first second) g.world)
      (subst (λ i. RowDoes x.live (all_procs x) (within x.table x.blocks g) (code_next x g line rest y) FOURTH i Behind
      (at (within x.table x.blocks g) b.memory k b.vars g.words) (perform (compared_texts comparison first second) g.world)) (sym spare)
      (compare_text_runs (is_fixed g.ground) x.law x.live (all_procs x) (heap_kept x) (within x.table x.blocks g) refl g.ground.blocks g.world (sym y.input)
      b.memory then_good.heap then_good.memory.sized (code_next x g line rest y) b.vars g.words a.address b.address first second
      (left_text x said g line rest y middle k left right first second a b) b.text_at left right
      (at_left x said g line rest y middle k left right first second a b) b.at_home to high_to comparison))

  -- words for what comes between are gone
  abbrev quiet : Both
  quiet = changed then_at rest g.call.temps b.vars b.memory no_words FOURTH g.world

  quiet_good : IsGood x (starts quiet line rest)
  quiet_good =
      good_told x said.least then_at line rest then_good (line ∷ rest) g.call.temps (same_temps x then_at line rest then_good) b.vars no_words FOURTH b.memory
      (told_none x said.least (sites_of g) b.memory then_good.memory) (all_same b.vars) then_good.stands

  good_then : (vars : Vars) → vars to ≡ Some (word answer) → AllBut b.vars to vars
      → IsGood x (changed_later g rest (with_value t g.call.temps (Number answer)) vars b.memory no_words FOURTH g.world g.ground g.world.input)
  good_then vars given but =
      subst (λ i. IsGood x (changed_later g rest (with_value t g.call.temps (Number answer)) vars b.memory no_words FOURTH g.world g.ground i)) (sym y.input)
      (good_word x quiet line rest quiet_good rest t (Number answer) vars getting.there
      (number_numbers answer (looked x.table g.call.site (of_value t)) getting.shaped) getting.shaped getting.one but given
      (stands_next x.table x.blocks (body_of g) line rest y.stands) FOURTH)

  leaves : LeavesGood x g line rest y FOURTH (λ v. with_value t g.call.temps v) Behind (perform (compared_texts comparison first second) g.world)
  leaves es work v w e other vars z = (
    g.ground,
    subst (λ u. IsGood x (changed_later g rest (with_value t g.call.temps u) vars other no_words FOURTH w g.ground w.input)) (sym z.value)
        (subst (λ m. IsGood x (changed_later g rest (with_value t g.call.temps (Number answer)) vars m no_words FOURTH w g.ground w.input)) (sym z.memory)
        (subst (λ (u : World). IsGood x (changed_later g rest (with_value t g.call.temps (Number answer)) vars b.memory no_words FOURTH u g.ground u.input))
        (sym z.world) (good_then vars z.given z.but))),
  )

  pub compare_settles : Settles x (starts g line rest) rest
      (gives (scene_of (high x.table x.blocks (starts g line rest))) t (costs 1 (compared_texts comparison first second) >>= (λ v. give v)))
  compare_settles =
      subst (λ done. Settles x (starts g line rest) rest (Passes (behind [] 1 done)))
      (sym (value_deed (compared_texts comparison first second) (λ v. with_value t g.call.temps v) g.world))
      (row_settles x g line rest y FOURTH (TEXT_SPARE - count) (λ v. with_value t g.call.temps v) Behind
      (perform (compared_texts comparison first second) g.world) leaves row)

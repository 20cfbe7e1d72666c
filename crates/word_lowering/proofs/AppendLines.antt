-- A text at a location gets more characters: the line is followed.
use Rattle.std.proofs.Common.{◌≡◌, ℕ, ◌+◌, ◌-◌, ◌^◌, ◌<◌, List, [], ◌∷◌, length, Option, sym, subst, arith}
use Rattle.nim_meaning.specs.Values.{Location, nothing}
use Rattle.nim_meaning.specs.State.{World}
use Rattle.nim_meaning.specs.Deeds.{behind, costs, give, perform, ◌>>=◌, ◌>>◌}
use Rattle.nim_meaning.specs.OwnedRows.{appended}
use Rattle.flat_code.specs.declared.block.BlockLine.{BlockLine}
use Rattle.flat_code.specs.Lines.{gives}
use Rattle.flat_code.specs.Running.{scene_of}
use Rattle.flat_code.specs.Scene.{Passes, Temps, with_value}
use Rattle.word_code.specs.declared.word.WordInstr.{WordInstr}
use Rattle.word_code.specs.Memory.{Memory}
use Rattle.word_code.specs.Words.{Vars}
use Rattle.word_code.proofs.ForCallers.{at}
use Rattle.heap_memory.specs.TextRoutines.{AreBytes}
use Rattle.word_lowering.specs.declared.handed.TheConstants.{RIGHT_HANDLE_AT}
use Rattle.word_lowering.specs.declared.homes.TheConstants.{FIRST}
use Rattle.word_lowering.specs.declared.homes.Home.{Home as Place}
use Rattle.word_lowering.specs.RoutineCode.{append_code}
use Rattle.word_lowering.proofs.Gets.{SameTemps, same_temps}
use Rattle.word_lowering.proofs.HandleLines.{HandleThere, append_good, append_there, length_short}
use Rattle.word_lowering.proofs.Lines.{Basis, IsGood, Settles, all_procs, changed, starts}
use Rattle.word_lowering.proofs.OrdinalRuns.{AllSame}
use Rattle.word_lowering.proofs.Related.{Both, high, within}
use Rattle.word_lowering.proofs.RowGood.{IsLeftHere}
use Rattle.word_lowering.proofs.RowOperands.{HasHandleAt}
use Rattle.word_lowering.proofs.RowRuns.{RowDoes, in_front}
use Rattle.word_lowering.proofs.RowSettles.{LeavesGood, mapped, row_deed, row_settles}
use Rattle.word_lowering.proofs.Settling.{code_here, code_next}
use Rattle.word_lowering.proofs.TextRowRuns.{TEXT_SPARE}
use Rattle.word_lowering.proofs.Told.{good_told}
use Rattle.word_lowering.proofs.WrittenLines.{Writing}

-- ---- by the routine, in front of other lines

module _ (x : Basis) (said : Writing x) (g : Both) (line : BlockLine) (rest : List BlockLine) (y : IsGood x (starts g line rest))
    (lines after_it : List WordInstr) (home from_home : Place) (more : List ℕ)
    (t : HasHandleAt x said g line rest y RIGHT_HANDLE_AT lines (append_code home from_home after_it) from_home more)
  where
    -- where the operand has its handle
    abbrev pub then_at : Both
    then_at = changed g rest g.call.temps t.vars t.memory g.words g.awaits g.world

    pub then_good : IsGood x (starts then_at line rest)
    then_good = good_told x said.least g line rest y (line ∷ rest) g.call.temps (same_temps x g line rest y) t.vars g.words g.awaits t.memory t.told t.same
        y.stands

    module _ (are : AreBytes t.memory.heap) (l : Location) (n : ℕ) (k : Option ℕ) (q : HandleThere x then_at line rest then_good are l n k home) (to : ℕ)
        (same : SameTemps x then_at line rest then_good (with_value to g.call.temps nothing)) where
      abbrev pub temps : Unit {0} → Temps
      temps a = with_value to g.call.temps nothing

      abbrev pub Behind : Unit {0} → World → Memory → Vars → Type 0
      Behind a after other vars = IsLeftHere x then_at line rest then_good after other q.address 8 × AllSame t.vars vars

      few : n + length more < 2 ^ 32
      few = let l = length_short x then_at line rest then_good are l n k home q in let r = t.short in omega (arith, l, r)

      pub append_does : RowDoes x.live (all_procs x) (within x.table x.blocks g) after_it FIRST (TEXT_SPARE - t.count) Behind
          (at (within x.table x.blocks g) g.memory lines g.call.vars g.words) (perform (appended more l) g.world)
      append_does =
          let few_lines = t.few in
          let spare : TEXT_SPARE - t.count + t.count ≡ TEXT_SPARE = omega (arith, few_lines) in
          in_front x.live (all_procs x) (within x.table x.blocks g) after_it FIRST (TEXT_SPARE - t.count) t.count Behind
          (at (within x.table x.blocks g) g.memory lines g.call.vars g.words)
          (at (within x.table x.blocks g) t.memory (append_code home from_home after_it) t.vars g.words) t.runs
          (perform (appended more l) g.world)
          (subst (λ i. RowDoes x.live (all_procs x) (within x.table x.blocks g) after_it FIRST i Behind
          (at (within x.table x.blocks g) t.memory (append_code home from_home after_it) t.vars g.words) (perform (appended more l) g.world))
          (sym spare)
          (append_there x then_at line rest then_good are l n k home q t.address more t.text_at few from_home t.at_home after_it))

      pub append_leaves : LeavesGood x then_at line rest then_good FIRST temps Behind (perform (appended more l) g.world)
      append_leaves =
          append_good x then_at line rest then_good are l n k home q t.address more t.text_at few from_home t.at_home (with_value to g.call.temps nothing)
          same

-- ---- as a line

module _ (x : Basis) (said : Writing x) (g : Both) (line : BlockLine) (rest : List BlockLine) (y : IsGood x (starts g line rest)) (to : ℕ) (l : Location)
    (more : List ℕ) where
  -- what is said of it in the end
  abbrev pub AppendSettles : Type 0
  AppendSettles = Settles x (starts g line rest) rest
      (gives (scene_of (high x.table x.blocks (starts g line rest))) to (costs 1 (appended more l >> give nothing) >>= (λ v. give v)))

  pub as_append : Settles x (starts g line rest) rest
      (Passes (behind [] 1 (mapped (λ a. with_value to g.call.temps nothing) (perform (appended more l) g.world)))) → AppendSettles
  as_append h =
      subst (λ done. Settles x (starts g line rest) rest (Passes (behind [] 1 done)))
      (sym (row_deed (appended more l) (λ a. nothing) (λ v. with_value to g.call.temps v) g.world)) h

  module _ (home from_home : Place)
      (t : HasHandleAt x said g line rest y RIGHT_HANDLE_AT (code_here x g line rest y) (append_code home from_home (code_next x g line rest y)) from_home more)
    where
      abbrev at_then : Both
      at_then = then_at x said g line rest y (code_here x g line rest y) (code_next x g line rest y) home from_home more t

      abbrev good_then : IsGood x (starts at_then line rest)
      good_then = then_good x said g line rest y (code_here x g line rest y) (code_next x g line rest y) home from_home more t

      pub append_settles : (are : AreBytes t.memory.heap) (n : ℕ) (k : Option ℕ) (q : HandleThere x at_then line rest good_then are l n k home)
          → (same : SameTemps x at_then line rest good_then (with_value to g.call.temps nothing)) → AppendSettles
      append_settles are n k q same =
          let here = code_here x g line rest y in
          let next = code_next x g line rest y in
          as_append (row_settles x g line rest y FIRST (TEXT_SPARE - t.count) (temps x said g line rest y here next home from_home more t are l n k q to same)
          (Behind x said g line rest y here next home from_home more t are l n k q to same) (perform (appended more l) g.world)
          (append_leaves x said g line rest y here next home from_home more t are l n k q to same)
          (append_does x said g line rest y here next home from_home more t are l n k q to same))

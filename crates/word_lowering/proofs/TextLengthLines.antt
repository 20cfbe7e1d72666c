-- A text at a location gets another length: the line is followed.
use Rattle.std.proofs.Common.{◌≡◌, ℕ, ◌-◌, ◌^◌, ◌<◌, ◌≤◌, List, [], Option, Some, true, false, ℤ, pos, int_lt, unsigned_abs, refl, sym, ap, subst, ◌∙◌, arith}
use Rattle.std.proofs.lemmas.Int.{ints}
use Rattle.arc_base.specs.Event.{writes}
use Rattle.arc_base.specs.declared.outside.Stream.TheVariants.{Err}
use Rattle.nim_program.specs.Ints.{fits as is_int_number}
use Rattle.nim_program.specs.Traps.{OutOfRange, trap_text}
use Rattle.nim_meaning.specs.Acts.{line_of}
use Rattle.nim_meaning.specs.Heap.{Characters}
use Rattle.nim_meaning.specs.State.{World, load, text_of}
use Rattle.nim_meaning.specs.Values.{Location, Value, length_of, nothing}
use Rattle.nim_meaning.specs.Deeds.{Deed, Answers, Done, Fails, Finishes, behind, costs, give, looks, perform, stop, ◌>>=◌, ◌>>◌}
use Rattle.nim_meaning.specs.Lifted.{resized}
use Rattle.nim_meaning.specs.OwnedRows.{counted, text_to}
use Rattle.flat_code.specs.declared.block.BlockLine.{BlockLine}
use Rattle.flat_code.specs.Lines.{gives}
use Rattle.flat_code.specs.Running.{scene_of}
use Rattle.flat_code.specs.Scene.{Passes, with_value}
use Rattle.flat_code.specs.Shapes.{block}
use Rattle.rv32_isa.specs.Machine.{Lives}
use Rattle.word_code.specs.declared.word.WordInstr.{WordInstr}
use Rattle.word_code.specs.declared.word.WordProc.{WordProc}
use Rattle.word_code.specs.Memory.{Memory}
use Rattle.word_code.specs.Words.{Vars, WordState, no_words, put}
use Rattle.word_code.proofs.ForCallers.{AlwaysStops, Within, at}
use Rattle.heap_memory.specs.TextRoutines.{AreBytes}
use Rattle.word_lowering.specs.declared.homes.TheConstants.{FIRST, OWN_FROM}
use Rattle.word_lowering.specs.declared.homes.Home.{Home as Place}
use Rattle.word_lowering.specs.Operations.{least, trap_label, word}
use Rattle.word_lowering.specs.OwnedCode.{counted_code}
use Rattle.word_lowering.specs.RoutineCode.{text_length_code}
use Rattle.word_lowering.proofs.Arithmetic.{fits_signed}
use Rattle.word_lowering.proofs.CountedRuns.{Traps, counted_runs}
use Rattle.word_lowering.proofs.DeedFrames.{IsPutSo, PutsOnce, frames_put, puts_branch, puts_then, resized_puts}
use Rattle.word_lowering.proofs.Gets.{SameTemps}
use Rattle.word_lowering.proofs.GoodHomes.{HomeOf, good_homes, homes_apart}
use Rattle.word_lowering.proofs.GoodLeads.{owned_to}
use Rattle.word_lowering.proofs.GoodRows.{later_ground_of}
use Rattle.word_lowering.proofs.HandleLines.{HandleThere, block_is, can_have, handle_is, heap_kept, mine}
use Rattle.word_lowering.proofs.Lines.{Basis, IsGood, Settles, all_procs, lower, starts}
use Rattle.word_lowering.proofs.Moves.{same_first, same_more}
use Rattle.word_lowering.proofs.OrdinalRuns.{AllSame, put_low}
use Rattle.word_lowering.proofs.Related.{Both, high, within}
use Rattle.word_lowering.proofs.ResizedWorlds.{answered}
use Rattle.word_lowering.proofs.RowGood.{IsLeftHere, good_put}
use Rattle.word_lowering.proofs.RowRuns.{RowDoes}
use Rattle.word_lowering.proofs.RowSettles.{LeavesGood, mapped, perform_mapped, row_settles}
use Rattle.word_lowering.proofs.NewLines.{value_deed}
use Rattle.word_lowering.proofs.Scenes.{is_fixed}
use Rattle.word_lowering.proofs.Settling.{TrapStops, code_here, code_next}
use Rattle.word_lowering.proofs.TextRowRuns.{TEXT_SPARE, length_runs}
use Rattle.word_lowering.proofs.TwoHandles.{still_at}

-- a row that answers otherwise
pub row_mapped : {A B : Type 0} (live : Lives) (procs : List WordProc) (c : Within) (k : List WordInstr) (awaits spare : ℕ) (f : A → B)
    (Behind : A → World → Memory → Vars → Type 0) (Other : B → World → Memory → Vars → Type 0)
    → ((a : A) (w : World) (m : Memory) (v : Vars) → Behind a w m v → Other (f a) w m v) → (s : WordState) (done : Done A)
    → RowDoes live procs c k awaits spare Behind s done → RowDoes live procs c k awaits spare Other s (mapped f done)
row_mapped live procs c k awaits spare f Behind Other other s (Answers es n a w) r =
    record { memory = r.memory; vars = r.vars; behind = other a w r.memory r.vars r.behind; lines = r.lines; few = r.few; steps = r.steps }
row_mapped live procs c k awaits spare f Behind Other other s (Finishes es n status w) r = r
row_mapped live procs c k awaits spare f Behind Other other s (Fails es n w) r = tt

-- the label of a trap, in words of rows
pub traps_here : (x : Basis) (g : Both) → TrapStops x g OutOfRange
    → Traps x.live (all_procs x) (within x.table x.blocks g) g.memory (trap_label OutOfRange) (line_of (trap_text OutOfRange))
traps_here x g t = record {
  there = t.there;
  stands = t.stands;
  stops = λ v w.
      subst (AlwaysStops (lower x) (at (within x.table x.blocks g) g.memory t.there v w) (writes Err (line_of (trap_text OutOfRange))) 7 1)
      (sym (x.none g.memory)) (t.stops v w);
}

module _ (x : Basis) (g : Both) (line : BlockLine) (rest : List BlockLine) (y : IsGood x (starts g line rest)) (are : AreBytes g.memory.heap) (l : Location)
    (n : ℕ) (k : Option ℕ) (home : Place) (q : HandleThere x g line rest y are l n k home) (traps : TrapStops x g OutOfRange) (z : ℤ)
    (fz : is_int_number z ≡ true) (u : ℕ) (up : OWN_FROM ≤ u) (is : g.call.vars u ≡ Some (word z)) (to : ℕ)
    (same : SameTemps x g line rest y (with_value to g.call.temps nothing)) where
  -- what the row does with a length
  abbrev to_length : ℕ → Deed (Unit {0})
  to_length i = looks (λ world. costs (i - length_of (load world l)) (resized i i (Characters (text_to i (text_of world (load world l)))) l))

  abbrev act : ℕ → Deed Value
  act i = to_length i >> give nothing

  abbrev deed : Deed Value
  deed = counted z act

  abbrev Left : Value → World → Memory → Vars → Type 0
  Left a after other vars = (a ≡ nothing) × IsLeftHere x g line rest y after other q.address 8 × AllSame g.call.vars vars

  abbrev checked : Vars
  checked = put g.call.vars FIRST least

  module _ (positive : int_lt z (pos 0) ≡ false) where
    abbrev long : ℕ
    long = unsigned_abs z

    word_is : word z ≡ long
    word_is = let h = fits_signed z fz in omega (arith, ints, positive)

    few : long < 2 ^ 32
    few = let h = fits_signed z fz in omega (arith, ints, positive)

    abbrev done : Done (Unit {0})
    done = behind [] (long - n) (perform (resized long long (Characters (text_to long (text_of g.world (load g.world l)))) l) g.world)

    done_is : perform (act long) g.world ≡ mapped (λ a. nothing) done
    done_is =
        perform_mapped (λ a. nothing) (to_length long) g.world
        ∙ ap (λ i. mapped (λ a. nothing) (behind [] (long - i)
        (perform (resized long long (Characters (text_to long (text_of g.world (load g.world l)))) l) g.world))) (ap length_of q.is)

    row_then : RowDoes x.live (all_procs x) (within x.table x.blocks g) (code_next x g line rest y) FIRST TEXT_SPARE Left
        (at (within x.table x.blocks g) g.memory (text_length_code home u (code_next x g line rest y)) checked g.words) (perform (act long) g.world)
    row_then =
        subst (RowDoes x.live (all_procs x) (within x.table x.blocks g) (code_next x g line rest y) FIRST TEXT_SPARE Left
        (at (within x.table x.blocks g) g.memory (text_length_code home u (code_next x g line rest y)) checked g.words)) (sym done_is)
        (row_mapped x.live (all_procs x) (within x.table x.blocks g) (code_next x g line rest y) FIRST TEXT_SPARE (λ a. nothing)
        (λ a after other vars. IsLeftHere x g line rest y after other q.address 8 × AllSame checked vars) Left
        (λ a after other vars b. (refl, b.0, same_more g.call.vars checked vars (same_first g.call.vars least) b.1))
        (at (within x.table x.blocks g) g.memory (text_length_code home u (code_next x g line rest y)) checked g.words) done
        (length_runs (is_fixed g.ground) (HomeOf x (starts g line rest)) (homes_apart x (starts g line rest) y) x.law x.live (all_procs x) (heap_kept x)
        (within x.table x.blocks g) refl g.ground.blocks g.world (sym y.input) g.memory (good_homes x (starts g line rest) y) are (code_next x g line rest y)
        checked g.words l q.address n k q.is (owned_to x (starts g line rest) y l q.address block q.owned) (handle_is x g line rest y are l n k home q)
        (block_is x g line rest y are l n k home q) (mine x g line rest y are l n k home q q.owned) (can_have x g line rest y are l n k home q) home
        (still_at g.call.site.base g.call.vars checked home q.address (same_first g.call.vars least) q.at_home) long few u
        (put_low g.call.vars FIRST least u (omega arith) up ∙ is ∙ ap Some word_is) up))

  row : RowDoes x.live (all_procs x) (within x.table x.blocks g) (code_next x g line rest y) FIRST 28 Left
      (at (within x.table x.blocks g) g.memory (counted_code u (text_length_code home u (code_next x g line rest y))) g.call.vars g.words)
      (perform deed g.world)
  row =
      counted_runs x.live (all_procs x) (within x.table x.blocks g) g.memory (code_next x g line rest y) FIRST 28 (omega arith) g.world z fz g.call.vars
      g.words u
      (omega (arith, up)) is (traps_here x g traps) act Left (text_length_code home u (code_next x g line rest y)) row_then

  deed_puts : PutsOnce l deed
  deed_puts =
      puts_branch l (int_lt z (pos 0)) (stop OutOfRange) (act (unsigned_abs z)) tt
      (puts_then l (to_length (unsigned_abs z)) (λ a. give nothing)
      (λ w. resized_puts (unsigned_abs z) (unsigned_abs z) (Characters (text_to (unsigned_abs z) (text_of w (load w l)))) l) (λ a. tt))

  leaves : LeavesGood x g line rest y FIRST (λ a. with_value to g.call.temps a) Left (perform deed g.world)
  leaves es work a w e other vars b =
      let put_so : IsPutSo l g.world w = frames_put l deed deed_puts g.world w (ap answered e) in (
        later_ground_of x g line rest y b.1.later,
        good_put x g line rest y l q.address block refl q.live put_so.0 w other b.1 put_so.1 q.owned (with_value to g.call.temps a)
            (subst (λ v. SameTemps x g line rest y (with_value to g.call.temps v)) (sym b.0) same) vars no_words FIRST b.2,
      )

  pub text_length_settles : code_here x g line rest y ≡ counted_code u (text_length_code home u (code_next x g line rest y))
      → Settles x (starts g line rest) rest (gives (scene_of (high x.table x.blocks (starts g line rest))) to (costs 1 deed >>= (λ v. give v)))
  text_length_settles code =
      subst (λ done. Settles x (starts g line rest) rest (Passes (behind [] 1 done))) (sym (value_deed deed (λ v. with_value to g.call.temps v) g.world))
      (row_settles x g line rest y FIRST 28 (λ a. with_value to g.call.temps a) Left (perform deed g.world) leaves
      (subst (λ lines. RowDoes x.live (all_procs x) (within x.table x.blocks g) (code_next x g line rest y) FIRST 28 Left
      (at (within x.table x.blocks g) g.memory lines g.call.vars g.words) (perform deed g.world)) (sym code) row))

-- How many elements what has a handle has: the line is followed.
use Rattle.std.proofs.Common.{◌≡◌, ℕ, ◌^◌, ◌<◌, ◌≤◌, List, [], Ok, Option, Some, true, pos, refl, sym, ap, subst, ◌∙◌, arith}
use Rattle.std.proofs.lemmas.Int.{ints}
use Rattle.nim_program.specs.declared.operation.Measure.{Measure}
use Rattle.nim_program.specs.declared.operation.Measure.TheVariants.{High, Len}
use Rattle.nim_program.specs.Ints.{fits as is_int_number}
use Rattle.nim_meaning.specs.Values.{Handle, Location, Number}
use Rattle.nim_meaning.specs.State.{load}
use Rattle.nim_meaning.specs.Table.{measured}
use Rattle.nim_meaning.specs.Deeds.{Answers}
use Rattle.flat_code.specs.declared.block.BlockLine.{BlockLine}
use Rattle.flat_code.specs.Scene.{Passes, with_value}
use Rattle.flat_code.specs.Shapes.{Shape, block, elements}
use Rattle.rv32_isa.specs.declared.micro_op.Size.TheVariants.{Word}
use Rattle.word_code.specs.Memory.{number_at}
use Rattle.word_lowering.specs.declared.homes.TheConstants.{OWN_FROM}
use Rattle.word_lowering.specs.declared.homes.Home.{Home as Place}
use Rattle.word_lowering.specs.OwnedCode.{measured_code}
use Rattle.word_lowering.specs.Operations.{word}
use Rattle.word_lowering.proofs.Arithmetic.{fits_signed}
use Rattle.word_lowering.proofs.Blocks.{Stored}
use Rattle.word_lowering.proofs.HandleReads.{Got, high_got, length_got}
use Rattle.word_lowering.proofs.HandleRows.{IsHandled}
use Rattle.word_lowering.proofs.Lines.{Basis, IsGood, Settles, all_procs, starts}
use Rattle.word_lowering.proofs.MeasureLines.{measured_word}
use Rattle.word_lowering.proofs.NumberLines.{high_target, variable}
use Rattle.word_lowering.proofs.OperationRuns.{Given}
use Rattle.word_lowering.proofs.Related.{Both, within}
use Rattle.word_lowering.proofs.Scenes.{is_fixed}
use Rattle.word_lowering.proofs.Settling.{Getting, code_here, code_next, gives_settles}
use Rattle.word_lowering.proofs.TextRowRuns.{IsAt}

-- whose length stands at an address
module _ (x : Basis) (g : Both) (line : BlockLine) (rest : List BlockLine) (y : IsGood x (starts g line rest)) (n a : ℕ) (home : Place)
    (at_home : IsAt g.call.site.base g.call.vars home a) (long_at : number_at g.memory a Word ≡ Ok n) (fits : is_int_number (pos n) ≡ true) (to : ℕ) where
  small : n < 2 ^ 32
  small = let h = fits_signed (pos n) fits in omega (arith, ints)

  abbrev Gives_it : Measure → Type 0
  Gives_it m = Given x.live (all_procs x) (within x.table x.blocks g) g.memory g.words (measured_code m (variable x g line rest y to) home
      (code_next x g line rest y)) g.call.vars (variable x g line rest y to) (word (measured m n)) (code_next x g line rest y)

  as_given : (m : Measure) → (w : ℕ) → w ≡ word (measured m n)
      → Got x.law x.live (all_procs x) (within x.table x.blocks g) refl g.memory (code_next x g line rest y) g.call.vars g.words home a at_home
      (measured_code m (variable x g line rest y to) home (code_next x g line rest y)) (variable x g line rest y to) w → Gives_it m
  as_given m w e r = record {
    steps = r.count;
    some = r.some;
    few = (let f = r.few in omega (arith, f));
    gives = record { vars = r.vars; given = r.given ∙ ap Some e; but = r.but; runs = r.runs };
  }

  given_by : (m : Measure) → OWN_FROM ≤ variable x g line rest y to → Gives_it m
  given_by Len high =
      as_given Len n (measured_word Len n fits)
      (length_got x.law x.live (all_procs x) (within x.table x.blocks g) refl g.memory (code_next x g line rest y) g.call.vars g.words home a at_home
      (variable x g line rest y to) n high small long_at)
  given_by High high =
      as_given High _ (measured_word High n fits)
      (high_got x.law x.live (all_procs x) (within x.table x.blocks g) refl g.memory (code_next x g line rest y) g.call.vars g.words home a at_home
      (variable x g line rest y to) n high small long_at)

  pub counted_settles : (m : Measure) → Getting x g line rest y to (measured m n)
      → code_here x g line rest y ≡ measured_code m (variable x g line rest y to) home (code_next x g line rest y)
      → Settles x (starts g line rest) rest (Passes (Answers [] 1 (with_value to g.call.temps (Number (measured m n))) g.world))
  counted_settles m getting code =
      gives_settles x g line rest y to (measured m n) 1 (omega arith) getting
      (subst (λ lines. Given x.live (all_procs x) (within x.table x.blocks g) g.memory g.words lines g.call.vars (variable x g line rest y to)
      (word (measured m n)) (code_next x g line rest y)) (sym code) (given_by m (high_target x g line rest y to (measured m n) getting)))

-- Operands of the types of parts: they have the shapes of parts, and are other temporaries than what is made of them.
use Rattle.std.proofs.Common.{◌≡◌, ℕ, ◌<◌, List, Some, true, sym, ap, ◌∙◌, arith}
use Rattle.std.specs.Prelude.{option_map}
use Rattle.nim_types.specs.Types.{Ty}
use Rattle.nim_types.specs.Table.{facts_in}
use Rattle.nim_meaning.specs.Values.{Given, Operand, value_of}
use Rattle.flat_code.specs.declared.block.BlockLine.{BlockLine}
use Rattle.flat_code.specs.Shapes.{shape_of}
use Rattle.word_lowering.proofs.AllOperands.{given_value}
use Rattle.word_lowering.proofs.ControlLines.{value_type}
use Rattle.word_lowering.proofs.Lines.{Basis, IsGood, starts}
use Rattle.word_lowering.proofs.MovedLines.{value_read}
use Rattle.word_lowering.proofs.PartRuns.{PartOf}
use Rattle.word_lowering.proofs.Related.{Both}
use Rattle.word_lowering.proofs.Scenes.{looked, of_value}
use Rattle.word_lowering.proofs.ShapeDepth.{depth}
use Rattle.word_lowering.proofs.ShapeFacts.{of_numbers}
use Rattle.word_lowering.proofs.ValueFacts.{has_type, look_of}

module _ (x : Basis) (g : Both) (line : BlockLine) (rest : List BlockLine) (y : IsGood x (starts g line rest)) (to : ℕ) where
  -- an operand of the type of a part
  pub part_comes : (t : ℕ) (z : Operand) (u : Ty) → option_map Given (g.call.temps.values t) ≡ Some z → value_type x g line rest y t ≡ Some u
      → of_numbers (shape_of (facts_in x.table) u) ≡ true
      → depth (shape_of (facts_in x.table) u) < depth (looked x.table g.call.site (of_value to))
      → PartOf x g line rest y to t (value_of z) (shape_of (facts_in x.table) u)
  part_comes t z u e typed numbers less =
      let has = given_value (g.call.temps.values t) z e in
      let r = value_read x g line rest y t (value_of z) u typed numbers has in
      let look = look_of x g.call.site (of_value t) u (has_type x g.call.site (of_value t) u y.linked.0 typed) in
      record {
        has = has;
        there = r.0.there;
        here = ap of_numbers look ∙ numbers;
        shaped = r.1;
        numbers = numbers;
        other = λ same. let d : depth (shape_of (facts_in x.table) u) ≡ depth (looked x.table g.call.site (of_value to))
            = ap depth (sym look) ∙ ap (λ i. depth (looked x.table g.call.site (of_value i))) same in
            absurd (omega (arith, d, less));
      }

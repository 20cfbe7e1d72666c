-- How deep a shape is: each part of one is less deep.
use Rattle.std.proofs.Common.{◌≡◌, ℕ, zero, suc, ◌+◌, ◌<◌, Some, ap, arith}
use Rattle.flat_code.specs.Shapes.{Shape, number, reference, block, elements, row, parts, resource, Shapes, no_shapes, shapes}
use Rattle.word_lowering.proofs.Options.{none_some, some_same}
use Rattle.word_lowering.proofs.ShapeFacts.{nth_shape}

abbrev mutual
  pub depth : Shape → ℕ
  depth (number values) = 0
  depth reference = 0
  depth block = 0
  depth (elements s) = suc (depth s)
  depth (row n s) = suc (depth s)
  depth (parts ss) = suc (depths ss)
  depth (resource ss) = suc (depths ss)

  pub depths : Shapes → ℕ
  depths no_shapes = 0
  depths (shapes s ss) = depth s + depths ss

pub nth_depth : (ss : Shapes) (i : ℕ) (s : Shape) → nth_shape ss i ≡ Some s → depth s < suc (depths ss)
nth_depth no_shapes i s e = absurd (none_some s e)
nth_depth (shapes t ss) zero s e = let f : depth t ≡ depth s = ap depth (some_same t s e) in omega (arith, f)
nth_depth (shapes t ss) (suc i) s e = let h = nth_depth ss i s e in omega (arith, h)

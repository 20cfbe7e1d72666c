-- How many bytes the values of a shape have where they stand. No public contract speaks of it.
use Rattle.std.specs.Prelude.{ℕ, ◌+◌, ◌*◌}
use Rattle.nim_types.specs.declared.types.TheConstants.{WORD_BYTES, LIST_BYTES}
use Rattle.nim_types.specs.Forms.{or_word}
use Rattle.flat_code.specs.Shapes.{Shape, number, reference, block, elements, row, parts, resource, Shapes, no_shapes, shapes}

abbrev mutual
  pub shape_bytes : Shape → ℕ
  shape_bytes (number values) = WORD_BYTES
  shape_bytes reference = WORD_BYTES
  shape_bytes block = LIST_BYTES
  shape_bytes (elements s) = LIST_BYTES
  shape_bytes (row n s) = or_word (n * shape_bytes s)
  shape_bytes (parts ss) = or_word (shapes_bytes ss)
  shape_bytes (resource ss) = or_word (shapes_bytes ss)

  pub shapes_bytes : Shapes → ℕ
  shapes_bytes no_shapes = 0
  shapes_bytes (shapes s ss) = shape_bytes s + shapes_bytes ss

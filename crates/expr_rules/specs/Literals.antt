-- How large values of constants are.
use Rattle.std.specs.Prelude.{ℕ, ◌+◌, length}
use Rattle.nim_types.specs.Forms.{or_word}
use Rattle.nim_types.specs.declared.types.TheConstants.{WORD_BYTES, LIST_BYTES}
use Rattle.nim_program.specs.Program.{Literal, Number, Characters, NoObject, PartsOf, ElementsOf, Literals, NoLiteral, ALiteral}

abbrev mutual
  -- as a part of another: its place, and what a text or a sequence leads to
  pub part_bytes : Literal → ℕ
  part_bytes (Number z) = WORD_BYTES
  part_bytes (Characters bytes) = LIST_BYTES + length bytes
  part_bytes NoObject = WORD_BYTES
  part_bytes (PartsOf all) = or_word (all_bytes all)
  part_bytes (ElementsOf all) = LIST_BYTES + all_bytes all

  pub all_bytes : Literals → ℕ
  all_bytes NoLiteral = 0
  all_bytes (ALiteral first rest) = part_bytes first + all_bytes rest

-- by itself a text has its bytes, and a sequence those of its elements
abbrev pub literal_bytes : Literal → ℕ
literal_bytes (Characters bytes) = length bytes
literal_bytes (ElementsOf all) = all_bytes all
literal_bytes l = part_bytes l

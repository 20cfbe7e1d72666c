-- What a value of a type starts at, as the value of a constant.
use Rattle.std.specs.Prelude.{ℕ, zero, suc, pos, []}
use Rattle.nim_types.specs.Types.{Ty, Facts}
use Rattle.nim_types.specs.Forms.{Form, plain, reference, block, elements, row, parts, resource, wrapped, Forms, no_forms, forms, form_of}
use Rattle.nim_program.specs.Program.{Literal, Number, Characters, NoObject, PartsOf, ElementsOf, Literals, NoLiteral, ALiteral}

abbrev pub times : ℕ → Literal → Literals
times zero literal = NoLiteral
times (suc n) literal = ALiteral literal (times n literal)

abbrev mutual
  pub blank_literal : Form → Literal
  blank_literal plain = Number (pos 0)
  blank_literal reference = NoObject
  blank_literal block = Characters []
  blank_literal (elements f) = ElementsOf NoLiteral
  blank_literal (row n f) = PartsOf (times n (blank_literal f))
  blank_literal (parts fs) = PartsOf (blank_literals fs)
  blank_literal (resource fs) = PartsOf (blank_literals fs)
  blank_literal (wrapped f) = blank_literal f

  pub blank_literals : Forms → Literals
  blank_literals no_forms = NoLiteral
  blank_literals (forms f fs) = ALiteral (blank_literal f) (blank_literals fs)

abbrev pub default_literal : Facts → Ty → Literal
default_literal facts ty = blank_literal (form_of facts ty)

-- What values, texts and defaults of a type come to by the entry of its number, None beyond the table; and lists that grow.
-- It serves proofs alone: the contracts of public calls don't speak of it.
use Rattle.std.specs.Prelude.{ℕ, ℤ, unsigned_abs, List, [], ◌∷◌, length, Option, Some, None, slice_get}
use Rattle.std.specs.Fmt.{signed_decimal}
use Rattle.nim_types.specs.Forms.{form_in, forms_in, form_within}
use Rattle.nim_types.specs.declared.types.TypeDef.{TypeDef}
use Rattle.nim_types.specs.declared.types.TypeDef.TheVariants as D
use Rattle.nim_types.specs.Table.{type_at, types_at, types_in, facts_in}
use Rattle.nim_program.specs.Ints.{is_true, low_byte}
use Rattle.nim_program.specs.Program.{Literal, Literals, NoLiteral, ALiteral}
use Rattle.nim_program.specs.Texts.{bool_text, name_in}
use Rattle.nim_program.specs.Defaults.{blank_literal, blank_literals}

-- how many values it has where an int is converted to it with a check
abbrev pub limit_at : Option TypeDef → Option ℕ
limit_at (Some D.Char) = Some 256
limit_at (Some (D.Enum name at all)) = Some (length all)
limit_at _ = None

-- the text of one of its values
abbrev pub text_for : Option TypeDef → ℤ → List ℕ
text_for None z = signed_decimal z
text_for (Some D.Int) z = signed_decimal z
text_for (Some D.Bool) z = bool_text (is_true z)
text_for (Some D.Char) z = low_byte z ∷ []
text_for (Some (D.Enum name at all)) z = name_in (slice_get all (unsigned_abs z))
text_for _ z = []

abbrev pub base_at : Option TypeDef → Option ℕ
base_at (Some (D.Distinct name at i)) = Some i
base_at _ = None

-- what a place of it starts at, so many declared types looked through
abbrev pub starts_at : ℕ → List TypeDef → ℕ → Literal
starts_at n ds i = blank_literal (form_in (form_within n (facts_in ds)) (type_at (types_in ds) i))

abbrev pub starts_all : ℕ → List TypeDef → List ℕ → Literals
starts_all n ds is = blank_literals (forms_in (form_within n (facts_in ds)) (types_at (types_in ds) is))

-- with one more at the end
abbrev pub and_last : Literals → Literal → Literals
and_last NoLiteral l = ALiteral l NoLiteral
and_last (ALiteral first rest) l = ALiteral first (and_last rest l)

-- The text of an ordinal, as `$` and `echo` show it.
use Rattle.std.specs.Prelude.{ℕ, ℤ, Bool, true, false, unsigned_abs, List, [], ◌∷◌, Option, Some, None, slice_get, codes}
use Rattle.std.specs.Fmt.{signed_decimal}
use Rattle.nim_types.specs.Types.{Ty, int, bool, char, enum, Facts, fact_of, members_in}
use Rattle.nim_program.specs.Ints.{is_true, low_byte}

abbrev pub bool_text : Bool → List ℕ
bool_text true = codes "true"
bool_text false = codes "false"

abbrev pub name_in : Option (List ℕ) → List ℕ
name_in None = []
name_in (Some text) = text

-- an int in decimal, a bool by its name, a char as its byte, and a member of an enum as declared
abbrev pub plain_text : Facts → Ty → ℤ → List ℕ
plain_text facts int z = signed_decimal z
plain_text facts bool z = bool_text (is_true z)
plain_text facts char z = low_byte z ∷ []
plain_text facts (enum key) z = name_in (slice_get (members_in (fact_of facts (enum key))) (unsigned_abs z))
plain_text facts _ z = []

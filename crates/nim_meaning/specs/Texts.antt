-- The text of a value, as `echo` writes it.
use Rattle.std.specs.Prelude.{ℕ, Bool, true, ◌&&◌, List, [], ◌∷◌, ◌++◌, length, Option, Some, None}
use Rattle.nim_types.specs.Types.{Ty, text, Facts}
use Rattle.nim_program.specs.Kinds.{below_distinct}
use Rattle.nim_program.specs.Texts.{plain_text}
use Rattle.nim_meaning.specs.Values.{Value, number_of, Operand, location_of}
use Rattle.nim_meaning.specs.State.{World, load, text_of, is_seen}

-- a text as it is, and all else by its number
abbrev pub value_text : Facts → World → Ty → Value → List ℕ
value_text facts world text v = text_of world v
value_text facts world ty v = plain_text facts ty (number_of v)

abbrev pub text_at : Facts → World → Option Ty → Value → List ℕ
text_at facts world None v = []
text_at facts world (Some ty) v = value_text facts world (below_distinct (length facts) facts ty) v

-- that of an operand, which may be lent
abbrev pub shown : Facts → World → Option Ty → Operand → List ℕ
shown facts world ty x = text_at facts world ty (load world (location_of x))

-- the texts of operands of types, one after another
abbrev pub texts_of : Facts → World → List (Option Ty) → List Operand → List ℕ
texts_of facts world [] xs = []
texts_of facts world (ty ∷ tys) [] = []
texts_of facts world (ty ∷ tys) (x ∷ xs) = shown facts world ty x ++ texts_of facts world tys xs

-- operands are there, with what they have in blocks
abbrev pub are_seen : World → List Operand → Bool
are_seen world [] = true
are_seen world (x ∷ xs) = is_seen world (location_of x) && are_seen world xs

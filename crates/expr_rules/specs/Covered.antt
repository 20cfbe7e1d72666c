-- What the labels of a `case` have to be: each value once.
use Rattle.std.specs.Prelude.{◌≡◌, ℕ, ℤ, int_le, true, false, List, ◌∷◌, Option, Some, None}
use Rattle.nim_types.specs.Types as type
use Rattle.nim_types.specs.Types.{Ty, Facts, same_text}
use Rattle.nim_program.specs.Program.{Label, Ordinals, Exactly}
use Rattle.expr_rules.specs.Builtins.{is_text}
use Rattle.expr_rules.specs.Choices.{Span, span_of, has_any}

-- two labels have a value of both
pub data Meets : Label → Label → Type 0 where
  ordinals_meet : {a b c d : ℤ} → int_le a d ≡ true → int_le c b ≡ true → Meets (Ordinals a b) (Ordinals c d)
  texts_meet : {s t : List ℕ} → same_text s t ≡ true → Meets (Exactly s) (Exactly t)

-- an earlier label has a value of it
pub data HasTwice : Label → List Label → Type 0 where
  twice_here : {l k : Label} {rest : List Label} → Meets l k → HasTwice l (k ∷ rest)
  twice_later : {l k : Label} {rest : List Label} → HasTwice l rest → HasTwice l (k ∷ rest)

-- an ordinal of the type
pub data HasOrdinal (facts : Facts) : Ty → ℤ → Type 0 where
  within_span : {ty : Ty} {s : Span} {z : ℤ} → span_of facts ty ≡ Some s → int_le s.from z ≡ true → int_le z s.to ≡ true → HasOrdinal facts ty z

-- Without `else` each value has a label; or it is over texts and gives no value.
pub data AreEnough (facts : Facts) : Ty → Option Ty → List Label → Type 0 where
  no_text_needed : {labels : List Label} → AreEnough facts type.text None labels
  each_ordinal : {ty : Ty} {gives : Option Ty} {labels : List Label} → is_text ty ≡ false
      → ((z : ℤ) → HasOrdinal facts ty z → has_any z labels ≡ true) → AreEnough facts ty gives labels

-- not each value has a label
pub data LacksValue (facts : Facts) : Ty → Option Ty → List Label → Type 0 where
  lacks_text : {t : Ty} {labels : List Label} → LacksValue facts type.text (Some t) labels
  lacks_ordinal : {ty : Ty} {gives : Option Ty} {labels : List Label} → is_text ty ≡ false
      → (((z : ℤ) → HasOrdinal facts ty z → has_any z labels ≡ true) → ⊥) → LacksValue facts ty gives labels

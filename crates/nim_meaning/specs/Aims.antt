-- Paths whose indexes are evaluated, and operands that wait to be worked on.
use Rattle.std.specs.Prelude.{ℕ, suc, ◌+◌, ℤ, Bool, true, false, ◌&&◌, not, List, [], ◌∷◌}
use Rattle.nim_types.specs.Types.{Facts}
use Rattle.nim_program.specs.declared.operation.Use.{Use}
use Rattle.nim_program.specs.Program.{Expr, Args, ByValue, ByPath, type_of}
use Rattle.nim_meaning.specs.Values.{Value, bytes, Base, Waiting, Made, at_base, Location, Operand, Given, At}
use Rattle.nim_meaning.specs.Acts.{Does, give, ◌>>=◌}
use Rattle.nim_meaning.specs.Deeds.{carry}
use Rattle.nim_meaning.specs.Here.{gives_hooked}
use Rattle.nim_meaning.specs.Shapes.{is_lent, is_text}
use Rattle.nim_meaning.specs.Places.{rooted, made, to_part, to_item, to_object}

-- ---- paths

-- A path whose indexes are evaluated, before it is looked up. It begins at a place, or with a fresh value: one without hooks is nobody's, any other
-- waits at its node.
pub data Aim : Type 0 where
  Root : (base : Base) → Aim
  Value_of : (value : Value) → Aim
  Waits_at : (level node : ℕ) → Aim
  PartOf : (aim : Aim) (part : ℕ) → Aim
  ItemOf : (aim : Aim) (index : ℤ) → Aim
  ObjectOf : (aim : Aim) → Aim

-- it is looked up in the present state
abbrev pub find : Aim → Does Location
find (Root base) = carry (rooted base)
find (Value_of v) = carry (made v)
find (Waits_at level node) = give (at_base (Waiting level node))
find (PartOf aim i) = find aim >>= (λ location. carry (to_part location i))
find (ItemOf aim z) = find aim >>= (λ location. carry (to_item location z))
find (ObjectOf aim) = find aim >>= (λ location. carry (to_object location))

-- where a path leads that begins with a fresh value
abbrev pub fresh_root : (hooked : Bool) → (level node : ℕ) → Value → Aim
fresh_root false level node v = Value_of v
fresh_root true level node v = Waits_at level node

-- ---- operands

-- an operand that is evaluated, and one whose place is looked up behind the last operand
pub data Ready : Type 0 where
  Evaluated : (operand : Operand) → Ready
  Aimed : (aim : Aim) → Ready

-- what is lent, and is somebody's own, stands where it waits; nobody owns the text of a literal
abbrev pub is_lent_own : Facts → Use → Expr → Bool
is_lent_own facts how value = gives_hooked facts (type_of value) && (is_lent how && not (is_text value))

abbrev pub operand_for : (lent : Bool) → (level node : ℕ) → Value → Operand
operand_for false level node v = Given v
operand_for true level node v = At (at_base (Waiting level node))

-- the places are looked up now, in their order
abbrev pub settle : List Ready → Does (List Operand)
settle [] = give []
settle (Evaluated x ∷ rest) = do
  xs ← settle rest
  give (x ∷ xs)
settle (Aimed aim ∷ rest) = do
  location ← find aim
  xs ← settle rest
  give (At location ∷ xs)

-- What is lent to a call stands somewhere: the text of a literal, which nobody owns, by itself. So a parameter that isn't the callee's own holds nothing.
abbrev pub standing : (literal : Bool) → Operand → Operand
standing true (Given v) = At (at_base (Made v))
standing literal x = x

abbrev pub is_lent_literal : Facts → Use → Expr → Bool
is_lent_literal facts how value = gives_hooked facts (type_of value) && (is_lent how && is_text value)

abbrev pub handed_over : Facts → Args → (uses : (position : ℕ) → Use) → (position : ℕ) → List Operand → List Operand
handed_over facts (ByValue value rest) uses i (x ∷ xs) = standing (is_lent_literal facts (uses i) value) x ∷ handed_over facts rest uses (suc i) xs
handed_over facts (ByPath path rest) uses i (x ∷ xs) = x ∷ handed_over facts rest uses (suc i) xs
handed_over facts operands uses i xs = xs

-- what is handed over to a call: values, and a word for each location
abbrev pub handed_bytes : List Operand → ℕ
handed_bytes [] = 0
handed_bytes (Given v ∷ xs) = bytes v + handed_bytes xs
handed_bytes (At location ∷ xs) = 4 + handed_bytes xs

-- Lines of a procedure that give the same: a label, a value of a temporary, or where one leads. Those that give one name are alike: either all of them
-- have a property, or none. Properties of where a line stands are among these for labels and for texts, so a label stands once, and a text is all that
-- its temporary gets.
use Rattle.std.specs.Prelude.{◌≡◌, ℕ, ◌+◌, ◌*◌, nat_eq, Bool, true, false, not, ◌&&◌, ◌||◌, List, [], ◌∷◌, Option, Some, None}
use Rattle.flat_code.specs.declared.code.CodeProc.{CodeProc}
use Rattle.flat_code.specs.declared.line.Line.{Line}
use Rattle.flat_code.specs.declared.line.Line.TheVariants as L
use Rattle.flat_code.specs.declared.line.Piece.{Piece}
use Rattle.flat_code.specs.declared.line.Piece.TheVariants as P

-- ---- what lines give, by names: labels, values and locations have different ones

abbrev pub value_name : (temporary : ℕ) → ℕ
value_name t = 8 * t + 1

abbrev pub location_name : (temporary : ℕ) → ℕ
location_name t = 8 * t + 3

abbrev pub label_name : (label : ℕ) → ℕ
label_name label = 2 * label

abbrev pub name_of : Line → Option ℕ
name_of (L.Label name) = Some (label_name name)
name_of (L.Apply to operation how ty of from) = Some (value_name to)
name_of (L.Construct to how ty fields from) = Some (value_name to)
name_of (L.Constant to how ty pieces) = Some (value_name to)
name_of (L.Call to how ty proc from) = Some (value_name to)
name_of (L.Get to from how ty) = Some (value_name to)
name_of (L.Look to from) = Some (value_name to)
name_of (L.Pass to from how ty) = Some (value_name to)
name_of (L.Truth to holds) = Some (value_name to)
name_of (L.Zero to) = Some (value_name to)
name_of (L.Length to from) = Some (value_name to)
name_of (L.Element to from index) = Some (value_name to)
name_of (L.Beyond counter last inclusive to) = Some (value_name counter)
name_of (L.Next counter last) = Some (value_name counter)
name_of (L.CountTurn counter last inclusive to) = Some (value_name counter)
name_of (L.Root to place global) = Some (location_name to)
name_of (L.Fresh to from waits) = Some (location_name to)
name_of (L.Standing to ty pieces) = Some (location_name to)
name_of (L.Part to from field) = Some (location_name to)
name_of (L.Item to from index) = Some (location_name to)
name_of (L.Object to from) = Some (location_name to)
name_of line = None

abbrev pub is_one_text : List Piece → Bool
is_one_text (P.Text text ∷ []) = true
is_one_text pieces = false

-- a text, which stands in the data
abbrev pub gives_text : Line → Bool
gives_text (L.Constant to how ty pieces) = is_one_text pieces
gives_text line = false

-- ---- properties of lines, in front of those behind

-- Of what gives a value that is no text all or none have it; and what leads somewhere has it, whatever stands behind, or hasn't.
pub record IsProperty (has : Line → (behind : List Line) → Bool) (of_values : Bool) : Type 0 where
  pub values : (line : Line) (to : ℕ) (k : List Line) → name_of line ≡ Some (value_name to) → gives_text line ≡ false → has line k ≡ of_values
  pub locations : (line : Line) (to : ℕ) (k l : List Line) → name_of line ≡ Some (location_name to) → has line k ≡ has line l

abbrev pub is_named : (name : ℕ) → Option ℕ → Bool
is_named name None = false
is_named name (Some other) = nat_eq other name

abbrev pub is_as : Bool → Bool → Bool
is_as true b = b
is_as false b = not b

module _ (name : ℕ) (has : Line → (behind : List Line) → Bool) where
  -- a line gives the name that has the property, or that hasn't
  abbrev pub gives_as : (b : Bool) → List Line → Bool
  gives_as b [] = false
  gives_as b (line ∷ k) = (is_named name (name_of line) && is_as b (has line k)) || gives_as b k

-- no name is given both with a property and without it
abbrev pub AreAlike : List Line → Type 0
AreAlike lines = (name : ℕ) (has : Line → (behind : List Line) → Bool) (of_values : Bool) → IsProperty has of_values →
    gives_as name has true lines && gives_as name has false lines ≡ false

abbrev pub AllAlike : List (CodeProc Line) → Type 0
AllAlike [] = Unit {0}
AllAlike (p ∷ procs) = AreAlike p.lines × AllAlike procs

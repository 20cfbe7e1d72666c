-- Temporaries that are other names: for a declared place, where a line leads to its location; for a temporary with a value, where one leads into that,
-- or for where it waits; and for a text in the data, where one gives a literal that is only read and that no line takes from a home. The first line of a
-- procedure that gives a temporary says it, and all that give it have to agree (specs/MayLower.antt). No public contract speaks of it.
use Rattle.std.specs.Prelude.{◌≡◌, ℕ, Bool, true, false, nat_eq, ◌||◌, if◌then◌else◌, List, [], ◌∷◌, ◌++◌, length, Option, Some, None}
use Rattle.std.specs.HashMap.{HashMap, get}
use Rattle.nim_program.specs.declared.operation.Operation.{Operation}
use Rattle.nim_program.specs.declared.operation.Operation.TheVariants as O
use Rattle.nim_program.specs.declared.operation.Use.{Use}
use Rattle.nim_program.specs.declared.operation.Use.TheVariants.{Lent, Looked}
use Rattle.flat_code.specs.declared.line.From.{From}
use Rattle.flat_code.specs.declared.line.From.TheVariants as F
use Rattle.flat_code.specs.declared.line.Line.{Line}
use Rattle.flat_code.specs.declared.line.Line.TheVariants as L
use Rattle.flat_code.specs.declared.line.Owning.TheVariants as W
use Rattle.flat_code.specs.declared.line.Piece.{Piece}
use Rattle.flat_code.specs.declared.line.Piece.TheVariants as P
use Rattle.flat_code.specs.declared.place.PlaceKind.{PlaceKind}
use Rattle.flat_code.specs.declared.place.PlaceKind.TheVariants as K
use Rattle.word_lowering.specs.declared.homes.Alias.{Alias}
use Rattle.word_lowering.specs.declared.homes.Alias.TheVariants.{Own, Place, Value, Node, Text}

-- ---- what lines give

-- the temporary that gets a value
abbrev pub value_to : Line → Option ℕ
value_to (L.Apply to operation how ty of from) = Some to
value_to (L.Construct to how ty fields from) = Some to
value_to (L.Constant to how ty pieces) = Some to
value_to (L.Call to how ty proc from) = Some to
value_to (L.Get to from how ty) = Some to
value_to (L.Look to from) = Some to
value_to (L.Pass to from how ty) = Some to
value_to (L.Truth to holds) = Some to
value_to (L.Zero to) = Some to
value_to (L.Length to from) = Some to
value_to (L.Element to from index) = Some to
value_to (L.Beyond counter last inclusive to) = Some counter
value_to (L.Next counter last) = Some counter
value_to (L.CountTurn counter last inclusive to) = Some counter
value_to line = None

-- the temporary that gets a location
abbrev pub location_to : Line → Option ℕ
location_to (L.Root to place global) = Some to
location_to (L.Fresh to from waits) = Some to
location_to (L.Standing to ty pieces) = Some to
location_to (L.Part to from field) = Some to
location_to (L.Item to from index) = Some to
location_to (L.Object to from) = Some to
location_to line = None

-- ---- texts of literals: those of the last line come first

-- the text that a constant is, if it is one
abbrev pub text_in : List Piece → Option (List ℕ)
text_in (P.Text text ∷ []) = Some text
text_in pieces = None

abbrev pub or_empty : Option (List ℕ) → List ℕ
or_empty None = []
or_empty (Some text) = text

abbrev pub text_of : Line → List ℕ
text_of (L.Constant to how ty pieces) = or_empty (text_in pieces)
text_of line = []

abbrev pub texts_of : List Line → List ℕ
texts_of [] = []
texts_of (line ∷ rest) = texts_of rest ++ text_of line

-- ---- aliases

-- a literal that is only read is nobody's, and stays where it stands
abbrev pub is_read : Use → Bool
is_read Lent = true
is_read Looked = true
is_read how = false

abbrev pub text_alias : (read : Bool) → (behind : ℕ) → Option (List ℕ) → Alias
text_alias read behind None = Own
text_alias true behind (Some text) = Text behind (length text)
text_alias false behind (Some text) = Own

-- what a line gives is another name for, where so many bytes of texts are behind it
abbrev pub alias_by : Line → (behind : ℕ) → Alias
alias_by (L.Root to place global) behind = Place place global
alias_by (L.Fresh to from None) behind = Value from
alias_by (L.Fresh to from (Some node)) behind = Node node
alias_by (L.Constant to how ty pieces) behind = text_alias (is_read how.how) behind (text_in pieces)
alias_by line behind = Own

abbrev pub is_it : ℕ → Option ℕ → Bool
is_it t None = false
is_it t (Some u) = nat_eq u t

abbrev pub alias_in : (given : Line → Option ℕ) → (t : ℕ) → List Line → Alias
alias_in given t [] = Own
alias_in given t (line ∷ rest) = if is_it t (given line) then alias_by line (length (texts_of rest)) else alias_in given t rest

-- ---- places whose addresses are needed: their locations are arguments of calls, or trade values

abbrev pub handed_by : Line → List From
handed_by (L.Call to how ty proc from) = from
handed_by (L.Apply to O.Swap how ty of from) = from
handed_by (L.Own (W.PlaceStands place) from) = from
handed_by line = []

-- the temporaries whose locations are among operands
abbrev pub places_in : List From → List ℕ
places_in [] = []
places_in (F.Value t ∷ from) = places_in from
places_in (F.Place t ∷ from) = t ∷ places_in from

abbrev pub handed_in : List Line → List ℕ
handed_in [] = []
handed_in (line ∷ rest) = places_in (handed_by line) ++ handed_in rest

abbrev pub is_among : ℕ → List ℕ → Bool
is_among n [] = false
is_among n (m ∷ ms) = nat_eq m n || is_among n ms

-- the place of the call to whose location a line leads, where that is handed on
abbrev pub addressed_by : (handed : List ℕ) → Line → Option ℕ
addressed_by handed (L.Root to place false) = if is_among to handed then Some place else None
addressed_by handed line = None

abbrev pub and_some : Option ℕ → List ℕ → List ℕ
and_some None rest = rest
and_some (Some n) rest = n ∷ rest

abbrev pub addressed_in : (handed : List ℕ) → List Line → List ℕ
addressed_in handed [] = []
addressed_in handed (line ∷ rest) = and_some (addressed_by handed line) (addressed_in handed rest)

abbrev pub addressed : List Line → List ℕ
addressed lines = addressed_in (handed_in lines) lines

-- ---- places to which lines give locations

abbrev pub stands_by : Line → Option ℕ
stands_by (L.Own (W.PlaceStands place) from) = Some place
stands_by line = None

abbrev pub standing : List Line → List ℕ
standing [] = []
standing (line ∷ rest) = and_some (stands_by line) (standing rest)

-- each time for another one, so that a location of such a place has a home of its own
abbrev pub own_where : (standing : List ℕ) → Alias → Alias
own_where standing (Place p false) = if is_among p standing then Own else Place p false
own_where standing alias = alias

-- ---- values that lines take from homes

-- operations that read texts, each of which may be a literal
abbrev pub reads_texts : Operation → Bool
reads_texts (O.Compare comparison) = true
reads_texts O.Join = true
reads_texts O.Show = true
reads_texts (O.Measure measure) = true
reads_texts O.Echo = true
reads_texts O.Append = true
reads_texts operation = false

-- the values that a line takes from homes of their own, which are no other names for literals
abbrev pub homed_by : Line → List From
homed_by (L.Apply to operation how ty of from) = if reads_texts operation then [] else from
homed_by (L.Construct to how ty fields from) = from
homed_by (L.Call to how ty proc from) = from
homed_by (L.Fresh to from waits) = F.Value from ∷ []
homed_by (L.Pass to from how ty) = F.Value from ∷ []
homed_by (L.Fill place from) = F.Value from ∷ []
homed_by (L.Give place from) = F.Value from ∷ []
homed_by (L.Own what from) = from
homed_by line = []

-- the temporaries with values that are among operands
abbrev pub values_in : List From → List ℕ
values_in [] = []
values_in (F.Value t ∷ from) = t ∷ values_in from
values_in (F.Place t ∷ from) = values_in from

abbrev pub homed : List Line → List ℕ
homed [] = []
homed (line ∷ rest) = values_in (homed_by line) ++ homed rest

-- a literal that one is has a home then, and its handle stands there
abbrev pub own_literal : (homed : List ℕ) → (t : ℕ) → Alias → Alias
own_literal homed t (Text behind bytes) = if is_among t homed then Own else Text behind bytes
own_literal homed t alias = alias

-- what a place of some kind is another name for
abbrev pub alias_for : PlaceKind → (number : ℕ) → List Line → Alias
alias_for K.Temp t lines = own_literal (homed lines) t (alias_in value_to t lines)
alias_for K.Location t lines = own_where (standing lines) (alias_in location_to t lines)
alias_for K.Within t lines = own_where (standing lines) (alias_in location_to t lines)
alias_for kind n lines = Own

-- ---- as the code has them, by number

abbrev pub or_own : Option Alias → Alias
or_own None = Own
or_own (Some alias) = alias

abbrev pub FindsAliases : {S : Type 0} → HashMap ℕ Alias S → (given : Line → Option ℕ) → List Line → Type 0
FindsAliases names given lines = (t : ℕ) → or_own (get nat_eq names t) ≡ alias_in given t lines

-- Values, and where they stand.
use Rattle.std.specs.Prelude.{ℕ, zero, suc, ◌+◌, ℤ, pos, Bool, true, false, ◌&&◌, if◌then◌else◌, List, [], ◌∷◌, ◌++◌, length, slice_set, Option, Some, None}
use Rattle.nim_types.specs.Types.{Ty, Facts}
use Rattle.nim_types.specs.Forms.{Form, plain, reference, block, elements, row, parts, resource, wrapped, Forms, no_forms, forms, or_word, form_of}
use Rattle.nim_types.specs.Forms.{of_some, hooked, hooked_any}
use Rattle.nim_program.specs.Ints.{low_byte}
use Rattle.nim_program.specs.Program.{Literal, Number as Ordinal, Characters, NoObject, PartsOf, ElementsOf, Literals, NoLiteral, ALiteral}

mutual
  -- An int, a bool, a char or a member of an enum; or the parts of an object, a tuple or an array; or a text or sequence by its length and
  -- its block, which has its contents; or a text that nobody owns, of a literal that is read; or a ref; or an object with hooks of its own,
  -- with an identity unless it is blank. A part that was moved from is gone: its value is what still stands there for hooks to see, unless the
  -- move was the place's last one. A part is vacant where nothing stands: it isn't filled yet, was taken, or was destroyed.
  pub data Value : Type 0 where
    Number : (number : ℤ) → Value
    Parts : (all : Values) → Value
    Handle : (length : ℕ) (block : Option ℕ) → Value
    Fixed : (text : List ℕ) → Value
    Ref : (object : Option ℕ) → Value
    Resource : (all : Values) (identity : Option ℕ) → Value
    Gone : (value : Value) (final : Bool) → Value
    Vacant : Value

  pub data Values : Type 0 where
    Nil : Values
    More : (first : Value) (rest : Values) → Values

-- the block of a text or a sequence, None of an empty one
abbrev pub block_of : Value → Option ℕ
block_of (Handle n k) = k
block_of _ = None

-- a text or a sequence with a length and a block of its own
abbrev pub is_handle : Value → Bool
is_handle (Handle n k) = true
is_handle _ = false

-- what stands for a value that nobody looks at
abbrev pub nothing : Value
nothing = Number (pos 0)

-- of a plain value; the typing rules ask it of no other
abbrev pub number_of : Value → ℤ
number_of (Number n) = n
number_of _ = pos 0

abbrev pub count : Values → ℕ
count Nil = 0
count (More first rest) = suc (count rest)

abbrev pub characters : List ℕ → Values
characters [] = Nil
characters (c ∷ text) = More (Number (pos c)) (characters text)

-- the parts of a row, and the characters of a text
abbrev pub parts_of : Value → Values
parts_of (Parts all) = all
parts_of (Resource all identity) = all
parts_of (Fixed text) = characters text
parts_of _ = Nil

-- how many parts or elements a value has
abbrev pub length_of : Value → ℕ
length_of (Parts all) = count all
length_of (Handle n k) = n
length_of (Fixed text) = length text
length_of _ = 0

-- the bytes of a text that is read
abbrev pub text_in : Value → List ℕ
text_in (Fixed text) = text
text_in _ = []

abbrev pub nth : Values → ℕ → Value
nth Nil i = nothing
nth (More first rest) zero = first
nth (More first rest) (suc i) = nth rest i

-- the first values, and one list of values behind another
abbrev pub first_of : ℕ → Values → Values
first_of zero vs = Nil
first_of (suc n) Nil = Nil
first_of (suc n) (More first rest) = More first (first_of n rest)

abbrev pub joined : Values → Values → Values
joined Nil ws = ws
joined (More first rest) ws = More first (joined rest ws)

abbrev pub with_nth : Values → ℕ → Value → Values
with_nth Nil i new = Nil
with_nth (More first rest) zero new = More new rest
with_nth (More first rest) (suc i) new = More first (with_nth rest i new)

abbrev pub with_part : Value → ℕ → Value → Value
with_part (Parts all) i new = Parts (with_nth all i new)
with_part (Resource all identity) i new = Resource (with_nth all i new) identity
with_part (Fixed text) i new = Fixed (slice_set text i (low_byte (number_of new)))
with_part v i new = v

-- the part at a position
abbrev pub nth_part : Value → ℕ → Value
nth_part Vacant i = Vacant
nth_part v i = nth (parts_of v) i

-- the part at a path
abbrev pub part : Value → List ℕ → Value
part v [] = v
part v (i ∷ path) = part (nth_part v i) path

-- the value with another part at a path
abbrev pub put_part : Value → List ℕ → Value → Value
put_part v [] new = new
put_part v (i ∷ path) new = with_part v i (put_part (nth_part v i) path new)

-- All of it is there: nothing is vacant or gone at any of its parts. What it has in blocks isn't asked for.
abbrev mutual
  pub is_full : Value → Bool
  is_full (Number n) = true
  is_full (Parts all) = all_full all
  is_full (Handle n k) = true
  is_full (Fixed text) = true
  is_full (Ref object) = true
  is_full (Resource all identity) = all_full all
  is_full (Gone v final) = false
  is_full Vacant = false

  pub all_full : Values → Bool
  all_full Nil = true
  all_full (More first rest) = is_full first && all_full rest

-- the bytes of a place that holds it
abbrev mutual
  pub bytes : Value → ℕ
  bytes (Number n) = 4
  bytes (Parts all) = or_word (bytes_all all)
  bytes (Handle n k) = 8
  bytes (Fixed text) = 8
  bytes (Ref object) = 4
  bytes (Resource all identity) = or_word (bytes_all all)
  bytes (Gone v final) = bytes v
  bytes Vacant = 0

  pub bytes_all : Values → ℕ
  bytes_all Nil = 0
  bytes_all (More first rest) = bytes first + bytes_all rest

abbrev pub repeated : ℕ → Value → Values
repeated zero v = Nil
repeated (suc n) v = More v (repeated n v)

-- what a place of a form starts at; an object with hooks of its own is blank until it is born
abbrev mutual
  pub blank : Form → Value
  blank plain = Number (pos 0)
  blank reference = Ref None
  blank block = Handle 0 None
  blank (elements f) = Handle 0 None
  blank (row n f) = Parts (repeated n (blank f))
  blank (parts fs) = Parts (blanks fs)
  blank (resource fs) = Resource (blanks fs) None
  blank (wrapped f) = blank f

  pub blanks : Forms → Values
  blanks no_forms = Nil
  blanks (forms f fs) = More (blank f) (blanks fs)

-- what a place of a form is before it is filled: nothing stands at any of its parts
abbrev mutual
  pub vacant : Form → Value
  vacant (row n f) = if of_some n (hooked f) then Parts (repeated n (vacant f)) else Vacant
  vacant (parts fs) = if hooked_any fs then Parts (all_vacant fs) else Vacant
  vacant (wrapped f) = vacant f
  vacant f = Vacant

  pub all_vacant : Forms → Values
  all_vacant no_forms = Nil
  all_vacant (forms f fs) = More (vacant f) (all_vacant fs)

-- what a place of a type starts at
abbrev pub default_of : Facts → Ty → Value
default_of facts ty = blank (form_of facts ty)

-- The value of a constant that is read where it stands. A sequence in one has its elements beside one another.
abbrev mutual
  pub literal_value : Literal → Value
  literal_value (Ordinal n) = Number n
  literal_value (Characters text) = Fixed text
  literal_value NoObject = Ref None
  literal_value (PartsOf all) = Parts (literal_values all)
  literal_value (ElementsOf all) = Parts (literal_values all)

  pub literal_values : Literals → Values
  literal_values NoLiteral = Nil
  literal_values (ALiteral first rest) = More (literal_value first) (literal_values rest)

-- ---- where values stand

-- Where a location begins: at a place, by the level of its call and its number; at the value of a node that waits in a call; in a block, by
-- its identity; at a value under way, by its position in the hand; at the message of an exception; or at a value that nobody owns.
pub data Base : Type 0 where
  Standing : (level number : ℕ) → Base
  Waiting : (level node : ℕ) → Base
  InBlock : (block : ℕ) → Base
  InHand : (position : ℕ) → Base
  InException : (exception : ℕ) → Base
  Made : (value : Value) → Base

-- A base, followed by the positions of parts; a location never leads out of one block or place into another. The last object that the look-up came
-- through, if any: what holds it holds the location.
pub record Location : Type 0 where
  pub base : Base
  pub path : List ℕ
  pub through : Option ℕ

abbrev pub deeper : Location → ℕ → Location
deeper location i = record location { path = location.path ++ i ∷ [] }

-- What a place of a call is: it holds a value, which it owns; or is another name for a location, as a `var` parameter, or one that is lent what waits in
-- its caller; or has a value that is lent to it, with where its owner keeps it, None of what nobody owns, and what was there when it was lent, contents
-- of blocks included.
pub data Slot : Type 0 where
  Holds : (value : Value) → Slot
  Stands : (location : Location) → Slot
  Lends : (value : Value) (from : Option Location) (seen : Value) → Slot

abbrev pub value_in : Slot → Value
value_in (Holds v) = v
value_in (Stands location) = nothing
value_in (Lends v from seen) = v

-- an element of what stands at a location: in it, or in its block
abbrev pub item_of : Value → Location → ℕ → Location
item_of (Handle n (Some k)) location i = record location { base = InBlock k; path = i ∷ [] }
item_of v location i = deeper location i

abbrev pub at_base : Base → Location
at_base base = record { base = base; path = []; through = None }

-- a place is its own location, unless it is another name for one
abbrev pub through : Location → Slot → Location
through own (Holds v) = own
through own (Stands other) = other
through own (Lends v from seen) = own

-- ---- operands

-- what an operation works on: a value that nobody owns, or a location
pub data Operand : Type 0 where
  Given : (value : Value) → Operand
  At : (location : Location) → Operand

abbrev pub nowhere : Location
nowhere = at_base (Made nothing)

abbrev pub value_of : Operand → Value
value_of (Given v) = v
value_of (At location) = nothing

abbrev pub location_of : Operand → Location
location_of (Given v) = at_base (Made v)
location_of (At location) = location

-- the operand at a position
abbrev pub operand : List Operand → ℕ → Operand
operand [] i = Given nothing
operand (x ∷ xs) zero = x
operand (x ∷ xs) (suc i) = operand xs i

abbrev pub value : List Operand → ℕ → Value
value xs i = value_of (operand xs i)

abbrev pub number : List Operand → ℕ → ℤ
number xs i = number_of (value xs i)

abbrev pub location : List Operand → ℕ → Location
location xs i = location_of (operand xs i)

abbrev pub values_in : List Operand → Values
values_in [] = Nil
values_in (x ∷ xs) = More (value_of x) (values_in xs)

-- the slots of parameters that operands are handed to
abbrev pub slot_for : Operand → Slot
slot_for (Given v) = Holds v
slot_for (At location) = Stands location

abbrev pub slots_for : List Operand → List Slot
slots_for [] = []
slots_for (x ∷ xs) = slot_for x ∷ slots_for xs

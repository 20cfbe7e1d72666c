-- What a type is, with what its declaration says of it.
use Rattle.std.specs.Prelude.{ℕ, zero, suc, ℤ, pos, ◌^◌, nat_eq, Bool, true, false, ◌&&◌, ◌||◌, List, [], ◌∷◌, length, Option, Some, None}
use Rattle.nim_types.specs.Types as type
use Rattle.nim_types.specs.Types.{Ty, Tys, no_types, types, Fact, members, fields, base, below, Facts, fact_of, base_in, same}
use Rattle.nim_types.specs.Forms.{types_of}
use Rattle.nim_program.specs.declared.operation.Comparison.{Comparison}
use Rattle.nim_program.specs.declared.operation.Comparison.TheVariants.{Equal, Unequal}
use Rattle.nim_program.specs.Ints.{low, fits, inside}
use Rattle.nim_program.specs.Program.{Literal, Literals, Number, Characters, NoObject, PartsOf, ElementsOf, NoLiteral, ALiteral}

pub data TypeKind : Type 0 where
  int : TypeKind
  bool : TypeKind
  char : TypeKind
  text : TypeKind
  -- with so many members
  enum : (count : ℕ) → TypeKind
  sequence : (of : Ty) → TypeKind
  array : (count : ℕ) → (of : Ty) → TypeKind
  tuple : (parts : Tys) → TypeKind
  -- with fields of these types; a resource has hooks of its own
  object : (resource : Bool) → (all : Tys) → TypeKind
  distinct : (base : Ty) → TypeKind
  ref : (to : Ty) → TypeKind
  exception : TypeKind
  parameter : TypeKind
  -- a declared type of which nothing is said, and what has no type
  other : TypeKind

-- by what a declaration says
abbrev pub declared_kind : Option Fact → TypeKind
declared_kind (Some (members names)) = enum (length names)
declared_kind (Some (fields all resource)) = object resource (types_of all)
declared_kind (Some (base t)) = distinct t
declared_kind (Some (below parent)) = exception
declared_kind None = other

abbrev pub kind_of : Facts → Ty → TypeKind
kind_of facts type.int = int
kind_of facts type.bool = bool
kind_of facts type.char = char
kind_of facts type.text = text
kind_of facts (type.sequence t) = sequence t
kind_of facts (type.array n t) = array n t
kind_of facts (type.tuple names ts) = tuple ts
kind_of facts (type.parameter n) = parameter
kind_of facts (type.ref name t) = ref t
kind_of facts ty = declared_kind (fact_of facts ty)

-- a distinct type is looked through, to its base and on, at most so often
abbrev pub base_or : (known : Ty → Ty) → Ty → Option Ty → Ty
base_or known ty None = ty
base_or known ty (Some t) = known t

abbrev pub below_distinct : ℕ → Facts → Ty → Ty
below_distinct zero facts ty = ty
below_distinct (suc n) facts ty = base_or (below_distinct n facts) ty (base_in (fact_of facts ty))

abbrev pub plain_kind : Facts → Ty → TypeKind
plain_kind facts ty = kind_of facts (below_distinct (length facts) facts ty)

-- of what may have no type
abbrev pub kind_if : Facts → Option Ty → TypeKind
kind_if facts None = other
kind_if facts (Some ty) = kind_of facts ty

abbrev pub plain_kind_if : Facts → Option Ty → TypeKind
plain_kind_if facts None = other
plain_kind_if facts (Some ty) = plain_kind facts ty

-- ---- which kind it is

abbrev pub is_int : TypeKind → Bool
is_int int = true
is_int _ = false

abbrev pub is_bool : TypeKind → Bool
is_bool bool = true
is_bool _ = false

abbrev pub is_text : TypeKind → Bool
is_text text = true
is_text _ = false

abbrev pub is_ordinal : TypeKind → Bool
is_ordinal int = true
is_ordinal bool = true
is_ordinal char = true
is_ordinal (enum n) = true
is_ordinal _ = false

-- what texts are joined of
abbrev pub is_joined : TypeKind → Bool
is_joined text = true
is_joined char = true
is_joined _ = false

-- what selects in a `case`
abbrev pub is_selected : TypeKind → Bool
is_selected k = is_ordinal k || is_text k

-- what has a text; of a type parameter, where the instance's has
abbrev pub is_shown : TypeKind → Bool
is_shown parameter = true
is_shown k = is_selected k

-- what is compared: refs by identity, and so for equality alone
abbrev pub is_compared : Comparison → TypeKind → Bool
is_compared Equal (ref t) = true
is_compared Unequal (ref t) = true
is_compared comparison k = is_shown k

abbrev pub is_sequence : TypeKind → Bool
is_sequence (sequence t) = true
is_sequence _ = false

abbrev pub is_ref : TypeKind → Bool
is_ref (ref t) = true
is_ref _ = false

abbrev pub is_exception : TypeKind → Bool
is_exception exception = true
is_exception _ = false

-- what places hold and operations give: all but an exception
abbrev pub is_held : TypeKind → Bool
is_held exception = false
is_held _ = true

abbrev pub is_resource : TypeKind → Bool
is_resource (object resource all) = resource
is_resource _ = false

-- what is made of parts
abbrev pub is_made : TypeKind → Bool
is_made (array n t) = true
is_made (tuple ts) = true
is_made _ = false

-- what has a length, which is an int
abbrev pub has_length : TypeKind → Bool
has_length text = true
has_length (sequence t) = true
has_length (array n t) = fits (pos n)
has_length _ = false

-- whose length can be set
abbrev pub is_resized : TypeKind → Bool
is_resized text = true
is_resized (sequence t) = true
is_resized _ = false

-- ---- the types of parts

abbrev pub nth_type : Tys → ℕ → Option Ty
nth_type no_types i = None
nth_type (types t ts) zero = Some t
nth_type (types t ts) (suc i) = nth_type ts i

abbrev pub count_types : Tys → ℕ
count_types no_types = 0
count_types (types t ts) = suc (count_types ts)

abbrev pub message : ℕ → Option Ty
message zero = Some type.text
message (suc i) = None

-- a field of an object, a part of a tuple; of an exception its message
abbrev pub field_at : TypeKind → ℕ → Option Ty
field_at (tuple ts) i = nth_type ts i
field_at (object resource ts) i = nth_type ts i
field_at exception i = message i
field_at _ i = None

-- an element of a text, a sequence, an array
abbrev pub element_of : TypeKind → Option Ty
element_of text = Some type.char
element_of (sequence t) = Some t
element_of (array n t) = Some t
element_of _ = None

-- what a ref leads to
abbrev pub object_of : TypeKind → Option Ty
object_of (ref t) = Some t
object_of _ = None

-- what stands at a position of a literal: a field, a part, an element
abbrev pub part_at : TypeKind → ℕ → Option Ty
part_at (sequence t) i = Some t
part_at (array n t) i = Some t
part_at (tuple ts) i = nth_type ts i
part_at (object resource ts) i = nth_type ts i
part_at _ i = None

-- each value has so many parts
abbrev pub has_parts : TypeKind → ℕ → Bool
has_parts (array n t) count = nat_eq n count
has_parts (tuple ts) count = nat_eq (count_types ts) count
has_parts (object resource ts) count = nat_eq (count_types ts) count
has_parts _ count = false

-- ---- ordinals

-- whether a number is a value
abbrev pub is_among : TypeKind → ℤ → Bool
is_among int z = true
is_among bool z = inside z 2
is_among char z = inside z 256
is_among (enum n) z = inside z n
is_among _ z = false

abbrev pub is_value : TypeKind → ℤ → Bool
is_value k z = fits z && is_among k z

-- how many values there are, the first one, and the number behind the last one
abbrev pub value_count : TypeKind → ℕ
value_count int = 2 ^ 32
value_count bool = 2
value_count char = 256
value_count (enum n) = n
value_count _ = 0

abbrev pub first_value : TypeKind → ℤ
first_value int = low
first_value _ = pos 0

abbrev pub behind_last : TypeKind → ℤ
behind_last int = pos (2 ^ 31)
behind_last bool = pos 2
behind_last char = pos 256
behind_last (enum n) = pos n
behind_last _ = pos 0

-- ---- equal types

-- both are there, and equal
abbrev pub is_of : Option Ty → Option Ty → Bool
is_of (Some s) (Some t) = same s t
is_of _ _ = false

-- the same, or both are not there
abbrev pub same_value : Option Ty → Option Ty → Bool
same_value None None = true
same_value s t = is_of s t

-- there is one, of which this holds
abbrev pub for_some : Option Ty → (Ty → Bool) → Bool
for_some None holds = false
for_some (Some t) holds = holds t

abbrev pub is_there : Option Ty → Bool
is_there None = false
is_there (Some t) = true

-- ---- constants

abbrev pub count_literals : Literals → ℕ
count_literals NoLiteral = 0
count_literals (ALiteral first rest) = suc (count_literals rest)

abbrev mutual
  -- a value of the type, whose length is an int
  pub is_constant : Facts → Ty → Literal → Bool
  is_constant facts ty (Number z) = is_value (plain_kind facts ty) z
  is_constant facts ty (Characters bytes) = is_text (plain_kind facts ty)
  is_constant facts ty NoObject = is_ref (plain_kind facts ty)
  is_constant facts ty (PartsOf all) = has_parts (plain_kind facts ty) (count_literals all) && are_constants facts (plain_kind facts ty) 0 all
  is_constant facts ty (ElementsOf all) =
      (is_sequence (plain_kind facts ty) && fits (pos (count_literals all))) && are_constants facts (plain_kind facts ty) 0 all

  -- the parts of one, from a position on
  pub are_constants : Facts → TypeKind → ℕ → Literals → Bool
  are_constants facts k i NoLiteral = true
  are_constants facts k i (ALiteral first rest) = for_some (part_at k i) (λ ty. is_constant facts ty first) && are_constants facts k (suc i) rest

-- ---- types of a program

abbrev pub is_among_types : List Ty → Ty → Bool
is_among_types [] ty = false
is_among_types (t ∷ ts) ty = same ty t || is_among_types ts ty

abbrev pub are_among_types : List Ty → List Ty → Bool
are_among_types all [] = true
are_among_types all (t ∷ ts) = is_among_types all t && are_among_types all ts

-- what is said of a declared type is of its sort, and an enum has a value
abbrev pub is_declared_as : Ty → TypeKind → Bool
is_declared_as (type.enum key) (enum (suc n)) = true
is_declared_as (type.object key arguments) (object resource all) = true
is_declared_as (type.distinct key) (distinct t) = true
is_declared_as (type.exception key) exception = true
is_declared_as (type.enum key) _ = false
is_declared_as (type.object key arguments) _ = false
is_declared_as (type.distinct key) _ = false
is_declared_as (type.exception key) _ = false
is_declared_as _ _ = true

abbrev pub are_declared : Facts → List Ty → Bool
are_declared facts [] = true
are_declared facts (t ∷ ts) = is_declared_as t (kind_of facts t) && are_declared facts ts

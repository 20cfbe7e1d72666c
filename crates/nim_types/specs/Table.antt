-- What a table of types means: its entries are distinct types, by number, and what declarations say of them.
use Rattle.std.specs.Prelude.{◌≡◌, ℕ, zero, suc, ◌<◌, ◌^◌, ◌-◌, ◌⊎◌, min, Bool, List, [], ◌∷◌, ◌++◌, length, Option, Some, None, slice_get}
use Rattle.arc_base.specs.declared.place.Place.{Place}
use Rattle.nim_types.specs.declared.types.FieldName.{FieldName}
use Rattle.nim_types.specs.declared.types.TypeDef.{TypeDef}
use Rattle.nim_types.specs.declared.types.TypeDef.TheVariants as D
use Rattle.nim_types.specs.Types.{Ty, int, bool, char, text, sequence, array, tuple, parameter, enum, object, distinct, ref, exception, Tys, no_types, types}
use Rattle.nim_types.specs.Types.{Key, Field, Fact, members, fields, base, below, Facts, fact_of}
use Rattle.nim_types.specs.Forms.{Form, IsForm, size, hooked}

-- ---- types by number

abbrev pub type_at : List Ty → ℕ → Ty
type_at [] i = int
type_at (t ∷ ts) zero = t
type_at (t ∷ ts) (suc i) = type_at ts i

abbrev pub types_at : List Ty → List ℕ → Tys
types_at ts [] = no_types
types_at ts (i ∷ is) = types (type_at ts i) (types_at ts is)

abbrev pub key_of : List ℕ → Place → Key
key_of name at = record { name = name; at = at }

-- what an entry means, over the types of the table
abbrev pub meant : List Ty → TypeDef → Ty
meant ts D.Int = int
meant ts D.Bool = bool
meant ts D.Char = char
meant ts D.Text = text
meant ts (D.Seq i) = sequence (type_at ts i)
meant ts (D.Param n) = parameter n
meant ts (D.Enum name at all) = enum (key_of name at)
meant ts (D.Array n i) = array n (type_at ts i)
meant ts (D.Tuple names is) = tuple names (types_at ts is)
meant ts (D.Object name at is all own_hooks parts) = object (key_of name at) (types_at ts is)
meant ts (D.Distinct name at i) = distinct (key_of name at)
meant ts (D.Ref name i) = ref name (type_at ts i)
meant ts (D.Exception name at parent) = exception (key_of name at)

-- by the types before it
abbrev pub types_onto : List Ty → List TypeDef → List Ty
types_onto done [] = done
types_onto done (d ∷ ds) = types_onto (done ++ meant done d ∷ []) ds

abbrev pub types_in : List TypeDef → List Ty
types_in ds = types_onto [] ds

-- ---- what declarations say

-- an object's fields, None where their types aren't known yet
abbrev pub and_field : FieldName → Ty → Option (List Field) → Option (List Field)
and_field f t None = None
and_field f t (Some all) = Some (record { name = f.name; shown = f.shown; of = t } ∷ all)

abbrev pub fields_with : List Ty → List FieldName → List ℕ → Option (List Field)
fields_with ts [] [] = Some []
fields_with ts (f ∷ fs) (i ∷ is) = and_field f (type_at ts i) (fields_with ts fs is)
fields_with ts _ _ = None

abbrev pub fields_fact : Option (List Field) → Bool → Option Fact
fields_fact None own_hooks = None
fields_fact (Some all) own_hooks = Some (fields all own_hooks)

abbrev pub parent_in : List Ty → Option ℕ → Option Ty
parent_in ts None = None
parent_in ts (Some i) = Some (type_at ts i)

abbrev pub said_of : List Ty → TypeDef → Option Fact
said_of ts (D.Enum name at all) = Some (members all)
said_of ts (D.Object name at is all own_hooks parts) = fields_fact (fields_with ts all parts) own_hooks
said_of ts (D.Distinct name at i) = Some (base (type_at ts i))
said_of ts (D.Exception name at parent) = Some (below (parent_in ts parent))
said_of ts _ = None

abbrev pub and_said : Ty → Option Fact → Facts → Facts
and_said ty None rest = rest
and_said ty (Some fact) rest = record { of = ty; fact = fact } ∷ rest

abbrev pub facts_over : List Ty → List TypeDef → Facts
facts_over ts [] = []
facts_over ts (d ∷ ds) = and_said (meant ts d) (said_of ts d) (facts_over ts ds)

abbrev pub facts_in : List TypeDef → Facts
facts_in ds = facts_over (types_in ds) ds

-- ---- numbers of a table

abbrev pub AllBelow : ℕ → List ℕ → Type 0
AllBelow n [] = Unit {0}
AllBelow n (i ∷ is) = (i < n) × AllBelow n is

abbrev pub IsBelow : ℕ → Option ℕ → Type 0
IsBelow n None = Unit {0}
IsBelow n (Some i) = i < n

-- the numbers in an entry are below this one; an object's fields apart
abbrev pub IsWithin : ℕ → TypeDef → Type 0
IsWithin n (D.Seq i) = i < n
IsWithin n (D.Array len i) = i < n
IsWithin n (D.Tuple names is) = AllBelow n is
IsWithin n (D.Object name at is all own_hooks parts) = AllBelow n is
IsWithin n (D.Distinct name at i) = i < n
IsWithin n (D.Ref name i) = i < n
IsWithin n (D.Exception name at parent) = IsBelow n parent
IsWithin n _ = Unit {0}

-- the types of an object's fields, none of what is no object
abbrev pub parts_of : TypeDef → List ℕ
parts_of (D.Object name at is all own_hooks parts) = parts
parts_of _ = []

abbrev pub WithinOnto : ℕ → List TypeDef → Type 0
WithinOnto n [] = Unit {0}
WithinOnto n (d ∷ ds) = IsWithin n d × WithinOnto (suc n) ds

abbrev pub OneNumber : List Ty → Type 0
OneNumber ts = (i j : ℕ) → i < length ts → j < length ts → type_at ts i ≡ type_at ts j → i ≡ j

-- What is true of the entries of each table.
pub record IsTable (ds : List TypeDef) : Type 0 where
  -- the parts of an entry stand before it, but for the types of fields, which stand somewhere
  pub within : WithinOnto 0 ds
  pub parts : (i : ℕ) (d : TypeDef) → slice_get ds i ≡ Some d → AllBelow (length ds) (parts_of d)
  pub one : OneNumber (types_in ds)
  pub small : length ds < 2 ^ 32

-- A further entry: its numbers are of the table, and an object comes without the types of its fields.
abbrev pub MayAdd : List TypeDef → TypeDef → Type 0
MayAdd ds d = IsWithin (length ds) d × (parts_of d ≡ [])

-- ---- what calls do

-- an equal type keeps its number
pub record Keeps (old : List TypeDef) (d : TypeDef) (id : ℕ) (new : List TypeDef) : Type 0 where
  pub same : new ≡ old
  pub within : id < length old
  pub equal : type_at (types_in old) id ≡ meant (types_in old) d

-- a new one gets the next
pub record Appends (old : List TypeDef) (d : TypeDef) (id : ℕ) (new : List TypeDef) : Type 0 where
  pub more : new ≡ old ++ d ∷ []
  pub next : id ≡ length old
  pub other : (j : ℕ) → j < length old → type_at (types_in old) j ≡ meant (types_in old) d → ⊥

abbrev pub Adds : List TypeDef → TypeDef → ℕ → List TypeDef → Type 0
Adds old d id new = Keeps old d id new ⊎ Appends old d id new

-- an object without the types of its fields, and as many types as it has fields
abbrev pub MayComplete : Option TypeDef → List ℕ → Type 0
MayComplete (Some (D.Object name at is all own_hooks parts)) given = (parts ≡ []) × (length given ≡ length all)
MayComplete _ given = ⊥

abbrev pub with_parts : List ℕ → TypeDef → TypeDef
with_parts given (D.Object name at is all own_hooks parts) = D.Object name at is all own_hooks given
with_parts given d = d

abbrev pub completed : List TypeDef → ℕ → List ℕ → List TypeDef
completed [] id given = []
completed (d ∷ ds) zero given = with_parts given d ∷ ds
completed (d ∷ ds) (suc id) given = d ∷ completed ds id given

-- Types keep their numbers, and what was said stays said.
pub record Grows (old new : List TypeDef) : Type 0 where
  pub types : (more : List Ty) × (types_in new ≡ types_in old ++ more)
  pub facts : (ty : Ty) (fact : Fact) → fact_of (facts_in old) ty ≡ Some fact → fact_of (facts_in new) ty ≡ Some fact

-- ---- storage

-- for the form of the type, where it has one
abbrev pub HasSize : List TypeDef → ℕ → ℕ → Type 0
HasSize ds id bytes = (whole : Bool) (f : Form) → IsForm whole (facts_in ds) (type_at (types_in ds) id) f → bytes ≡ min (size f) (2 ^ 32 - 1)

abbrev pub HasHooks : List TypeDef → ℕ → Bool → Type 0
HasHooks ds id says = (whole : Bool) (f : Form) → IsForm whole (facts_in ds) (type_at (types_in ds) id) f → says ≡ hooked f

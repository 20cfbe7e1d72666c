-- Values in memory: how many bytes those of a type have, by its number in the table, and where their parts stand.
use Rattle.std.specs.Prelude.{◌<◌, nat_eq, nat_lt, ◌&&◌, ℕ, zero, suc, ◌+◌, Bool, true, false, List, [], ◌∷◌, length, take, Option, Some, None, slice_get}
use Rattle.nim_types.specs.declared.types.TypeDef.{TypeDef}
use Rattle.nim_types.specs.declared.types.TypeDef.TheVariants as D
use Rattle.nim_types.specs.Table.{type_at, types_in, facts_in}
use Rattle.nim_types.specs.Forms.{Form, HasForm, size, hooked, form_of}

abbrev pub bytes_at : List TypeDef → ℕ → ℕ
bytes_at table ty = size (form_of (facts_in table) (type_at (types_in table) ty))

-- of types one behind the other
abbrev pub bytes_all : List TypeDef → List ℕ → ℕ
bytes_all table [] = 0
bytes_all table (ty ∷ tys) = bytes_at table ty + bytes_all table tys

-- a type of the table for whose values there would be something to do
abbrev pub is_hooked : List TypeDef → (ty : ℕ) → Bool
is_hooked table ty = nat_lt ty (length table) && hooked (form_of (facts_in table) (type_at (types_in table) ty))

-- ---- a distinct type is as its base

abbrev pub base_or : (go : ℕ → ℕ) → ℕ → Option TypeDef → ℕ
base_or go ty (Some (D.Distinct name at base)) = go base
base_or go ty _ = ty

-- at most so many distinct types looked through
abbrev pub base_within : ℕ → List TypeDef → ℕ → ℕ
base_within zero table ty = ty
base_within (suc n) table ty = base_or (base_within n table) ty (slice_get table ty)

abbrev pub base_at : List TypeDef → ℕ → ℕ
base_at table ty = base_within (length table) table ty

abbrev pub entry_at : List TypeDef → ℕ → Option TypeDef
entry_at table ty = slice_get table (base_at table ty)

-- ---- parts

-- what is one word: no text, no sequence, no array, no tuple, no object
abbrev pub is_word : Option TypeDef → Bool
is_word (Some D.Text) = false
is_word (Some (D.Seq ty)) = false
is_word (Some (D.Array n ty)) = false
is_word (Some (D.Tuple names tys)) = false
is_word (Some (D.Object name at arguments fields own_hooks tys)) = false
is_word _ = true

-- one of 256 values: a character, or what has as many
abbrev pub is_letter : Option TypeDef → Bool
is_letter (Some D.Char) = true
is_letter (Some (D.Enum name at members)) = nat_eq (length members) 256
is_letter _ = false

-- the types of the parts of a tuple or an object
abbrev pub parts_in : Option TypeDef → List ℕ
parts_in (Some (D.Tuple names tys)) = tys
parts_in (Some (D.Object name at arguments fields own_hooks tys)) = tys
parts_in _ = []

-- how many bytes a part stands behind the whole
abbrev pub part_at : List TypeDef → ℕ → (field : ℕ) → ℕ
part_at table ty field = bytes_all table (take field (parts_in (entry_at table ty)))

-- of an array: how many elements it has, and how many bytes each has
abbrev pub count_in : Option TypeDef → ℕ
count_in (Some (D.Array n ty)) = n
count_in _ = 0

abbrev pub element_bytes : List TypeDef → Option TypeDef → ℕ
element_bytes table (Some (D.Array n ty)) = bytes_at table ty
element_bytes table _ = 0

-- ---- conversions

-- how many values a type has to which an int is converted with a check
abbrev pub limit_in : Option TypeDef → Option ℕ
limit_in (Some D.Char) = Some 256
limit_in (Some (D.Enum name at members)) = Some (length members)
limit_in _ = None

abbrev pub limit_at : List TypeDef → Option ℕ → Option ℕ
limit_at table None = None
limit_at table (Some ty) = limit_in (slice_get table ty)

-- ---- no type contains itself by value

abbrev pub HaveForms : List TypeDef → Type 0
HaveForms table = (ty : ℕ) → ty < length table → (f : Form) × HasForm (facts_in table) (type_at (types_in table) ty) f

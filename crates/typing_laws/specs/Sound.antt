-- Types as declarations make them: what is said of a declared type is of its sort, an enum has members with names, the length of an array is an
-- int, and there are no refs, type parameters and exceptions.
use Rattle.std.specs.Prelude.{◌≡◌, ℕ, pos, Bool, true, false, List, [], ◌∷◌, Some}
use Rattle.std.specs.List.{list_all}
use Rattle.nim_types.specs.Types as type
use Rattle.nim_types.specs.Types.{Ty, Tys, no_types, types, Key, Field, Fact, members, fields, base, Facts, fact_of}
use Rattle.nim_types.specs.Forms.{types_of, Form, HasForm}
use Rattle.nim_program.specs.Ints.{fits}
use Rattle.nim_program.specs.Kinds.{plain_kind}

mutual
  pub data Sound (facts : Facts) : Ty → Type 0 where
    of_int : Sound facts type.int
    of_bool : Sound facts type.bool
    of_char : Sound facts type.char
    of_text : Sound facts type.text
    of_sequence : {t : Ty} → Sound facts t → Sound facts (type.sequence t)
    of_array : {n : ℕ} {t : Ty} → fits (pos n) ≡ true → Sound facts t → Sound facts (type.array n t)
    of_tuple : {names : List (List ℕ)} {ts : Tys} → AllSound facts ts → Sound facts (type.tuple names ts)
    of_enum : {key : Key} {first : List ℕ} {rest : List (List ℕ)} → fact_of facts (type.enum key) ≡ Some (members (first ∷ rest))
        → Sound facts (type.enum key)
    of_object : {key : Key} {ts : Tys} {all : List Field} {resource : Bool} → fact_of facts (type.object key ts) ≡ Some (fields all resource)
        → Sound facts (type.object key ts)
    of_distinct : {key : Key} {t : Ty} → fact_of facts (type.distinct key) ≡ Some (base t) → Sound facts (type.distinct key)

  pub data AllSound (facts : Facts) : Tys → Type 0 where
    no_more : AllSound facts no_types
    and_more : {t : Ty} {ts : Tys} → Sound facts t → AllSound facts ts → AllSound facts (types t ts)

abbrev pub is_no_type : Tys → Bool
is_no_type no_types = true
is_no_type (types t ts) = false

abbrev pub has_bytes : List ℕ → Bool
has_bytes [] = false
has_bytes (b ∷ bytes) = true

-- an enum has members, and each has a name
abbrev pub are_members : List (List ℕ) → Bool
are_members [] = false
are_members (first ∷ rest) = list_all has_bytes (first ∷ rest)

-- what a declaration may say of a type
abbrev pub is_said : Ty → Fact → Bool
is_said (type.enum key) (members names) = are_members names
is_said (type.object key ts) (fields all resource) = is_no_type ts
is_said (type.distinct key) (base t) = true
is_said ty fact = false

-- What is said of types is sound: the types of fields and the bases are, each has a form, and a distinct type is as its base is, all looked through.
pub record AreSound (facts : Facts) : Type 0 where
  pub said : (ty : Ty) (fact : Fact) → fact_of facts ty ≡ Some fact → is_said ty fact ≡ true
  pub parts : (ty : Ty) (all : List Field) (resource : Bool) → fact_of facts ty ≡ Some (fields all resource) → AllSound facts (types_of all)
  pub bases : (ty t : Ty) → fact_of facts ty ≡ Some (base t) → Sound facts t
  pub plain : (ty t : Ty) → fact_of facts ty ≡ Some (base t) → plain_kind facts ty ≡ plain_kind facts t
  pub forms : (ty : Ty) → Sound facts ty → (f : Form) × HasForm facts ty f

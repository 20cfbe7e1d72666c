-- What types are made of and which are known, as least sets.
use Rattle.std.specs.Prelude.{◌≡◌, ◌↔◌, ℕ, true, List, [], ◌∷◌, length, Some}
use Rattle.arc_base.specs.declared.place.Place.{Place}
use Rattle.nim_types.specs.Types as type
use Rattle.nim_types.specs.Types.{Ty, Tys, Key}
use Rattle.decl_rules.specs.Meanings.{Meant, Defined, meant_in, made_of, contains, is_key_among, known_of, known_keys}

mutual
  -- a name that occurs in a type
  pub data Occurs (key : Key) : Ty → Type 0 where
    o_name : Occurs key (type.distinct key)
    o_sequence : {t : Ty} → Occurs key t → Occurs key (type.sequence t)
    o_array : {n : ℕ} {t : Ty} → Occurs key t → Occurs key (type.array n t)
    o_tuple : {names : List (List ℕ)} {ts : Tys} → OccursAmong key ts → Occurs key (type.tuple names ts)
    o_object : {object : Key} {ts : Tys} → OccursAmong key ts → Occurs key (type.object object ts)

  pub data OccursAmong (key : Key) : Tys → Type 0 where
    o_first : {t : Ty} {ts : Tys} → Occurs key t → OccursAmong key (type.types t ts)
    o_rest : {t : Ty} {ts : Tys} → OccursAmong key ts → OccursAmong key (type.types t ts)

pub data OccursInAny (key : Key) : List Ty → Type 0 where
  o_in_first : {t : Ty} {ts : List Ty} → Occurs key t → OccursInAny key (t ∷ ts)
  o_in_rest : {t : Ty} {ts : List Ty} → OccursInAny key ts → OccursInAny key (t ∷ ts)

-- by what its definition says, or through a type that it is made of
pub data Contains (all : List Defined) (inner : Key) : Key → Type 0 where
  c_part : {outer : Key} → OccursInAny inner (made_of (meant_in outer all)) → Contains all inner outer
  c_through : {outer between : Key} → OccursInAny between (made_of (meant_in outer all)) → Contains all inner between → Contains all inner outer

-- no type of these contains itself
pub data NoneContainsItself (all : List Defined) : List Defined → Type 0 where
  n_none : NoneContainsItself all []
  n_more : {d : Defined} {rest : List Defined} → (Contains all d.key d.key → ⊥) → NoneContainsItself all rest → NoneContainsItself all (d ∷ rest)

-- the first of these that contains itself stands at the place
pub data FirstContainsItself (all : List Defined) : List Defined → Place → Type 0 where
  n_itself : {d : Defined} {rest : List Defined} → Contains all d.key d.key → FirstContainsItself all (d ∷ rest) d.key.at
  n_later : {d : Defined} {rest : List Defined} {p : Place} → (Contains all d.key d.key → ⊥) → FirstContainsItself all rest p
      → FirstContainsItself all (d ∷ rest) p

-- A type is known where it is defined, and so are all types of the section that its definition names.
pub data IsKnown (section : List Key) (all : List Defined) : Key → Type 0 where
  k_known : {key : Key} {m : Meant} → meant_in key all ≡ Some m
      → ((k : Key) → is_key_among k section ≡ true → OccursInAny k (made_of (Some m)) → IsKnown section all k) → IsKnown section all key

-- it is found what a type contains, and whether it is known
abbrev pub ContainmentFound : Type 0
ContainmentFound = (all : List Defined) (inner outer : Key) → (contains (length all) all inner outer ≡ true) ↔ Contains all inner outer

abbrev pub KnownFound : Type 0
KnownFound = (section : List Key) (all : List Defined) (key : Key)
    → (is_key_among key (known_keys (known_of section all)) ≡ true) ↔ IsKnown section all key

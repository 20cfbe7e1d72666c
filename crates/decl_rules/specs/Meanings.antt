-- What the definitions of a section of types say. In them each type of the section is a name, that is, a distinct type of which nothing
-- is said. A type becomes known behind its definition and those of all types of the section in it; then its name has a meaning.
use Rattle.std.specs.Prelude.{ℕ, zero, suc, Bool, true, false, not, ◌||◌, ◌&&◌, if◌then◌else◌, List, [], ◌∷◌, ◌++◌, length}
use Rattle.std.specs.Prelude.{Option, Some, None}
use Rattle.nim_tree.specs.Types.{Declaration}
use Rattle.nim_types.specs.Types as type
use Rattle.nim_types.specs.Types.{Ty, Tys, Key, Field, Facts, same_key}
use Rattle.decl_rules.specs.Written.{Formed}

-- what a definition says of its type
pub data Meant : Type 0 where
  an_object : List Field → Meant
  -- the members as declared
  an_enum : List (List ℕ) → Meant
  a_distinct : (base : Ty) → Meant
  an_alias : (of : Ty) → Meant

-- a definition, with the array and tuple types that are written in it
pub record Defined : Type 0 where
  pub key : Key
  pub meant : Meant
  pub formed : List Formed

abbrev pub key_of : Declaration → Key
key_of d = record { name = d.name.text; at = d.name.at }

-- ---- what names mean

abbrev pub meant_in : Key → List Defined → Option Meant
meant_in key [] = None
meant_in key (d ∷ rest) = if same_key key d.key then Some d.meant else meant_in key rest

abbrev mutual
  -- a type with what is known by name replaced
  pub renamed : (by : Key → Ty) → Ty → Ty
  renamed by (type.sequence t) = type.sequence (renamed by t)
  renamed by (type.array n t) = type.array n (renamed by t)
  renamed by (type.tuple names ts) = type.tuple names (renamed_all by ts)
  renamed by (type.object key given) = type.object key (renamed_all by given)
  renamed by (type.distinct key) = by key
  renamed by (type.ref name t) = type.ref name (renamed by t)
  renamed by type.int = type.int
  renamed by type.bool = type.bool
  renamed by type.char = type.char
  renamed by type.text = type.text
  renamed by (type.parameter n) = type.parameter n
  renamed by (type.enum key) = type.enum key
  renamed by (type.exception key) = type.exception key

  pub renamed_all : (by : Key → Ty) → Tys → Tys
  renamed_all by type.no_types = type.no_types
  renamed_all by (type.types t ts) = type.types (renamed by t) (renamed_all by ts)

-- A type of the section that is known: what its name means, and what is said of it.
pub record KnownType : Type 0 where
  pub key : Key
  pub means : Ty
  pub says : Facts

abbrev pub meaning_in : Key → List KnownType → Option Ty
meaning_in key [] = None
meaning_in key (k ∷ rest) = if same_key key k.key then Some k.means else meaning_in key rest

-- what isn't known stays a name
abbrev pub or_name : Key → Option Ty → Ty
or_name key (Some t) = t
or_name key None = type.distinct key

-- a type in which names are what they mean
abbrev pub resolved : List KnownType → Ty → Ty
resolved known t = renamed (λ key. or_name key (meaning_in key known)) t

abbrev pub resolved_fields : List KnownType → List Field → List Field
resolved_fields known [] = []
resolved_fields known (f ∷ rest) = record f { of = resolved known f.of } ∷ resolved_fields known rest

-- an alias is what it names
abbrev pub meaning_of : List KnownType → Key → Meant → Ty
meaning_of known key (an_object all) = type.object key type.no_types
meaning_of known key (an_enum all) = type.enum key
meaning_of known key (a_distinct base) = type.distinct key
meaning_of known key (an_alias of) = resolved known of

abbrev pub facts_of : List KnownType → Key → Meant → Facts
facts_of known key (an_object all) =
    record { of = type.object key type.no_types; fact = type.fields (resolved_fields known all) false } ∷ []
facts_of known key (an_enum all) = record { of = type.enum key; fact = type.members all } ∷ []
facts_of known key (a_distinct base) = record { of = type.distinct key; fact = type.base (resolved known base) } ∷ []
facts_of known key (an_alias of) = []

-- a type whose definition names known ones alone
abbrev pub as_known : List KnownType → Defined → KnownType
as_known known d = record { key = d.key; means = meaning_of known d.key d.meant; says = facts_of known d.key d.meant }

abbrev pub known_facts : List KnownType → Facts
known_facts [] = []
known_facts (k ∷ rest) = k.says ++ known_facts rest

-- ---- what types are made of

abbrev pub field_types : List Field → List Ty
field_types [] = []
field_types (f ∷ rest) = f.of ∷ field_types rest

-- what a type is made of
abbrev pub made_of : Option Meant → List Ty
made_of (Some (an_object all)) = field_types all
made_of (Some (an_enum all)) = []
made_of (Some (a_distinct base)) = base ∷ []
made_of (Some (an_alias of)) = of ∷ []
made_of None = []

abbrev mutual
  -- whether a name that is meant occurs in a type; a reference leads to what it isn't made of
  pub occurs : (is_meant : Key → Bool) → Ty → Bool
  occurs is_meant (type.sequence t) = occurs is_meant t
  occurs is_meant (type.array n t) = occurs is_meant t
  occurs is_meant (type.tuple names ts) = occurs_in is_meant ts
  occurs is_meant (type.object key given) = occurs_in is_meant given
  occurs is_meant (type.distinct key) = is_meant key
  occurs is_meant (type.ref name t) = false
  occurs is_meant type.int = false
  occurs is_meant type.bool = false
  occurs is_meant type.char = false
  occurs is_meant type.text = false
  occurs is_meant (type.parameter n) = false
  occurs is_meant (type.enum key) = false
  occurs is_meant (type.exception key) = false

  pub occurs_in : (is_meant : Key → Bool) → Tys → Bool
  occurs_in is_meant type.no_types = false
  occurs_in is_meant (type.types t ts) = occurs is_meant t || occurs_in is_meant ts

abbrev pub occurs_in_any : (is_meant : Key → Bool) → List Ty → Bool
occurs_in_any is_meant [] = false
occurs_in_any is_meant (t ∷ rest) = occurs is_meant t || occurs_in_any is_meant rest

-- whether a type contains another, at most so many definitions looked through
abbrev pub contains : ℕ → List Defined → (inner outer : Key) → Bool
contains zero all inner outer = false
contains (suc n) all inner outer =
    occurs_in_any (λ key. if same_key key inner then true else contains n all inner key) (made_of (meant_in outer all))

-- ---- what is known

abbrev pub is_key_among : Key → List Key → Bool
is_key_among key [] = false
is_key_among key (k ∷ rest) = same_key key k || is_key_among key rest

abbrev pub keys_of : List Declaration → List Key
keys_of [] = []
keys_of (d ∷ rest) = key_of d ∷ keys_of rest

-- whether all that is meant is among what a definition names, which is there
abbrev pub is_made_of : (is_meant : Key → Bool) → Option Meant → Bool
is_made_of is_meant None = false
is_made_of is_meant (Some m) = not (occurs_in_any (λ key. not (is_meant key)) (made_of (Some m)))

abbrev pub known_keys : List KnownType → List Key
known_keys [] = []
known_keys (k ∷ rest) = k.key ∷ known_keys rest

-- whether a name isn't that of a type of the section, or is known
abbrev pub is_usable : (section : List Key) → List KnownType → Key → Bool
is_usable section known key = not (is_key_among key section) || is_key_among key (known_keys known)

-- what becomes known next: it isn't known yet, and names known types alone
abbrev pub is_next : (section : List Key) → List Defined → List KnownType → Key → Bool
is_next section all known key = not (is_key_among key (known_keys known)) && is_made_of (is_usable section known) (meant_in key all)

-- the first of these
abbrev pub next_in : (is_next : Key → Bool) → List Defined → Option Defined
next_in is_next [] = None
next_in is_next (d ∷ rest) = if is_next d.key then Some d else next_in is_next rest

abbrev pub and_known : (more : List KnownType → List KnownType) → List KnownType → Option Defined → List KnownType
and_known more known None = known
and_known more known (Some d) = more (known ++ as_known known d ∷ [])

-- the types that are known behind these definitions, where these were known before; in so many steps at most
abbrev pub known_more : ℕ → (section : List Key) → List Defined → List KnownType → List KnownType
known_more zero section all known = known
known_more (suc n) section all known = and_known (known_more n section all) known (next_in (is_next section all known) all)

-- each step takes a definition
abbrev pub known_behind : (section : List Key) → List Defined → List KnownType → List KnownType
known_behind section all known = known_more (length all) section all known

-- the types that are known behind definitions, which are read one after another
abbrev pub known_through : (section : List Key) → (read : List Defined) → List KnownType → List Defined → List KnownType
known_through section read known [] = known
known_through section read known (d ∷ rest) =
    known_through section (read ++ d ∷ []) (known_behind section (read ++ d ∷ []) known) rest

abbrev pub known_of : (section : List Key) → List Defined → List KnownType
known_of section all = known_through section [] [] all

-- Types of a section that are known, by number, under a renaming of what they are in types. Contracts of the pass alone speak of it.
use Rattle.std.specs.Prelude.{◌≡◌, ℕ, suc, ◌<◌, ◌≤◌, false, List, [], ◌∷◌, ◌++◌, length, map, Option, Some, slice_get}
use Rattle.nim_types.specs.declared.types.FieldName.{FieldName}
use Rattle.nim_types.specs.declared.types.TypeDef.{TypeDef}
use Rattle.nim_types.specs.declared.types.TypeDef.TheVariants as D
use Rattle.nim_types.specs.Types as type
use Rattle.nim_types.specs.Types.{Ty, Key, Facts}
use Rattle.nim_types.specs.Table.{type_at, types_in, facts_in, meant, AllBelow}
use Rattle.expr_parts.specs.declared.scope.Kinds.{Kinds}
use Rattle.expr_parts.specs.View.{Under, KindsIn, AllFormed}
use Rattle.decl_rules.specs.Meanings.{renamed, Meant, KnownType, meaning_in, or_name, meaning_of, facts_of}
use Rattle.decl_types.specs.declared.nodes.Node.{Node}
use Rattle.decl_types.specs.declared.nodes.Node.TheVariants as N
use Rattle.decl_types.specs.declared.known.Meaning.{Meaning}
use Rattle.decl_types.specs.declared.known.Meaning.TheVariants as M
use Rattle.decl_types.specs.declared.known.Definition.{Definition}
use Rattle.decl_types.specs.ViewNodes.{key_at, node_types}
use Rattle.nim_types.specs.Types.{Field}
use Rattle.decl_rules.specs.Meanings.{an_object, an_enum, a_distinct, an_alias}

-- ---- what definitions say

abbrev pub typed_fields : List FieldName → List Ty → List Field
typed_fields (f ∷ fs) (t ∷ ts) = record { name = f.name; shown = f.shown; of = t } ∷ typed_fields fs ts
typed_fields _ _ = []

abbrev pub meant_of : List Ty → Meaning → Meant
meant_of done (M.Object names is) = an_object (typed_fields names (map (type_at done) is))
meant_of done (M.Enum members) = an_enum members
meant_of done (M.Distinct i) = a_distinct (type_at done i)
meant_of done (M.Alias i) = an_alias (type_at done i)

-- each has the type that its name means
abbrev pub KnownAs : List Ty → List Key → List (Option ℕ) → (by : Key → Ty) → Type 0
KnownAs ts keys known by = (k id : ℕ) → slice_get known k ≡ Some (Some id) → type_at ts id ≡ by (key_at keys k)

-- the names don't occur in the first so many types
abbrev pub Untouched : List Ty → ℕ → (by : Key → Ty) → Type 0
Untouched ts n by = (id : ℕ) → id < n → renamed by (type_at ts id) ≡ type_at ts id

-- what a node names is below so many types and definitions
abbrev pub NodeIn : (types definitions : ℕ) → Node → Type 0
NodeIn n m (N.Known id) = id < n
NodeIn n m (N.Named k) = k < m
NodeIn n m _ = Unit {0}

abbrev pub NodesIn : (types definitions : ℕ) → List Node → Type 0
NodesIn n m [] = Unit {0}
NodesIn n m (node ∷ rest) = NodeIn n m node × NodesIn n m rest

-- an object has a type for each name
abbrev pub OneEach : Meaning → Type 0
OneEach (M.Object names is) = length names ≡ length is
OneEach _ = Unit {0}

-- the nodes that a node is made of are below a number
abbrev pub MadeBelow : ℕ → Node → Type 0
MadeBelow n (N.Sequence i) = i < n
MadeBelow n (N.Array at len i) = i < n
MadeBelow n (N.Tuple at names is) = AllBelow n is
MadeBelow n _ = Unit {0}

-- each is made of nodes before it, where the first has a number
abbrev pub Ordered : ℕ → List Node → Type 0
Ordered i [] = Unit {0}
Ordered i (node ∷ rest) = MadeBelow i node × Ordered (suc i) rest

-- each has a node, an object one for each name
abbrev pub MeaningWithin : ℕ → Meaning → Type 0
MeaningWithin n (M.Object names is) = AllBelow n is × (length names ≡ length is)
MeaningWithin n (M.Enum members) = Unit {0}
MeaningWithin n (M.Distinct i) = i < n
MeaningWithin n (M.Alias i) = i < n

-- a definition is made of its nodes, and these of one another
pub record InOrder (d : Definition) : Type 0 where
  pub nodes : Ordered 0 d.nodes.items
  pub meaning : MeaningWithin (length d.nodes.items) d.meaning

pub record IsSound (types definitions : ℕ) (d : Definition) : Type 0 where
  pub nodes : NodesIn types definitions d.nodes.items
  pub fields : OneEach d.meaning

-- what is known stands in a table of so many types
abbrev pub KnownBelow : ℕ → List (Option ℕ) → Type 0
KnownBelow n known = (k id : ℕ) → slice_get known k ≡ Some (Some id) → id < n

-- ---- entries

abbrev pub object_def : Definition → List FieldName → List ℕ → TypeDef
object_def d fields parts = D.Object d.name d.at [] fields false parts

abbrev pub enum_def : Definition → List (List ℕ) → TypeDef
enum_def d members = D.Enum d.name d.at members

abbrev pub distinct_def : Definition → ℕ → TypeDef
distinct_def d base = D.Distinct d.name d.at base

-- a declared type that is new
pub record Declares (old new : List TypeDef) (d : TypeDef) (id : ℕ) : Type 0 where
  pub more : new ≡ old ++ d ∷ []
  pub next : id ≡ length old
  pub other : (j : ℕ) → j < length old → type_at (types_in old) j ≡ meant (types_in old) d → ⊥

-- Types keep their numbers, and what was said stays said.
pub record Kept (old new : List TypeDef) : Type 0 where
  pub length : length old ≤ length new
  pub under : (ts : List Ty) (facts : Facts) → Under new ts facts → Under old ts (facts_in old)
  pub facts : (ts : List Ty) (facts : Facts) → Under new ts facts → (more : Facts) × (facts ≡ facts_in old ++ more)
  pub kinds : (kinds : Kinds) → KindsIn old kinds → KindsIn new kinds
  pub formed : AllFormed old → AllFormed new

-- ---- what definitions mean

abbrev pub meaning_by : List KnownType → Key → Ty
meaning_by known key = or_name key (meaning_in key known)

abbrev pub key_by : Definition → Key
key_by d = record { name = d.name; at = d.at }

-- the type of a definition; that of an alias may be any
abbrev pub HasType : Definition → Meaning → Ty → Type 0
HasType d (M.Object names is) ty = ty ≡ type.object (key_by d) type.no_types
HasType d (M.Enum members) ty = ty ≡ type.enum (key_by d)
HasType d (M.Distinct i) ty = ty ≡ type.distinct (key_by d)
HasType d (M.Alias i) ty = Unit {0}

-- what is known of a definition is its type
abbrev pub Stands : List TypeDef → List (Option ℕ) → ℕ → Definition → Type 0
Stands ds known i d =
    (id : ℕ) → slice_get known i ≡ Some (Some id) → (ts : List Ty) (facts : Facts) → Under ds ts facts → HasType d d.meaning (type_at ts id)

-- definitions that have been read, and what is known of them
pub record Holds (ds : List TypeDef) (known : List (Option ℕ)) (read : List Definition) : Type 0 where
  pub order : (i : ℕ) (d : Definition) → slice_get read i ≡ Some d → InOrder d
  pub sound : (i : ℕ) (d : Definition) → slice_get read i ≡ Some d → IsSound (length ds) (length known) d
  pub below : KnownBelow (length ds) known
  pub first : (i id : ℕ) → slice_get known i ≡ Some (Some id) → i < length read
  pub stands : (i : ℕ) (d : Definition) → slice_get read i ≡ Some d → Stands ds known i d

-- what a definition says by its nodes
abbrev pub meant_by : List Ty → List Key → Definition → Meant
meant_by ts keys d = meant_of (node_types ts keys d.nodes.items) d.meaning

-- what is added for a definition, by the types of its nodes
abbrev pub AddsMeant : (old new : List TypeDef) → (ids : List ℕ) → Definition → Meaning → ℕ → Type 0
AddsMeant old new ids d (M.Object names is) id =
    (parts : List ℕ) × ((ts : List Ty) → map (type_at ts) parts ≡ map (type_at (map (type_at ts) ids)) is)
    × (length parts ≡ length names) × AllBelow (length old) parts × Declares old new (object_def d names parts) id
AddsMeant old new ids d (M.Enum members) id = Declares old new (enum_def d members) id
AddsMeant old new ids d (M.Distinct i) id = (base : ℕ) × (slice_get ids i ≡ Some base) × Declares old new (distinct_def d base) id
AddsMeant old new ids d (M.Alias i) id = (slice_get ids i ≡ Some id) × (new ≡ old)

-- Where all types of the section in it are known, a definition has the type that the rule gives it, and that is said of it.
pub record Becomes (old new : List TypeDef) (known : List (Option ℕ)) (d : Definition) (id : ℕ) : Type 0 where
  pub within : id < length new
  pub means : (n m : ℕ) → IsSound n m d → (ts : List Ty) (facts : Facts) → Under new ts facts → (keys : List Key) (k : List KnownType)
      → KnownAs ts keys known (meaning_by k) → Untouched ts n (meaning_by k)
      → (type_at ts id ≡ meaning_of k (key_by d) (meant_by ts keys d)) × (facts ≡ facts_in old ++ facts_of k (key_by d) (meant_by ts keys d))

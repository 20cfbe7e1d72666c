-- The scope and the table by which definitions of a section are known. Contracts of the pass alone speak of it.
use Rattle.std.specs.Prelude.{◌≡◌, ℕ, suc, ◌<◌, ◌≤◌, Bool, true, false, ◌||◌, if◌then◌else◌, List, [], ◌∷◌, ◌++◌, length}
use Rattle.std.specs.Prelude.{map}
use Rattle.std.specs.Prelude.{◌+◌, nat_eq, Option, Some, None, slice_get}
use Rattle.indent_scanner.specs.Words.{normal}
use Rattle.nim_tree.specs.Types.{Declaration}
use Rattle.nim_types.specs.declared.types.TypeDef.{TypeDef}
use Rattle.nim_types.specs.Types as type
use Rattle.nim_types.specs.Types.{Ty, Key, same_key}
use Rattle.nim_types.specs.Table.{facts_in}
use Rattle.nim_program.specs.View.{if_type}
use Rattle.expr_rules.specs.Env.{Entry}
use Rattle.expr_rules.specs.Constructions.{is_among}
use Rattle.expr_parts.specs.declared.scope.Decl.{Decl}
use Rattle.expr_parts.specs.declared.scope.Scope.{Scope}
use Rattle.expr_parts.specs.declared.scope.What.{What}
use Rattle.expr_parts.specs.declared.scope.What.TheVariants as what
use Rattle.expr_parts.specs.View.{Under, entry_of}
use Rattle.expr_parts.specs.ViewDecls.{mended}
use Rattle.decl_rules.specs.State.{State, own_entries, is_declared}
use Rattle.decl_rules.specs.Meanings.{KnownType, meaning_in, as_known, known_facts, is_key_among, known_keys, known_behind}
use Rattle.decl_rules.specs.Meanings.{keys_of}
use Rattle.decl_types.specs.declared.known.Definition.{Definition}
use Rattle.decl_types.specs.declared.nodes.Names.{Names}
use Rattle.decl_types.specs.ViewKnown.{IsSound, key_by, Untouched}
use Rattle.decl_types.specs.ViewMarks.{Apart}
use Rattle.decl_types.specs.ViewNodes.{no_key, key_at}
use Rattle.decl_types.specs.ViewReading.{defined_by, all_defined}

-- ---- names of types

-- the names that the scope declared before the section
abbrev pub own_in : State → List ℕ → Bool
own_in st x = is_declared x (own_entries st)

-- the numbers of the definitions that count: of each name that is new the first
abbrev pub numbers_by : (own : List ℕ → Bool) → (names : List (List ℕ)) → ℕ → List Declaration → List ℕ
numbers_by own names i [] = []
numbers_by own names i (d ∷ rest) =
    if own (normal d.name.text) || is_among (normal d.name.text) names
    then numbers_by own names (suc i) rest
    else i ∷ numbers_by own (normal d.name.text ∷ names) (suc i) rest

abbrev pub what_of : Option ℕ → What
what_of None = what.Pending
what_of (Some id) = what.Type id

abbrev pub type_decl : List ℕ → Option ℕ → Decl
type_decl x o = record { name = x; what = what_of o }

-- their declarations, beside the types that are known
abbrev pub decls_by : (own : List ℕ → Bool) → (names : List (List ℕ)) → List (Option ℕ) → List Declaration → List Decl
decls_by own names (o ∷ known) (d ∷ rest) =
    if own (normal d.name.text) || is_among (normal d.name.text) names
    then decls_by own names known rest
    else type_decl (normal d.name.text) o ∷ decls_by own (normal d.name.text ∷ names) known rest
decls_by own names _ _ = []

-- the first of the numbers that is a definition's, counted from one
abbrev pub declaration_from : ℕ → List ℕ → ℕ → Option ℕ
declaration_from i [] number = None
declaration_from i (first ∷ rest) number = if nat_eq first number then Some i else declaration_from (suc i) rest number

-- the type of a definition is known, where it has a declaration behind these
abbrev pub mended_from : List Decl → ℕ → Option ℕ → ℕ → List Decl
mended_from ds start None id = ds
mended_from ds start (Some i) id = mended ds (start + i) (what.Type id)

-- ---- keys

-- what isn't declared in the section doesn't occur in the first so many types
pub record Away (ts : List Ty) (n : ℕ) (keys : List Key) : Type 0 where
  pub apart : (is_meant : Key → Bool) → ((key : Key) → is_key_among key keys ≡ false → is_meant key ≡ false) → Apart ts n is_meant
  pub untouched : (by : Key → Ty) → ((key : Key) → is_key_among key keys ≡ false → by key ≡ type.distinct key) → Untouched ts n by

abbrev pub Differ : List Key → Type 0
Differ keys = (i j : ℕ) → i < length keys → j < length keys → same_key (key_at keys i) (key_at keys j) ≡ true → i ≡ j

-- what stays the same while a section is read
pub record Fixed (ts : List Ty) (st : State) (all : List Declaration) (old : List Decl) (names : Names) (n : ℕ) : Type 0 where
  pub entries : st.env.entries ≡ map (entry_of ts) old
  pub outside : st.outside ≤ length old
  pub start : names.start ≡ length old
  pub numbers : names.numbers.items ≡ numbers_by (own_in st) [] 0 all
  pub away : Away ts n (keys_of all)
  pub differ : Differ (keys_of all)
  pub none : is_key_among no_key (keys_of all) ≡ false

-- ---- what is known

-- each by its key
abbrev pub AreKnown : List Ty → List KnownType → List Key → List (Option ℕ) → Type 0
AreKnown ts k [] [] = Unit {0}
AreKnown ts k (key ∷ keys) (o ∷ known) = (meaning_in key k ≡ if_type ts o) × AreKnown ts k keys known
AreKnown ts k _ _ = ⊥

pub record Knows (ts : List Ty) (keys : List Key) (k : List KnownType) (known : List (Option ℕ)) : Type 0 where
  pub each : AreKnown ts k keys known
  pub only : (key : Key) → is_key_among key keys ≡ false → meaning_in key k ≡ None

-- the scope and the table, where these types are known and these members are declared
pub record Scoped (ts : List Ty) (st : State) (all : List Declaration) (old : List Decl) (known : List (Option ℕ)) (k : List KnownType)
    (members : List Entry) (ds : List TypeDef) (scope : Scope) : Type 0 where
  pub seen : List Decl
  pub decls : scope.decls ≡ old ++ (decls_by (own_in st) [] known all ++ seen)
  pub shown : members ≡ map (entry_of ts) seen
  pub home : scope.home ≡ st.env.home
  pub facts : facts_in ds ≡ st.env.facts ++ known_facts k
  pub knows : Knows ts (keys_of all) k known

-- ---- what has been read

pub record Reads (n m : ℕ) (keys : List Key) (read : List Definition) : Type 0 where
  pub sound : (i : ℕ) (d : Definition) → slice_get read i ≡ Some d → IsSound n m d
  pub key : (i : ℕ) (d : Definition) → slice_get read i ≡ Some d → key_by d ≡ key_at keys i
  pub within : length read ≤ length keys

-- the whole section has been read
pub record Whole (ts : List Ty) (n m : ℕ) (keys : List Key) (read : List Definition) : Type 0 where
  pub reads : Reads n m keys read
  pub count : length read ≡ length keys
  pub away : Away ts n keys
  pub differ : Differ keys
  pub none : is_key_among no_key keys ≡ false

-- one more type becomes known
abbrev pub KnowsOne : (ds es : List TypeDef) → (scope new : Scope) → Names → (known more : List (Option ℕ)) → List Definition → ℕ → Type 0
KnowsOne ds es scope new names known more read number =
    (ts : List Ty) (st : State) (all : List Declaration) (old : List Decl) (n m : ℕ) (k : List KnownType) (members : List Entry) (d : Definition)
    → Under es ts (facts_in es) → Fixed ts st all old names n → Reads n m (keys_of all) read → Scoped ts st all old known k members ds scope
    → slice_get read number ≡ Some d → is_key_among (key_by d) (known_keys k) ≡ false
    → Scoped ts st all old more (k ++ as_known k (defined_by ts (keys_of all) d) ∷ []) members es new

-- all that can be known behind what has been read
abbrev pub KnowsAll : (ds es : List TypeDef) → (scope new : Scope) → Names → (known more : List (Option ℕ)) → List Definition → Type 0
KnowsAll ds es scope new names known more read =
    (ts : List Ty) (st : State) (all : List Declaration) (old : List Decl) (n m : ℕ) (k : List KnownType) (members : List Entry)
    → Under es ts (facts_in es) → Fixed ts st all old names n → Reads n m (keys_of all) read → Scoped ts st all old known k members ds scope
    → Scoped ts st all old more (known_behind (keys_of all) (all_defined ts (keys_of all) read) k) members es new

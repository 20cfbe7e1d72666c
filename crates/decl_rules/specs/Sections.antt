-- Sections of types: the walk through the definitions, and what is said behind the last one.
use Rattle.std.specs.Prelude.{ℕ, suc, pos, Bool, true, false, not, ◌||◌, if◌then◌else◌, List, [], ◌∷◌, ◌++◌, length, Option, Some, None, Ok}
use Rattle.arc_base.specs.declared.place.Place.{Place}
use Rattle.arc_base.specs.declared.place.Code.TheVariants.{LeftOut}
use Rattle.arc_base.specs.Refusal.{and_then, refused}
use Rattle.indent_scanner.specs.Words.{normal}
use Rattle.nim_tree.specs.declared.name.Name.{Name}
use Rattle.nim_tree.specs.Types as body
use Rattle.nim_tree.specs.Types.{Body, Declaration}
use Rattle.nim_types.specs.Types as type
use Rattle.nim_types.specs.Types.{Ty, Key, Facts}
use Rattle.nim_program.specs.Program.{Number}
use Rattle.expr_rules.specs.Env.{Env, Entry, constant, named, pending, name_in}
use Rattle.expr_rules.specs.Constructions.{is_among}
use Rattle.expr_rules.specs.Answers.{Answer}
use Rattle.decl_rules.specs.State.{State, own_entries, is_declared, if_new, if_typed}
use Rattle.decl_rules.specs.Meanings.{Meant, an_object, an_enum, a_distinct, an_alias, Defined, key_of, keys_of, contains}
use Rattle.decl_rules.specs.Meanings.{KnownType, meaning_in, resolved, known_facts, known_of}
use Rattle.decl_rules.specs.Written.{Formed, later, spelled, parts_spelled, fields_of, within_size}

-- ---- the definitions in order

-- What has been read of a section: the names that it declares, the members of its enums that are seen, and its definitions.
pub record Section : Type 0 where
  pub names : List (List ℕ)
  pub members : List Entry
  pub defined : List Defined

-- Of two declarations of a name in one scope the first counts, until the second is refused; types count as declared before members.
abbrev pub types_by : State → (names : List (List ℕ)) → (entry : Declaration → Entry) → List Declaration → List Entry
types_by st names entry [] = []
types_by st names entry (d ∷ rest) =
    if is_declared (normal d.name.text) (own_entries st) || is_among (normal d.name.text) names
    then types_by st names entry rest
    else entry d ∷ types_by st (normal d.name.text ∷ names) entry rest

-- a type as a name
abbrev pub name_entry : Declaration → Entry
name_entry d = named (normal d.name.text) (type.distinct (key_of d))

abbrev pub entry_by : (name : List ℕ) → Option Ty → Entry
entry_by x (Some ty) = named x ty
entry_by x None = pending x

-- a type where these are known
abbrev pub known_entry : List KnownType → Declaration → Entry
known_entry known d = entry_by (normal d.name.text) (meaning_in (key_of d) known)

-- In the section all its types are seen.
abbrev pub env_by : State → Section → Facts → List Entry → Env
env_by st s facts types = record st.env { entries = st.env.entries ++ (types ++ s.members); facts = st.env.facts ++ facts }

-- in types
abbrev pub names_env : State → List Declaration → Section → Env
names_env st all s = env_by st s [] (types_by st [] name_entry all)

abbrev pub env_with : State → List Declaration → Section → List KnownType → Env
env_with st all s known = env_by st s (known_facts known) (types_by st [] (known_entry known) all)

-- in lengths, and behind the section
abbrev pub known_env : State → List Declaration → Section → Env
known_env st all s = env_with st all s (known_of (keys_of all) s.defined)

-- a name that neither its scope nor the section declares yet
abbrev pub new_in_section : State → List (List ℕ) → Place → List ℕ → Answer (Unit {0})
new_in_section st names at x = if_new (is_declared x (own_entries st) || is_among x names) at

-- what a body says, and what it declares
pub record Bodied : Type 0 where
  pub meant : Meant
  pub members : List Entry
  pub formed : List Formed

abbrev pub says : Meant → List Formed → Bodied
says meant formed = record { meant = meant; members = []; formed = formed }

abbrev pub member_of : Ty → ℕ → Name → Entry
member_of ty i m = constant (normal m.text) ty (Number (pos i))

-- behind names that are declared
abbrev pub members_rule : State → List (List ℕ) → Ty → ℕ → List Name → Answer (List Entry)
members_rule st names ty i [] = Ok []
members_rule st names ty i (m ∷ rest) =
    and_then (new_in_section st names m.at (normal m.text)) (λ _.
    and_then (members_rule st (normal m.text ∷ names) ty (suc i) rest) (λ more. Ok (member_of ty i m ∷ more)))

abbrev pub texts_of : List Name → List (List ℕ)
texts_of [] = []
texts_of (m ∷ rest) = m.text ∷ texts_of rest

-- no refs, and nothing below another object
abbrev pub is_plain_object : Bool → Option Name → Bool
is_plain_object false None = true
is_plain_object _ _ = false

abbrev pub if_plain : Bool → Place → Answer (Unit {0})
if_plain true at = Ok tt
if_plain false at = refused LeftOut at

-- by names of types and by what is known of them
abbrev pub body_rule : State → List (List ℕ) → (names known : Env) → Key → Body → Answer Bodied
body_rule st before env known key (body.object at is_ref parent inside) =
    and_then (if_plain (is_plain_object is_ref parent) at) (λ _.
    and_then (parts_spelled (later known) env [] inside) (λ all. Ok (says (an_object (fields_of all.parts)) all.formed)))
body_rule st before env known key (body.enum at all) =
    and_then (members_rule st before (type.enum key) 0 all) (λ members.
    Ok (record { meant = an_enum (texts_of all); members = members; formed = [] }))
body_rule st before env known key (body.distinct at base) =
    and_then (spelled (later known) env base) (λ t. Ok (says (a_distinct t.of) t.formed))
body_rule st before env known key (body.alias of) = and_then (spelled (later known) env of) (λ t. Ok (says (an_alias t.of) t.formed))

-- none has type parameters
abbrev pub if_single : List Name → Place → Answer (Unit {0})
if_single [] at = Ok tt
if_single (_ ∷ _) at = refused LeftOut at

abbrev pub member_names : List Entry → List (List ℕ)
member_names [] = []
member_names (e ∷ rest) = name_in e ∷ member_names rest

-- A member with the name of a type whose definition comes yet isn't seen: that type is the second of the name.
abbrev pub seen_members : (types : List (List ℕ)) → List Entry → List Entry
seen_members types [] = []
seen_members types (e ∷ rest) = if is_among (name_in e) types then seen_members types rest else e ∷ seen_members types rest

abbrev pub type_names : List Declaration → List (List ℕ)
type_names [] = []
type_names (d ∷ rest) = normal d.name.text ∷ type_names rest

abbrev pub with_definition : List Declaration → Section → Declaration → Bodied → Section
with_definition all s d b =
    record {
      names = normal d.name.text ∷ (member_names b.members ++ s.names);
      members = s.members ++ seen_members (type_names all) b.members;
      defined = s.defined ++ record { key = key_of d; meant = b.meant; formed = b.formed } ∷ [];
    }

abbrev pub declaration_rule : State → List Declaration → Section → Declaration → Answer Section
declaration_rule st all s d =
    and_then (new_in_section st s.names d.name.at (normal d.name.text)) (λ _.
    and_then (if_single d.parameters d.name.at) (λ _.
    and_then (body_rule st (normal d.name.text ∷ s.names) (names_env st all s) (known_env st all s) (key_of d) d.body) (λ b.
    Ok (with_definition all s d b))))

abbrev pub declarations_rule : State → List Declaration → Section → List Declaration → Answer Section
declarations_rule st all s [] = Ok s
declarations_rule st all s (d ∷ rest) = and_then (declaration_rule st all s d) (λ s. declarations_rule st all s rest)

-- ---- types that contain themselves

abbrev pub containment_rule : List Defined → List Defined → Answer (Unit {0})
containment_rule all [] = Ok tt
containment_rule all (d ∷ rest) = and_then (if_typed (not (contains (length all) all d.key d.key)) d.key.at) (λ _. containment_rule all rest)

-- ---- sizes

abbrev pub formed_within : Facts → List KnownType → List Formed → Answer (Unit {0})
formed_within facts known [] = Ok tt
formed_within facts known (f ∷ rest) = and_then (within_size facts f.at (resolved known f.of)) (λ _. formed_within facts known rest)

-- an object by its name; of others what is written is looked at
abbrev pub meant_within : Facts → Key → Meant → Answer (Unit {0})
meant_within facts key (an_object all) = within_size facts key.at (type.object key type.no_types)
meant_within facts key _ = Ok tt

abbrev pub sizes_rule : Facts → List KnownType → List Defined → Answer (Unit {0})
sizes_rule facts known [] = Ok tt
sizes_rule facts known (d ∷ rest) =
    and_then (formed_within facts known d.formed) (λ _. and_then (meant_within facts d.key d.meant) (λ _. sizes_rule facts known rest))

-- behind the section
abbrev pub all_sized : State → List Declaration → Section → Answer (Unit {0})
all_sized st all s = sizes_rule (known_env st all s).facts (known_of (keys_of all) s.defined) s.defined

-- ---- the whole

abbrev pub none_read : Section
none_read = record { names = []; members = []; defined = [] }

-- what is declared behind a section
abbrev pub section_rule : State → List Declaration → Answer Env
section_rule st all =
    and_then (declarations_rule st all none_read all) (λ s.
    and_then (containment_rule s.defined s.defined) (λ _.
    and_then (all_sized st all s) (λ _. Ok (known_env st all s))))

-- The rules of written types and of sections of types: what a written type stands for, and what a section declares. One constructor
-- for each construct; parts come first, in order of text, and the rule of the construct then looks at what they are.
--
--     written type ──IsSpelled──> type, and the array and tuple types written in it     each has one meaning,
--               └────IsNotSpelled──> code and place (TypeRefusals.antt)                or is refused in one way
use Rattle.std.specs.Prelude.{◌≡◌, ℕ, ℤ, false, List, [], ◌∷◌, Option, Some, None, Ok}
use Rattle.arc_base.specs.declared.place.Place.{Place}
use Rattle.indent_scanner.specs.Words.{normal}
use Rattle.nim_tree.specs.declared.name.Name.{Name}
use Rattle.nim_tree.specs.declared.name.Declared.{Declared}
use Rattle.nim_tree.specs.Terms.{Term}
use Rattle.nim_tree.specs.Types as written
use Rattle.nim_tree.specs.Types.{Written, Arguments, no_arguments, argument, Fields, no_fields, fields, Body, Declaration}
use Rattle.nim_types.specs.Types as type
use Rattle.nim_types.specs.Types.{Ty, Key}
use Rattle.nim_program.specs.Program.{Expr}
use Rattle.expr_rules.specs.Env.{Env, Entry}
use Rattle.expr_rules.specs.Answers.{Valued, value_of, Want, nothing, inner}
use Rattle.expr_rules.specs.Names.{callee_rule, length_rule}
use Rattle.expr_rules.specs.Rules.{IsTyped}
use Rattle.decl_rules.specs.State.{State}
use Rattle.decl_rules.specs.Values.{Value, as_value, of_type}
use Rattle.decl_rules.specs.Written.{Spelled, Sizing, at_once, later, length_env, formed_rule, named_by, array_rule, Parted, parts_behind, field_names_rule}
use Rattle.decl_rules.specs.Written.{tuple_of}
use Rattle.decl_rules.specs.Written.{fields_of}
use Rattle.decl_rules.specs.Parts.{NoneContainsItself}
use Rattle.decl_rules.specs.Sections.{Section, Bodied, says, members_rule, texts_of, if_single}
use Rattle.decl_rules.specs.Meanings.{an_object, an_enum, a_distinct, an_alias}
use Rattle.decl_rules.specs.Sections.{new_in_section, names_env, known_env, with_definition, all_sized, none_read}
use Rattle.decl_rules.specs.Meanings.{key_of}

-- ---- values

-- an expression that gives a value
pub data IsValue (env : Env) : Want → ℕ → Term → Value → Type 0 where
  v_value : {want : Want} {n m : ℕ} {t : Term} {e : Expr} {v : Valued} → IsTyped env want n t e m → value_of e ≡ Ok v
      → IsValue env want n t (as_value v m)

-- one of the type that its place gives
pub data IsValueAs (env : Env) : Ty → ℕ → Term → Value → Type 0 where
  v_of_type : {ty : Ty} {n : ℕ} {t : Term} {v : Value} {w : Valued} → IsValue env (inner ty) n t v → of_type ty v.given ≡ Ok w
      → IsValueAs env ty n t v

-- the length of an array
pub data HasLength (env : Env) : Term → ℤ → Type 0 where
  v_length : {t : Term} {v : Value} {k : ℤ} → IsValue env nothing 0 t v → length_rule env.facts v.given ≡ Ok k → HasLength env t k

-- ---- written types

mutual
  pub data IsSpelled (sizing : Sizing) (env : Env) : Written → Spelled → Type 0 where
    w_named : {at : Place} {x : List ℕ} {given : Arguments} {all : List Spelled} {s : Spelled} → callee_rule env at (normal x) ≡ Ok tt
        → AreSpelled sizing env given all → named_by env at x all ≡ Ok s → IsSpelled sizing env (written.named at x given) s
    w_array : {at : Place} {t : Term} {element : Written} {k : ℤ} {e s : Spelled} → HasLength (length_env sizing env) t k
        → IsSpelled sizing env element e → array_rule sizing env at k e ≡ Ok s
        → IsSpelled sizing env (written.array at t element) s
    w_tuple : {at : Place} {inside : Fields} {all : Parted} {s : Spelled} → AreParts sizing env [] inside all
        → formed_rule sizing env.facts at (tuple_of all.parts) all.formed ≡ Ok s → IsSpelled sizing env (written.tuple_of at inside) s

  pub data AreSpelled (sizing : Sizing) (env : Env) : Arguments → List Spelled → Type 0 where
    w_none : AreSpelled sizing env no_arguments []
    w_more : {first : Written} {rest : Arguments} {s : Spelled} {more : List Spelled} → IsSpelled sizing env first s
        → AreSpelled sizing env rest more → AreSpelled sizing env (argument first rest) (s ∷ more)

  -- groups of fields, behind fields with these names
  pub data AreParts (sizing : Sizing) (env : Env) : List (List ℕ) → Fields → Parted → Type 0 where
    w_no_parts : {before : List (List ℕ)} → AreParts sizing env before no_fields (record { parts = []; formed = [] })
    w_parts : {before names : List (List ℕ)} {all : List Declared} {of : Written} {rest : Fields} {s : Spelled} {more : Parted}
        → field_names_rule before all ≡ Ok names → IsSpelled sizing env of s → AreParts sizing env names rest more
        → AreParts sizing env before (fields all of rest) (parts_behind all s more)

-- a type that is written but in a section of types
pub data IsWritten (env : Env) : Written → Ty → Type 0 where
  w_type : {t : Written} {s : Spelled} → IsSpelled at_once env t s → IsWritten env t s.of

pub data IfWritten (env : Env) : Option Written → Option Ty → Type 0 where
  w_nothing : IfWritten env None None
  w_something : {t : Written} {ty : Ty} → IsWritten env t ty → IfWritten env (Some t) (Some ty)

-- ---- sections of types

-- what the body of a definition says, whose type has the key, behind declarations of these names
pub data IsBody (st : State) (before : List (List ℕ)) (env known : Env) (key : Key) : Body → Bodied → Type 0 where
  b_object : {at : Place} {inside : Fields} {all : Parted} → AreParts (later known) env [] inside all
      → IsBody st before env known key (written.object at false None inside) (says (an_object (fields_of all.parts)) all.formed)
  b_enum : {at : Place} {all : List Name} {members : List Entry} → members_rule st before (type.enum key) 0 all ≡ Ok members
      → IsBody st before env known key (written.enum at all) (record { meant = an_enum (texts_of all); members = members; formed = [] })
  b_distinct : {at : Place} {base : Written} {t : Spelled} → IsSpelled (later known) env base t
      → IsBody st before env known key (written.distinct at base) (says (a_distinct t.of) t.formed)
  b_alias : {of : Written} {t : Spelled} → IsSpelled (later known) env of t
      → IsBody st before env known key (written.alias of) (says (an_alias t.of) t.formed)

pub data IsTypeDefinition (st : State) (all : List Declaration) : Section → Declaration → Section → Type 0 where
  d_type : {s : Section} {d : Declaration} {b : Bodied} → new_in_section st s.names d.name.at (normal d.name.text) ≡ Ok tt
      → if_single d.parameters d.name.at ≡ Ok tt
      → IsBody st (normal d.name.text ∷ s.names) (names_env st all s) (known_env st all s) (key_of d) d.body b
      → IsTypeDefinition st all s d (with_definition all s d b)

pub data AreTypeDefinitions (st : State) (all : List Declaration) : Section → List Declaration → Section → Type 0 where
  d_no_types : {s : Section} → AreTypeDefinitions st all s [] s
  d_types : {s t u : Section} {d : Declaration} {rest : List Declaration} → IsTypeDefinition st all s d t
      → AreTypeDefinitions st all t rest u → AreTypeDefinitions st all s (d ∷ rest) u

-- what is declared behind a section
pub data IsSection (st : State) : List Declaration → Env → Type 0 where
  d_section : {all : List Declaration} {s : Section} → AreTypeDefinitions st all none_read all s → NoneContainsItself s.defined s.defined
      → all_sized st all s ≡ Ok tt → IsSection st all (known_env st all s)

-- Which written types and sections of types are refused, with the code and the place that say why: one constructor for each way of
-- failing. What stands before a failing part is as it has to be, so the first failure in order of text is meant.
use Rattle.std.specs.Prelude.{◌≡◌, ℕ, ℤ, Bool, false, List, [], ◌∷◌, Option, Some, None, Ok}
use Rattle.arc_base.specs.declared.place.Place.{Place}
use Rattle.arc_base.specs.declared.place.Code.{Code}
use Rattle.arc_base.specs.declared.place.Code.TheVariants.{NotTyped, LeftOut}
use Rattle.arc_base.specs.Refusal.{IsRefusal}
use Rattle.indent_scanner.specs.Words.{normal}
use Rattle.nim_tree.specs.declared.name.Name.{Name}
use Rattle.nim_tree.specs.declared.name.Declared.{Declared}
use Rattle.nim_tree.specs.Terms.{Term}
use Rattle.nim_tree.specs.Types as written
use Rattle.nim_tree.specs.Types.{Written, Arguments, argument, Fields, fields, Body, Declaration}
use Rattle.nim_types.specs.Types as type
use Rattle.nim_types.specs.Types.{Ty, Key}
use Rattle.nim_program.specs.Program.{Expr}
use Rattle.expr_rules.specs.Env.{Env}
use Rattle.expr_rules.specs.Answers.{value_of, Want, nothing, inner}
use Rattle.expr_rules.specs.Names.{callee_rule, length_rule}
use Rattle.expr_rules.specs.Rules.{IsTyped}
use Rattle.expr_rules.specs.Refusals.{IsRefused}
use Rattle.decl_rules.specs.State.{State}
use Rattle.decl_rules.specs.Values.{Value, of_type}
use Rattle.decl_rules.specs.Written.{Spelled, Sizing, at_once, later, length_env, formed_rule, named_by, array_rule, Parted, field_names_rule, tuple_of}
use Rattle.decl_rules.specs.Parts.{NoneContainsItself, FirstContainsItself}
use Rattle.decl_rules.specs.Sections.{Section, is_plain_object, members_rule, if_single, new_in_section, names_env, known_env}
use Rattle.decl_rules.specs.Meanings.{key_of}
use Rattle.decl_rules.specs.Sections.{all_sized, none_read}
use Rattle.decl_rules.specs.TypeRules.{IsValue, HasLength, IsSpelled, AreSpelled, AreParts, IsTypeDefinition, AreTypeDefinitions}

-- ---- values

pub data IsNoValue (env : Env) : Want → ℕ → Term → Code → Place → Type 0 where
  f_term : {want : Want} {n : ℕ} {t : Term} {c : Code} {p : Place} → IsRefused env want n t c p → IsNoValue env want n t c p
  f_no_value : {want : Want} {n m : ℕ} {t : Term} {e : Expr} {c : Code} {p : Place} → IsTyped env want n t e m → IsRefusal (value_of e) c p
      → IsNoValue env want n t c p

pub data IsNoValueAs (env : Env) : Ty → ℕ → Term → Code → Place → Type 0 where
  f_value : {ty : Ty} {n : ℕ} {t : Term} {c : Code} {p : Place} → IsNoValue env (inner ty) n t c p → IsNoValueAs env ty n t c p
  f_other_type : {ty : Ty} {n : ℕ} {t : Term} {v : Value} {c : Code} {p : Place} → IsValue env (inner ty) n t v
      → IsRefusal (of_type ty v.given) c p → IsNoValueAs env ty n t c p

pub data HasNoLength (env : Env) : Term → Code → Place → Type 0 where
  f_length_value : {t : Term} {c : Code} {p : Place} → IsNoValue env nothing 0 t c p → HasNoLength env t c p
  -- no constant int
  f_length : {t : Term} {v : Value} {c : Code} {p : Place} → IsValue env nothing 0 t v → IsRefusal (length_rule env.facts v.given) c p
      → HasNoLength env t c p

-- ---- written types

mutual
  pub data IsNotSpelled (sizing : Sizing) (env : Env) : Written → Code → Place → Type 0 where
    f_name : {at p : Place} {x : List ℕ} {given : Arguments} {c : Code} → IsRefusal (callee_rule env at (normal x)) c p
        → IsNotSpelled sizing env (written.named at x given) c p
    f_argument : {at p : Place} {x : List ℕ} {given : Arguments} {c : Code} → callee_rule env at (normal x) ≡ Ok tt → AreNotSpelled sizing env given c p
        → IsNotSpelled sizing env (written.named at x given) c p
    -- no type, or not with these arguments
    f_named : {at p : Place} {x : List ℕ} {given : Arguments} {all : List Spelled} {c : Code} → callee_rule env at (normal x) ≡ Ok tt
        → AreSpelled sizing env given all → IsRefusal (named_by env at x all) c p → IsNotSpelled sizing env (written.named at x given) c p
    f_array_length : {at p : Place} {t : Term} {element : Written} {c : Code} → HasNoLength (length_env sizing env) t c p
        → IsNotSpelled sizing env (written.array at t element) c p
    f_element : {at p : Place} {t : Term} {element : Written} {k : ℤ} {c : Code} → HasLength (length_env sizing env) t k
        → IsNotSpelled sizing env element c p → IsNotSpelled sizing env (written.array at t element) c p
    -- too long or too large
    f_array : {at p : Place} {t : Term} {element : Written} {k : ℤ} {e : Spelled} {c : Code} → HasLength (length_env sizing env) t k
        → IsSpelled sizing env element e → IsRefusal (array_rule sizing env at k e) c p
        → IsNotSpelled sizing env (written.array at t element) c p
    -- not built yet
    f_ref : {at : Place} {target : Written} → IsNotSpelled sizing env (written.ref_to at target) LeftOut at
    f_part : {at p : Place} {inside : Fields} {c : Code} → AreNoParts sizing env [] inside c p
        → IsNotSpelled sizing env (written.tuple_of at inside) c p
    -- too large
    f_tuple : {at p : Place} {inside : Fields} {all : Parted} {c : Code} → AreParts sizing env [] inside all
        → IsRefusal (formed_rule sizing env.facts at (tuple_of all.parts) all.formed) c p → IsNotSpelled sizing env (written.tuple_of at inside) c p

  pub data AreNotSpelled (sizing : Sizing) (env : Env) : Arguments → Code → Place → Type 0 where
    f_first : {first : Written} {rest : Arguments} {c : Code} {p : Place} → IsNotSpelled sizing env first c p
        → AreNotSpelled sizing env (argument first rest) c p
    f_rest : {first : Written} {rest : Arguments} {s : Spelled} {c : Code} {p : Place} → IsSpelled sizing env first s
        → AreNotSpelled sizing env rest c p → AreNotSpelled sizing env (argument first rest) c p

  pub data AreNoParts (sizing : Sizing) (env : Env) : List (List ℕ) → Fields → Code → Place → Type 0 where
    -- a name twice
    f_names : {before : List (List ℕ)} {all : List Declared} {of : Written} {rest : Fields} {c : Code} {p : Place}
        → IsRefusal (field_names_rule before all) c p → AreNoParts sizing env before (fields all of rest) c p
    f_type : {before names : List (List ℕ)} {all : List Declared} {of : Written} {rest : Fields} {c : Code} {p : Place}
        → field_names_rule before all ≡ Ok names → IsNotSpelled sizing env of c p → AreNoParts sizing env before (fields all of rest) c p
    f_parts : {before names : List (List ℕ)} {all : List Declared} {of : Written} {rest : Fields} {s : Spelled} {c : Code} {p : Place}
        → field_names_rule before all ≡ Ok names → IsSpelled sizing env of s → AreNoParts sizing env names rest c p
        → AreNoParts sizing env before (fields all of rest) c p

pub data IsNotWritten (env : Env) : Written → Code → Place → Type 0 where
  f_spelled : {t : Written} {c : Code} {p : Place} → IsNotSpelled at_once env t c p → IsNotWritten env t c p

pub data IfNotWritten (env : Env) : Option Written → Code → Place → Type 0 where
  f_something : {t : Written} {c : Code} {p : Place} → IsNotWritten env t c p → IfNotWritten env (Some t) c p

-- ---- sections of types

pub data IsNoBody (st : State) (before : List (List ℕ)) (env known : Env) (key : Key) : Body → Code → Place → Type 0 where
  -- a ref or below another object: not built yet
  f_left_out : {at : Place} {is_ref : Bool} {parent : Option Name} {inside : Fields} → is_plain_object is_ref parent ≡ false
      → IsNoBody st before env known key (written.object at is_ref parent inside) LeftOut at
  f_object : {at p : Place} {inside : Fields} {c : Code} → AreNoParts (later known) env [] inside c p
      → IsNoBody st before env known key (written.object at false None inside) c p
  -- a member that is declared
  f_enum : {at p : Place} {all : List Name} {c : Code} → IsRefusal (members_rule st before (type.enum key) 0 all) c p
      → IsNoBody st before env known key (written.enum at all) c p
  f_distinct : {at p : Place} {base : Written} {c : Code} → IsNotSpelled (later known) env base c p
      → IsNoBody st before env known key (written.distinct at base) c p
  f_alias : {of : Written} {c : Code} {p : Place} → IsNotSpelled (later known) env of c p
      → IsNoBody st before env known key (written.alias of) c p

pub data IsNoTypeDefinition (st : State) (all : List Declaration) : Section → Declaration → Code → Place → Type 0 where
  f_declared : {s : Section} {d : Declaration} {c : Code} {p : Place} → IsRefusal (new_in_section st s.names d.name.at (normal d.name.text)) c p
      → IsNoTypeDefinition st all s d c p
  -- with type parameters
  f_generic : {s : Section} {d : Declaration} {c : Code} {p : Place} → new_in_section st s.names d.name.at (normal d.name.text) ≡ Ok tt
      → IsRefusal (if_single d.parameters d.name.at) c p → IsNoTypeDefinition st all s d c p
  f_body : {s : Section} {d : Declaration} {c : Code} {p : Place} → new_in_section st s.names d.name.at (normal d.name.text) ≡ Ok tt
      → if_single d.parameters d.name.at ≡ Ok tt
      → IsNoBody st (normal d.name.text ∷ s.names) (names_env st all s) (known_env st all s) (key_of d) d.body c p
      → IsNoTypeDefinition st all s d c p

pub data AreNoTypeDefinitions (st : State) (all : List Declaration) : Section → List Declaration → Code → Place → Type 0 where
  f_first_type : {s : Section} {d : Declaration} {rest : List Declaration} {c : Code} {p : Place} → IsNoTypeDefinition st all s d c p
      → AreNoTypeDefinitions st all s (d ∷ rest) c p
  f_rest_types : {s t : Section} {d : Declaration} {rest : List Declaration} {c : Code} {p : Place} → IsTypeDefinition st all s d t
      → AreNoTypeDefinitions st all t rest c p → AreNoTypeDefinitions st all s (d ∷ rest) c p

pub data IsNoSection (st : State) : List Declaration → Code → Place → Type 0 where
  f_types : {all : List Declaration} {c : Code} {p : Place} → AreNoTypeDefinitions st all none_read all c p → IsNoSection st all c p
  -- a type that contains itself
  f_containment : {all : List Declaration} {s : Section} {p : Place} → AreTypeDefinitions st all none_read all s
      → FirstContainsItself s.defined s.defined p → IsNoSection st all NotTyped p
  -- one that is too large
  f_sizes : {all : List Declaration} {s : Section} {c : Code} {p : Place} → AreTypeDefinitions st all none_read all s
      → NoneContainsItself s.defined s.defined → IsRefusal (all_sized st all s) c p
      → IsNoSection st all c p

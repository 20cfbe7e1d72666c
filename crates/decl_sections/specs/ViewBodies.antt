-- What the code's values stand for where definitions of a section are read. Contracts of the pass alone speak of it.
use Rattle.std.specs.Prelude.{◌≡◌, ℕ, suc, pos, ◌≤◌, true, false, List, [], ◌∷◌, ◌++◌, length, map, take, drop, Ok}
use Rattle.arc_base.specs.Refusal.{and_then}
use Rattle.nim_tree.specs.declared.name.Declared.{Declared}
use Rattle.nim_tree.specs.Types as body
use Rattle.nim_tree.specs.Types.{Body, Fields, no_fields, fields}
use Rattle.nim_types.specs.declared.types.FieldName.{FieldName}
use Rattle.nim_types.specs.Types.{Ty}
use Rattle.nim_program.specs.Program.{Number}
use Rattle.expr_rules.specs.Env.{Env, Entry, constant}
use Rattle.expr_rules.specs.Answers.{Answer}
use Rattle.expr_parts.specs.declared.scope.Decl.{Decl}
use Rattle.expr_parts.specs.declared.scope.Scope.{Scope}
use Rattle.expr_parts.specs.ViewDecls.{declares}
use Rattle.decl_rules.specs.State.{State, own_entries, is_declared}
use Rattle.decl_rules.specs.Meanings.{Meant, an_object, an_enum, a_distinct, an_alias}
use Rattle.decl_rules.specs.Sections.{is_plain_object, if_plain, texts_of}
use Rattle.decl_rules.specs.Written.{Formed, Sizing, spelled, parts_spelled, fields_of}
use Rattle.decl_sections.specs.declared.bodies.Declared.{Declared as Seen}
use Rattle.decl_types.specs.declared.known.Meaning.{Meaning}
use Rattle.decl_types.specs.ViewKnown.{meant_of}

-- ---- names

-- what the scope declared before the section
abbrev pub own_decls : (outside start : ℕ) → List Decl → List Decl
own_decls outside start ds = drop outside (take start ds)

-- the section declares none of them again
abbrev pub NoneTwice : (outside start : ℕ) → List Decl → Type 0
NoneTwice outside start ds = (x : List ℕ) → declares x (drop start ds) ≡ true → declares x (own_decls outside start ds) ≡ false

pub record IsDeclared (st : State) (seen : Seen) (scope : Scope) : Type 0 where
  pub begins : seen.outside ≤ seen.start
  pub ends : seen.start ≤ length scope.decls
  pub own : (x : List ℕ) → is_declared x (own_entries st) ≡ declares x (own_decls seen.outside seen.start scope.decls)
  pub none_twice : NoneTwice seen.outside seen.start scope.decls

-- members as they are declared, by their names in normal form
abbrev pub member_entries : Ty → ℕ → List (List ℕ) → List Entry
member_entries ty i [] = []
member_entries ty i (x ∷ rest) = constant x ty (Number (pos i)) ∷ member_entries ty (suc i) rest

-- ---- fields

abbrev pub field_name : Declared → FieldName
field_name d = record { name = d.text; shown = d.shown }

abbrev pub all_field_names : Fields → List FieldName
all_field_names no_fields = []
all_field_names (fields names of rest) = map field_name names ++ all_field_names rest

-- ---- bodies

-- what a definition says, with what is written in it
pub record Said : Type 0 where
  pub meant : Meant
  pub formed : List Formed

abbrev pub said_with : Meant → List Formed → Said
said_with meant formed = record { meant = meant; formed = formed }

abbrev pub meant_in : List Ty → List Formed → Meaning → Said
meant_in done formed m = said_with (meant_of done m) formed

-- by the body, but for whether the members of an enum are new
abbrev pub said_by : Sizing → Env → Body → Answer Said
said_by sizing env (body.object at is_ref parent inside) =
    and_then (if_plain (is_plain_object is_ref parent) at) (λ _.
    and_then (parts_spelled sizing env [] inside) (λ all. Ok (said_with (an_object (fields_of all.parts)) all.formed)))
said_by sizing env (body.enum at all) = Ok (said_with (an_enum (texts_of all)) [])
said_by sizing env (body.distinct at base) = and_then (spelled sizing env base) (λ t. Ok (said_with (a_distinct t.of) t.formed))
said_by sizing env (body.alias of) = and_then (spelled sizing env of) (λ t. Ok (said_with (an_alias t.of) t.formed))

-- Written types: the types that they stand for.
use Rattle.std.specs.Prelude.{ℕ, ℤ, if◌then◌else◌, List, [], ◌∷◌, ◌++◌, codes, Option, Some, None, Ok}
use Rattle.arc_base.specs.declared.place.Place.{Place}
use Rattle.arc_base.specs.declared.place.Code.TheVariants.{LeftOut}
use Rattle.arc_base.specs.Refusal.{and_then, refused}
use Rattle.indent_scanner.specs.Words.{normal}
use Rattle.nim_tree.specs.declared.name.Declared.{Declared}
use Rattle.nim_tree.specs.Types as written
use Rattle.nim_tree.specs.Types.{Written, Arguments, no_arguments, argument, Fields, no_fields, fields}
use Rattle.nim_types.specs.Types as type
use Rattle.nim_types.specs.Types.{Ty, Tys, Field, Facts}
use Rattle.expr_rules.specs.Env.{Env}
use Rattle.expr_rules.specs.Answers.{Answer, not_typed}
use Rattle.expr_rules.specs.Constructions.{is_among}
use Rattle.expr_rules.specs.Demands.{former_of}
use Rattle.expr_rules.specs.Names.{callee_rule, named_type, formed_type, array_by}
use Rattle.expr_rules.specs.Sizes.{is_sized}
use Rattle.decl_rules.specs.State.{if_new}
use Rattle.decl_rules.specs.Values.{length_value}

-- the place of its first token
abbrev pub type_place : Written → Place
type_place (written.named at x given) = at
type_place (written.array at length element) = at
type_place (written.ref_to at target) = at
type_place (written.tuple_of at inside) = at

-- an array or tuple type that is written
pub record Formed : Type 0 where
  pub at : Place
  pub of : Ty

-- a type, with the array and tuple types written in it, inner ones before outer ones, where their sizes are looked at later
pub record Spelled : Type 0 where
  pub of : Ty
  pub formed : List Formed

abbrev pub spelled_as : Ty → List Formed → Spelled
spelled_as of formed = record { of = of; formed = formed }

-- In a section of types a size is known behind it alone; and a length is an expression in which the section's types mean what is
-- known of them so far, while in types they are names.
pub data Sizing : Type 0 where
  at_once : Sizing
  later : (known : Env) → Sizing

-- the declarations under which a length is typed
abbrev pub length_env : Sizing → Env → Env
length_env at_once env = env
length_env (later known) env = known

-- no type is larger than the limit
abbrev pub within_size : Facts → Place → Ty → Answer (Unit {0})
within_size facts at ty = if is_sized facts ty then Ok tt else not_typed at

abbrev pub formed_rule : Sizing → Facts → Place → Ty → List Formed → Answer Spelled
formed_rule at_once facts at ty inside = and_then (within_size facts at ty) (λ _. Ok (spelled_as ty []))
formed_rule (later known) facts at ty inside = Ok (spelled_as ty (inside ++ record { at = at; of = ty } ∷ []))

-- ---- names

abbrev pub types_in : List Spelled → List Ty
types_in [] = []
types_in (s ∷ rest) = s.of ∷ types_in rest

abbrev pub formed_in : List Spelled → List Formed
formed_in [] = []
formed_in (s ∷ rest) = s.formed ++ formed_in rest

abbrev pub named_by : Env → Place → List ℕ → List Spelled → Answer Spelled
named_by env at x [] = and_then (named_type env at x) (λ ty. Ok (spelled_as ty []))
named_by env at x (s ∷ rest) = and_then (formed_type env at x (types_in (s ∷ rest))) (λ ty. Ok (spelled_as ty (formed_in (s ∷ rest))))

-- ---- arrays

abbrev pub array_rule : Sizing → Env → Place → ℤ → Spelled → Answer Spelled
array_rule sizing env at k element =
    and_then (array_by at (former_of env (codes "array")) k element.of) (λ ty. formed_rule sizing env.facts at ty element.formed)

-- ---- fields and parts

pub record Part : Type 0 where
  pub name : Declared
  pub of : Ty

pub record Parted : Type 0 where
  pub parts : List Part
  pub formed : List Formed

abbrev pub parts_as : List Declared → Ty → List Part
parts_as [] ty = []
parts_as (d ∷ rest) ty = record { name = d; of = ty } ∷ parts_as rest ty

abbrev pub parts_behind : List Declared → Spelled → Parted → Parted
parts_behind names s more = record { parts = parts_as names s.of ++ more.parts; formed = s.formed ++ more.formed }

-- each name once, behind others
abbrev pub field_names_rule : List (List ℕ) → List Declared → Answer (List (List ℕ))
field_names_rule before [] = Ok before
field_names_rule before (d ∷ rest) = and_then (if_new (is_among (normal d.text) before) d.at) (λ _. field_names_rule (normal d.text ∷ before) rest)

abbrev pub names_of : List Part → List (List ℕ)
names_of [] = []
names_of (p ∷ rest) = normal p.name.text ∷ names_of rest

abbrev pub types_of : List Part → Tys
types_of [] = type.no_types
types_of (p ∷ rest) = type.types p.of (types_of rest)

abbrev pub fields_of : List Part → List Field
fields_of [] = []
fields_of (p ∷ rest) = record { name = p.name.text; shown = p.name.shown; of = p.of } ∷ fields_of rest

abbrev pub tuple_of : List Part → Ty
tuple_of all = type.tuple (names_of all) (types_of all)

-- ---- types

abbrev mutual
  pub spelled : Sizing → Env → Written → Answer Spelled
  spelled sizing env (written.named at x given) =
      and_then (callee_rule env at (normal x)) (λ _. and_then (all_spelled sizing env given) (λ all. named_by env at x all))
  spelled sizing env (written.array at length element) =
      and_then (length_value (length_env sizing env) length) (λ k.
      and_then (spelled sizing env element) (λ e. array_rule sizing env at k e))
  spelled sizing env (written.ref_to at target) = refused LeftOut at
  spelled sizing env (written.tuple_of at inside) =
      and_then (parts_spelled sizing env [] inside) (λ all. formed_rule sizing env.facts at (tuple_of all.parts) all.formed)

  pub all_spelled : Sizing → Env → Arguments → Answer (List Spelled)
  all_spelled sizing env no_arguments = Ok []
  all_spelled sizing env (argument first rest) =
      and_then (spelled sizing env first) (λ s. and_then (all_spelled sizing env rest) (λ more. Ok (s ∷ more)))

  -- groups of fields behind fields with these names
  pub parts_spelled : Sizing → Env → List (List ℕ) → Fields → Answer Parted
  parts_spelled sizing env before no_fields = Ok (record { parts = []; formed = [] })
  parts_spelled sizing env before (fields all of rest) =
      and_then (field_names_rule before all) (λ names.
      and_then (spelled sizing env of) (λ s. and_then (parts_spelled sizing env names rest) (λ more. Ok (parts_behind all s more))))

-- where a type is written but in a section of types
abbrev pub written_type : Env → Written → Answer Ty
written_type env t = and_then (spelled at_once env t) (λ s. Ok s.of)

abbrev pub if_written : Env → Option Written → Answer (Option Ty)
if_written env None = Ok None
if_written env (Some t) = and_then (written_type env t) (λ ty. Ok (Some ty))

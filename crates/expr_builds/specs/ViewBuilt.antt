-- What the code of constructions and of written types works with, by numbers of types. No public contract speaks of it.
use Rattle.std.specs.Prelude.{◌≡◌, ℕ, ◌<◌, List, [], ◌∷◌, map, Option, Some, None, Bool, true, false, ◌||◌, if◌then◌else◌}
use Rattle.std.specs.Prelude.{nat_eq, Ok}
use Rattle.std.specs.Cmp.Lexicographic.{pointwise}
use Rattle.arc_base.specs.declared.place.Place.{Place}
use Rattle.arc_base.specs.Refusal.{and_then}
use Rattle.nim_tree.specs.Terms as term
use Rattle.nim_tree.specs.Terms.{Term}
use Rattle.nim_types.specs.Types as type
use Rattle.nim_types.specs.Types.{Ty}
use Rattle.nim_types.specs.Table.{type_at}
use Rattle.nim_types.specs.declared.types.TypeDef.{TypeDef}
use Rattle.nim_types.specs.declared.types.TypeDef.TheVariants as D
use Rattle.expr_parts.specs.declared.value.Value.{Value as RustValue}
use Rattle.expr_parts.specs.declared.parts.Found.{Found as RustFound}
use Rattle.expr_builds.specs.declared.plans.Plan.{Plan as RustPlan}
use Rattle.expr_rules.specs.Env.{Env}
use Rattle.expr_rules.specs.Answers.{Answer, not_typed, Want}
use Rattle.expr_rules.specs.Constructions.{Plan, plan, inner_wants, Found, field_named, field_or_unknown}
use Rattle.expr_parts.specs.View.{found_of}

-- the name of a part, as it is written
abbrev pub part_name : Term → Option (List ℕ)
part_name (term.named at x a) = Some x
part_name _ = None

abbrev pub has_names : List (List ℕ) → Bool
has_names [] = false
has_names (x ∷ rest) = true

-- ---- numbers of types

abbrev pub FoundsWithin : ℕ → List RustFound → Type 0
FoundsWithin n [] = Unit {0}
FoundsWithin n (f ∷ rest) = (f.ty < n) × FoundsWithin n rest

-- that of the first value
abbrev pub first_number : List RustValue → Option ℕ
first_number [] = None
first_number (v ∷ rest) = Some v.ty

-- ---- tuples

-- whether it is a tuple of parts with these numbers
abbrev pub IsTuple : TypeDef → List ℕ → Bool → Type 0
IsTuple (D.Tuple names own) is answer = pointwise nat_eq own is ≡ answer
IsTuple _ is answer = answer ≡ false

-- the number of its type, where it is such a tuple
abbrev pub TakesTuple : ℕ → TypeDef → List ℕ → Option ℕ → Type 0
TakesTuple id def is taken = (answer : Bool) × IsTuple def is answer × (taken ≡ (if answer then Some id else None))

-- what the parts of a tuple want
abbrev pub wants_of : Ty → List Want
wants_of (type.tuple names ts) = inner_wants ts
wants_of _ = []

-- the type that its place gives, else one of its own
abbrev pub or_tuple : Option Ty → Ty → Ty
or_tuple (Some ty) own = ty
or_tuple None own = own

-- ---- objects

abbrev pub plan_of : List Ty → RustPlan → Plan
plan_of ts p = plan (type_at ts p.ty) (map (found_of ts) p.chosen.items)

abbrev pub PlanWithin : ℕ → RustPlan → Type 0
PlanWithin n p = (p.ty < n) × FoundsWithin n p.chosen.items

abbrev pub has_number : ℕ → List RustFound → Bool
has_number i [] = false
has_number i (f ∷ rest) = nat_eq i f.number || has_number i rest

-- whether a field comes twice
abbrev pub found_twice : List RustFound → Bool
found_twice [] = false
found_twice (f ∷ rest) = has_number f.number rest || found_twice rest

abbrev pub found_before : Found → Answer (List Found) → Answer (List Found)
found_before f rest = and_then rest (λ fs. Ok (f ∷ fs))

-- the fields of the names, whether or not one comes twice
abbrev pub fields_found : Env → Place → Ty → List (List ℕ) → Answer (List Found)
fields_found env at ty [] = Ok []
fields_found env at ty (x ∷ rest) = and_then (field_or_unknown at (field_named env x ty)) (λ f. found_before f (fields_found env at ty rest))

abbrev pub plan_once : Place → Ty → (twice : Bool) → List Found → Answer Plan
plan_once at ty true fs = not_typed at
plan_once at ty false fs = Ok (plan ty fs)

-- ---- written types

abbrev pub only_one : List ℕ → Option ℕ
only_one (i ∷ []) = Some i
only_one _ = None

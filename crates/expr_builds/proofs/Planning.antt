-- Plans of objects: the fields of names first, and then that none comes twice.
use Rattle.std.proofs.Common.{◌≡◌, ℕ, ◌<◌, List, [], ◌∷◌, ◌++◌, refl, sym, ap, ap₂, ◌∙◌, Some, None}
use Rattle.std.proofs.Common.{append_assoc, append-nil}
use Rattle.std.specs.Prelude.{Bool, true, false, ◌||◌, if◌then◌else◌, nat_eq, map, Option, Ok, Err}
use Rattle.arc_base.specs.declared.place.Place.{Place}
use Rattle.arc_base.specs.declared.place.Code.TheVariants.{NotTyped, UnknownName}
use Rattle.arc_base.specs.declared.place.Stop.{Stop}
use Rattle.arc_base.specs.declared.place.Stop.TheVariants as stop
use Rattle.arc_base.specs.Refusal.{and_then, Answers}
use Rattle.nim_types.specs.Types as type
use Rattle.nim_types.specs.Types.{Ty, Fact}
use Rattle.expr_parts.specs.declared.scope.What.{What}
use Rattle.expr_parts.specs.declared.scope.What.TheVariants as what
use Rattle.expr_parts.specs.declared.parts.Found.{Found as RustFound}
use Rattle.expr_builds.specs.declared.plans.Plan.{Plan as RustPlan}
use Rattle.expr_rules.specs.Env.{Env, Known, unknown, known_next}
use Rattle.expr_rules.specs.Answers.{Answer, not_typed}
use Rattle.expr_rules.specs.Constructions.{Found, Plan, fields_for, field_named, field_or_unknown, with_field, is_number_among, object_by}
use Rattle.expr_rules.specs.Constructions.{object_of}
use Rattle.expr_rules.specs.Constructions.{plan_as, plan_with, numbers_of}
use Rattle.expr_parts.specs.View.{found_of, entry_by, are_fields}
use Rattle.expr_builds.specs.ViewBuilt.{FoundsWithin, has_number, found_twice, found_before, fields_found, plan_once, plan_of}
use Rattle.expr_parts.proofs.ForCallers.{refuses}

-- ---- that no field comes twice

number_twice : List Found → Bool
number_twice [] = false
number_twice (f ∷ rest) = is_number_among f.number rest || number_twice rest

among_is : (ts : List Ty) (i : ℕ) (fs : List RustFound) → is_number_among i (map (found_of ts) fs) ≡ has_number i fs
among_is ts i [] = refl
among_is ts i (f ∷ fs) = ap (λ b. nat_eq i f.number || b) (among_is ts i fs)

twice_is : (ts : List Ty) (fs : List RustFound) → number_twice (map (found_of ts) fs) ≡ found_twice fs
unfolding number_twice
twice_is ts [] = refl
twice_is ts (f ∷ fs) = ap₂ (λ a b. a || b) (among_is ts f.number fs) (twice_is ts fs)

once_more : (at : Place) (ty : Ty) (f : Found) (fs : List Found) (t a : Bool)
    → and_then (plan_once at ty t fs) (λ p. if a then not_typed at else Ok (record { of = p.of; chosen = f ∷ p.chosen }))
    ≡ plan_once at ty (a || t) (f ∷ fs)
once_more at ty f fs true true = refl
once_more at ty f fs true false = refl
once_more at ty f fs false true = refl
once_more at ty f fs false false = refl

with_rest : (at : Place) (ty : Ty) (f : Found) (rest : Answer (List Found))
    → and_then (and_then rest (λ fs. plan_once at ty (number_twice fs) fs)) (with_field at f)
    ≡ and_then (found_before f rest) (λ fs. plan_once at ty (number_twice fs) fs)
unfolding number_twice
with_rest at ty f (Err e) = refl
with_rest at ty f (Ok fs) = by_twice (number_twice fs)
  where
    by_twice : (t : Bool) → and_then (plan_once at ty t fs) (with_field at f) ≡ plan_once at ty (is_number_among f.number fs || t) (f ∷ fs)
    by_twice true = by_number (is_number_among f.number fs)
      where
        by_number : (a : Bool) → not_typed at ≡ plan_once at ty (a || true) (f ∷ fs)
        by_number true = refl
        by_number false = refl
    by_twice false = by_number (is_number_among f.number fs)
      where
        by_number : (a : Bool) → (if a then not_typed at else Ok (record { of = ty; chosen = f ∷ fs })) ≡ plan_once at ty (a || false) (f ∷ fs)
        by_number true = refl
        by_number false = refl

fields_by : (env : Env) (at : Place) (ty : Ty) (names : List (List ℕ))
    → fields_for env at ty names ≡ and_then (fields_found env at ty names) (λ fs. plan_once at ty (number_twice fs) fs)
unfolding number_twice
fields_by env at ty [] = refl
fields_by env at ty (x ∷ rest) = by_field (field_or_unknown at (field_named env x ty)) (fields_by env at ty rest)
  where
    by_field : (o : Answer Found) → fields_for env at ty rest ≡ and_then (fields_found env at ty rest) (λ fs. plan_once at ty (number_twice fs) fs)
        → and_then o (λ f. and_then (fields_for env at ty rest) (λ plan. with_field at f plan))
        ≡ and_then (and_then o (λ f. found_before f (fields_found env at ty rest))) (λ fs. plan_once at ty (number_twice fs) fs)
    by_field (Err e) h = refl
    by_field (Ok f) h = ap (λ r. and_then r (with_field at f)) h ∙ with_rest at ty f (fields_found env at ty rest)

-- the plan of the fields that were found
pub planned : (ts : List Ty) (env : Env) (at : Place) (ty : Ty) (names : List (List ℕ)) (fs : List RustFound)
    → fields_found env at ty names ≡ Ok (map (found_of ts) fs) → fields_for env at ty names ≡ plan_once at ty (found_twice fs) (map (found_of ts) fs)
planned ts env at ty names fs e =
    fields_by env at ty names ∙ ap (λ r. and_then r (λ gs. plan_once at ty (number_twice gs) gs)) e
    ∙ ap (λ b. plan_once at ty b (map (found_of ts) fs)) (twice_is ts fs)

pub not_planned : (ts : List Ty) (env : Env) (at : Place) (ty : Ty) (names : List (List ℕ)) (s : Stop)
    → Answers {T = List RustFound} (λ fs. map (found_of ts) fs) (fields_found env at ty names) (Err s)
    → Answers (plan_of ts) (fields_for env at ty names) (Err s)
not_planned ts env at ty names (stop.Refused code p) h =
    fields_by env at ty names ∙ ap (λ r. and_then r (λ gs. plan_once at ty (number_twice gs) gs)) h
not_planned ts env at ty names stop.Memory h = tt

-- ---- fields in order

abbrev pub behind_found : List Found → Answer (List Found) → Answer (List Found)
behind_found done rest = and_then rest (λ fs. Ok (done ++ fs))

one_before : (done : List Found) (f : Found) (rest : Answer (List Found)) → behind_found done (found_before f rest) ≡ behind_found (done ++ f ∷ []) rest
one_before done f (Ok fs) = ap Ok (sym (append_assoc done (f ∷ []) fs))
one_before done f (Err e) = refl

map_end : (ts : List Ty) (fs : List RustFound) (f : RustFound) → map (found_of ts) (fs ++ f ∷ []) ≡ map (found_of ts) fs ++ found_of ts f ∷ []
map_end ts [] f = refl
map_end ts (g ∷ fs) f = ap (λ gs. found_of ts g ∷ gs) (map_end ts fs f)

pub one_found : (ts : List Ty) (env : Env) (at : Place) (ty : Ty) (done more : List RustFound) (x : List ℕ) (rest all : List (List ℕ)) (f : RustFound)
    → all ≡ x ∷ rest → more ≡ done ++ f ∷ [] → field_or_unknown at (field_named env x ty) ≡ Ok (found_of ts f)
    → behind_found (map (found_of ts) more) (fields_found env at ty rest) ≡ behind_found (map (found_of ts) done) (fields_found env at ty all)
one_found ts env at ty done more x rest all f split m e =
    ap (λ fs. behind_found (map (found_of ts) fs) (fields_found env at ty rest)) m
    ∙ ap (λ gs. behind_found gs (fields_found env at ty rest)) (map_end ts done f)
    ∙ sym (one_before (map (found_of ts) done) (found_of ts f) (fields_found env at ty rest))
    ∙ ap (λ o. behind_found (map (found_of ts) done) (and_then o (λ f. found_before f (fields_found env at ty rest)))) (sym e)
    ∙ ap (λ xs. behind_found (map (found_of ts) done) (fields_found env at ty xs)) (sym split)

pub no_found : {T : Type 0} (of : T → List Found) (ts : List Ty) (env : Env) (at : Place) (ty : Ty) (done : List RustFound) (x : List ℕ)
    (rest all : List (List ℕ)) (said : Answer (List Found)) (s : Stop) → all ≡ x ∷ rest
    → behind_found (map (found_of ts) done) (fields_found env at ty all) ≡ said
    → Answers (found_of ts) (field_or_unknown at (field_named env x ty)) (Err s) → Answers of said (Err s)
no_found of ts env at ty done x rest all said (stop.Refused code p) split whole h =
    sym (ap (λ xs. behind_found (map (found_of ts) done) (fields_found env at ty xs)) (sym split) ∙ whole)
    ∙ ap (λ o. behind_found (map (found_of ts) done) (and_then o (λ f. found_before f (fields_found env at ty rest)))) h
no_found of ts env at ty done x rest all said stop.Memory split whole h = tt

pub all_found : (ts : List Ty) (env : Env) (at : Place) (ty : Ty) (done : List RustFound) (all : List (List ℕ)) (said : Answer (List Found))
    → all ≡ [] → behind_found (map (found_of ts) done) (fields_found env at ty all) ≡ said → said ≡ Ok (map (found_of ts) done)
all_found ts env at ty done all said none whole =
    sym whole ∙ ap (λ xs. behind_found (map (found_of ts) done) (fields_found env at ty xs)) none ∙ ap Ok (append-nil (map (found_of ts) done))

pub founds_end : (n : ℕ) (fs : List RustFound) (f : RustFound) → FoundsWithin n fs → f.ty < n → FoundsWithin n (fs ++ f ∷ [])
founds_end n [] f h k = (k, tt)
founds_end n (g ∷ fs) f h k = (h.0, founds_end n fs f h.1 k)

-- ---- the type of what a name means

pub object_is : (ty : Ty) (o : Option Fact) (b : Bool) → are_fields o ≡ b → object_by ty o ≡ (if b then Some ty else None)
object_is ty None b h = ap (λ c. if c then Some ty else None) h
object_is ty (Some (type.fields all hooks)) b h = ap (λ c. if c then Some ty else None) h
object_is ty (Some (type.members all)) b h = ap (λ c. if c then Some ty else None) h
object_is ty (Some (type.base t)) b h = ap (λ c. if c then Some ty else None) h
object_is ty (Some (type.below t)) b h = ap (λ c. if c then Some ty else None) h

pub plan_known : (ts : List Ty) (env : Env) (at : Place) (built_in : Bool) (before : Known) (x : List ℕ) (w : What) (names : List (List ℕ))
    → plan_as env at built_in (known_next before (entry_by ts x w)) names ≡ plan_with env at (object_of env (known_next before (entry_by ts x w))) names
plan_known ts env at built_in before x (what.Variable place ty writable global) names = refl
plan_known ts env at built_in before x (what.Constant ty l) names = refl
plan_known ts env at built_in before x (what.Type id) names = refl
plan_known ts env at built_in before x (what.Procedure p) names = refl
plan_known ts env at built_in before x what.Input names = refl
plan_known ts env at built_in before x what.Pending names = refl

pub no_plan : (of : RustPlan → Plan) (env : Env) (at : Place) (built_in : Bool) (names : List (List ℕ)) (s : Stop)
    → (built_in ≡ true → s ≡ stop.Refused NotTyped at) → (built_in ≡ false → s ≡ stop.Refused UnknownName at)
    → Answers of (plan_as env at built_in unknown names) (Err s)
no_plan of env at true names s h k = refuses of (plan_as env at true unknown names) NotTyped at s (h refl) refl
no_plan of env at false names s h k = refuses of (plan_as env at false unknown names) UnknownName at s (k refl) refl

pub behind_nothing : (ts : List Ty) (done : List RustFound) (said : Answer (List Found)) → done ≡ [] → behind_found (map (found_of ts) done) said ≡ said
behind_nothing ts done (Ok fs) e = ap (λ gs. Ok (map (found_of ts) gs ++ fs)) e
behind_nothing ts done (Err r) e = refl

-- ---- a value for each field

pub numbers_are : (ts : List Ty) (fs : List RustFound) → numbers_of (map (found_of ts) fs) ≡ map (λ f. f.number) fs
numbers_are ts [] = refl
numbers_are ts (f ∷ fs) = ap (λ is. f.number ∷ is) (numbers_are ts fs)

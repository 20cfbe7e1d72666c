-- The fields of a construction are computed as they are said.
use Rattle.std.proofs.Common.{◌≡◌, ℕ, Bool, true, false, List, [], ◌∷◌, refl, sym, ap, subst, ◌∙◌}
use Rattle.std.specs.Prelude.{Option, Some, None, Ok, if◌then◌else◌}
use Rattle.arc_base.specs.declared.place.Place.{Place}
use Rattle.arc_base.specs.declared.place.Code.{Code}
use Rattle.arc_base.specs.declared.place.Code.TheVariants.{UnknownName, NotTyped}
use Rattle.arc_base.specs.Refusal.{and_then, IsRefusal}
use Rattle.indent_scanner.specs.Words.{normal}
use Rattle.nim_types.specs.Types.{Ty}
use Rattle.expr_rules.specs.Env as env_of
use Rattle.expr_rules.specs.Env.{Env, Known, known}
use Rattle.expr_rules.specs.Answers.{Answer, not_typed}
use Rattle.expr_rules.specs.Builtins.{is_built_in, unless_built_in}
use Rattle.expr_rules.specs.Constructions.{Found, Plan, plan, field_named, is_number_among, with_field, field_or_unknown, fields_for, object_of, plan_with}
use Rattle.expr_rules.specs.Constructions.{plan_as}
use Rattle.expr_rules.specs.Constructions.{plan_for}
use Rattle.expr_rules.specs.FieldsGiven.{AreFields, no_part, a_field, AreNoFields, unknown_field, later_field, field_twice}
use Rattle.expr_rules.specs.Meant.{IsUnknown, no_declaration}
use Rattle.expr_rules.proofs.Means.{Means, m_ok, m_err, means_then, means_map, bind_ok, bind_err}
use Rattle.expr_rules.proofs.Chosen.{true_false}
use Rattle.expr_rules.proofs.OperationRows.{unknown_built, unknown_known}
use Rattle.expr_rules.specs.Names.{is_unknown}

abbrev FieldsSo : Env → Place → Ty → List (List ℕ) → Answer Plan → Type 0
FieldsSo env at ty names = Means (λ p. (p.of ≡ ty) × AreFields env ty names p.chosen) (λ c q. (q ≡ at) × AreNoFields env ty names c)

with_sound : (env : Env) (at : Place) (ty : Ty) (x : List ℕ) (rest : List (List ℕ)) (f : Found) (p : Plan) → field_named env x ty ≡ Some f → p.of ≡ ty
    → AreFields env ty rest p.chosen → FieldsSo env at ty (x ∷ rest) (with_field at f p)
with_sound env at ty x rest f p e o h = by_test (is_number_among f.number p.chosen) refl
  where
    by_test : (b : Bool) → is_number_among f.number p.chosen ≡ b
        → FieldsSo env at ty (x ∷ rest) (if b then not_typed at else Ok (record { of = p.of; chosen = f ∷ p.chosen }))
    by_test true t = m_err (refl, field_twice e h t)
    by_test false t = m_ok (o, a_field e h t)

fields_sound : (env : Env) (at : Place) (ty : Ty) (names : List (List ℕ)) → FieldsSo env at ty names (fields_for env at ty names)
fields_sound env at ty [] = m_ok (refl, no_part)
fields_sound env at ty (x ∷ rest) = by_field (field_named env x ty) refl (fields_sound env at ty rest)
  where
    by_field : (a : Option Found) → field_named env x ty ≡ a → FieldsSo env at ty rest (fields_for env at ty rest)
        → FieldsSo env at ty (x ∷ rest) (and_then (field_or_unknown at a) (λ f. and_then (fields_for env at ty rest) (λ p. with_field at f p)))
    by_field None e h = m_err (refl, unknown_field e)
    by_field (Some f) e h =
        means_then h (λ p k. with_sound env at ty x rest f p e k.0 k.1) (λ c q k. (k.0, later_field e k.1))

fields_back : (env : Env) (at : Place) (ty : Ty) {names : List (List ℕ)} {chosen : List Found} → AreFields env ty names chosen
    → fields_for env at ty names ≡ Ok (plan ty chosen)
fields_back env at ty no_part = refl
fields_back env at ty (a_field {f = f} {more = more} e h t) =
    bind_ok _ (ap (λ a. field_or_unknown at a) e) (bind_ok _ (fields_back env at ty h)
    (ap (λ b. if b then not_typed at else Ok (plan ty (f ∷ more))) t))

no_fields_back : (env : Env) (at : Place) (ty : Ty) {names : List (List ℕ)} {c : Code} → AreNoFields env ty names c
    → IsRefusal (fields_for env at ty names) c at
no_fields_back env at ty (unknown_field e) = bind_err _ (ap (λ a. field_or_unknown at a) e)
no_fields_back env at ty (later_field e h) = bind_ok _ (ap (λ a. field_or_unknown at a) e) (bind_err _ (no_fields_back env at ty h))
no_fields_back env at ty (field_twice {f = f} {more = more} e h t) =
    bind_ok _ (ap (λ a. field_or_unknown at a) e) (bind_ok _ (fields_back env at ty h)
    (ap (λ b. if b then not_typed at else Ok (plan ty (f ∷ more))) t))

-- why a construction has no plan
pub data NoPlan (env : Env) (at : Place) (x : List ℕ) (names : List (List ℕ)) : Code → Place → Type 0 where
  no_name : IsUnknown env (normal x) → NoPlan env at x names UnknownName at
  no_object : (IsUnknown env (normal x) → ⊥) → object_of env (known env x) ≡ None → NoPlan env at x names NotTyped at
  no_fields : {ty : Ty} {c : Code} → object_of env (known env x) ≡ Some ty → AreNoFields env ty names c → NoPlan env at x names c at

pub data IsPlan (env : Env) (x : List ℕ) (names : List (List ℕ)) : Plan → Type 0 where
  is_plan : {ty : Ty} {chosen : List Found} → object_of env (known env x) ≡ Some ty → AreFields env ty names chosen → IsPlan env x names (plan ty chosen)

planned : (env : Env) (x : List ℕ) (names : List (List ℕ)) (ty : Ty) (p : Plan) → object_of env (known env x) ≡ Some ty → p.of ≡ ty
    → AreFields env ty names p.chosen → IsPlan env x names p
planned env x names ty p o e h = subst (λ t. IsPlan env x names (plan t p.chosen)) (sym e) (is_plan o h)

unplanned : (env : Env) (at : Place) (x : List ℕ) (names : List (List ℕ)) (ty : Ty) (c : Code) (q : Place) → object_of env (known env x) ≡ Some ty
    → q ≡ at → AreNoFields env ty names c → NoPlan env at x names c q
unplanned env at x names ty c q o e h = subst (λ q. NoPlan env at x names c q) (sym e) (no_fields o h)

with_plan_sound : (env : Env) (at : Place) (x : List ℕ) (names : List (List ℕ)) (a : Option Ty) → object_of env (known env x) ≡ a
    → (IsUnknown env (normal x) → ⊥) → Means (λ p. IsPlan env x names p) (λ c q. NoPlan env at x names c q) (plan_with env at a names)
with_plan_sound env at x names None o k = m_err (no_object k o)
with_plan_sound env at x names (Some ty) o k =
    means_map (fields_sound env at ty names) (λ p h. planned env x names ty p o h.0 h.1) (λ c q h. unplanned env at x names ty c q o h.0 h.1)

known_name : (env : Env) (x : List ℕ) (k : Known) → known env x ≡ k → is_unknown k ≡ false → IsUnknown env (normal x) → ⊥
known_name env x k e u h = true_false (sym (ap is_unknown e) ∙ unknown_known h) u

pub plan_sound : (env : Env) (at : Place) (x : List ℕ) (names : List (List ℕ))
    → Means (λ p. IsPlan env x names p) (λ c q. NoPlan env at x names c q) (plan_for env at x names)
plan_sound env at x names = by_known (known env x) refl
  where
    by_built : (b : Bool) → is_built_in (normal x) ≡ b → known env x ≡ env_of.unknown
        → Means (λ p. IsPlan env x names p) (λ c q. NoPlan env at x names c q) (unless_built_in at b)
    by_built true b k = m_err (no_object (λ h. true_false b (unknown_built h)) (ap (λ k. object_of env k) k))
    by_built false b k = m_err (no_name (no_declaration b k))

    by_known : (k : Known) → known env x ≡ k
        → Means (λ p. IsPlan env x names p) (λ c q. NoPlan env at x names c q) (plan_as env at (is_built_in (normal x)) k names)
    by_known env_of.unknown k = by_built (is_built_in (normal x)) refl k
    by_known (env_of.a_type ty) k =
        with_plan_sound env at x names (object_of env (env_of.a_type ty)) (ap (λ k. object_of env k) k) (known_name env x (env_of.a_type ty) k refl)
    by_known (env_of.a_variable place of w g) k =
        with_plan_sound env at x names None (ap (λ k. object_of env k) k) (known_name env x (env_of.a_variable place of w g) k refl)
    by_known (env_of.a_constant of l) k =
        with_plan_sound env at x names None (ap (λ k. object_of env k) k) (known_name env x (env_of.a_constant of l) k refl)
    by_known (env_of.procedures all) k =
        with_plan_sound env at x names None (ap (λ k. object_of env k) k) (known_name env x (env_of.procedures all) k refl)
    by_known env_of.a_pending_type k = with_plan_sound env at x names None (ap (λ k. object_of env k) k) (known_name env x env_of.a_pending_type k refl)
    by_known env_of.the_input k = with_plan_sound env at x names None (ap (λ k. object_of env k) k) (known_name env x env_of.the_input k refl)

-- a name that is no unknown one
some_object : (env : Env) (at : Place) (x : List ℕ) (names : List (List ℕ)) (k : Known) (ty : Ty) → object_of env k ≡ Some ty
    → plan_as env at (is_built_in (normal x)) k names ≡ fields_for env at ty names
some_object env at x names env_of.unknown ty o = cc
some_object env at x names (env_of.a_type t) ty o = ap (λ a. plan_with env at a names) o
some_object env at x names (env_of.a_variable place of w g) ty o = cc
some_object env at x names (env_of.a_constant of l) ty o = cc
some_object env at x names (env_of.procedures all) ty o = cc
some_object env at x names env_of.a_pending_type ty o = cc
some_object env at x names env_of.the_input ty o = cc

pub plan_back : (env : Env) (at : Place) (x : List ℕ) {names : List (List ℕ)} {ty : Ty} {chosen : List Found} → object_of env (known env x) ≡ Some ty
    → AreFields env ty names chosen → plan_for env at x names ≡ Ok (plan ty chosen)
plan_back env at x {names} {ty} o h = some_object env at x names (known env x) ty o ∙ fields_back env at ty h

pub no_fields_refused : (env : Env) (at : Place) (x : List ℕ) {names : List (List ℕ)} {ty : Ty} {c : Code} → object_of env (known env x) ≡ Some ty
    → AreNoFields env ty names c → IsRefusal (plan_for env at x names) c at
no_fields_refused env at x {names} {ty} o h = some_object env at x names (known env x) ty o ∙ no_fields_back env at ty h

pub no_name_refused : (env : Env) (at : Place) (x : List ℕ) (names : List (List ℕ)) → IsUnknown env (normal x)
    → IsRefusal (plan_for env at x names) UnknownName at
no_name_refused env at x names (no_declaration b k) =
    ap (λ k. plan_as env at (is_built_in (normal x)) k names) k ∙ ap (λ b. unless_built_in {A = Plan} at b) b

pub no_object_refused : (env : Env) (at : Place) (x : List ℕ) (names : List (List ℕ)) → (IsUnknown env (normal x) → ⊥)
    → object_of env (known env x) ≡ None → IsRefusal (plan_for env at x names) NotTyped at
no_object_refused env at x names f o = by_known (known env x) refl o
  where
    built : (b : Bool) → is_built_in (normal x) ≡ b → known env x ≡ env_of.unknown → b ≡ true
    built true b k = refl
    built false b k = absurd (f (no_declaration b k))

    by_known : (k : Known) → known env x ≡ k → object_of env k ≡ None → IsRefusal (plan_as env at (is_built_in (normal x)) k names) NotTyped at
    by_known env_of.unknown k o = ap (λ b. unless_built_in {A = Plan} at b) (built (is_built_in (normal x)) refl k)
    by_known (env_of.a_type ty) k o = ap (λ a. plan_with env at a names) o
    by_known (env_of.a_variable place of w g) k o = refl
    by_known (env_of.a_constant of l) k o = refl
    by_known (env_of.procedures all) k o = refl
    by_known env_of.a_pending_type k o = refl
    by_known env_of.the_input k o = refl

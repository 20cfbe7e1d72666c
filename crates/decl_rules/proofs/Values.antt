-- Values and written types: what is computed is what the rules say, and back.
use Rattle.std.proofs.Common.{◌≡◌, ℕ, ℤ, List, [], refl}
use Rattle.std.specs.Prelude.{Option, Some, None, Ok}
use Rattle.arc_base.specs.declared.place.Place.{Place}
use Rattle.arc_base.specs.declared.place.Code.{Code}
use Rattle.arc_base.specs.Refusal.{IsRefusal}
use Rattle.nim_tree.specs.Terms.{Term}
use Rattle.nim_tree.specs.Types as written
use Rattle.nim_tree.specs.Types.{Written, Arguments, no_arguments, argument, Fields, no_fields, fields}
use Rattle.nim_types.specs.Types.{Ty}
use Rattle.nim_program.specs.Program.{Expr}
use Rattle.expr_rules.specs.Env.{Env}
use Rattle.expr_rules.specs.Answers.{Answer, Typed, typed_as, Want, nothing, inner}
use Rattle.expr_rules.specs.Typed.{typed}
use Rattle.expr_rules.specs.Rules.{IsTyped}
use Rattle.expr_rules.specs.Refusals.{IsRefused}
use Rattle.expr_rules.specs.Laws.{NodesComputed, RefusalsComputed}
use Rattle.decl_rules.specs.Values.{Value, valued_term, value_as, length_value}
use Rattle.decl_rules.specs.Written.{Spelled, Sizing, at_once, length_env, Parted, spelled, all_spelled, parts_spelled, written_type, if_written}
use Rattle.decl_rules.specs.TypeRules.{IsValue, v_value, IsValueAs, v_of_type, HasLength, v_length, IsSpelled, w_named, w_array, w_tuple, AreSpelled}
use Rattle.decl_rules.specs.TypeRules.{w_none, w_more, AreParts, w_no_parts, w_parts, IsWritten, w_type, IfWritten, w_nothing, w_something}
use Rattle.decl_rules.specs.TypeRefusals as F
use Rattle.decl_rules.specs.TypeRefusals.{IsNoValue, IsNoValueAs, HasNoLength, IsNotSpelled, AreNotSpelled, AreNoParts, IsNotWritten, IfNotWritten}
use Rattle.decl_rules.proofs.Means.{Means, m_ok, m_err, means_then, means_last, itself, bind_ok, bind_err}

-- what the rules of expressions say is computed
pub record Below : Type 0 where
  pub nodes : NodesComputed
  pub refusals : RefusalsComputed

abbrev pub TypedSo : Env → Want → ℕ → Term → Answer Typed → Type 0
TypedSo env want n t = Means (λ x. IsTyped env want n t x.expr x.next) (λ c p. IsRefused env want n t c p)

pub typed_sound : Below → (env : Env) (want : Want) (n : ℕ) (t : Term) → TypedSo env want n t (typed env want n t)
typed_sound l env want n t =
    means_last (typed env want n t) (λ x e. (l.nodes env want n x.next t x.expr).1 e) (λ c p e. (l.refusals env want n t c p).1 e)

pub typed_complete : Below → {env : Env} {want : Want} {n m : ℕ} {t : Term} {e : Expr} → IsTyped env want n t e m
    → typed env want n t ≡ Ok (typed_as e m)
typed_complete l h = (l.nodes _ _ _ _ _ _).0 h

pub refused_complete : Below → {env : Env} {want : Want} {n : ℕ} {t : Term} {c : Code} {p : Place} → IsRefused env want n t c p
    → IsRefusal (typed env want n t) c p
refused_complete l h = (l.refusals _ _ _ _ _ _).0 h

-- ---- values

abbrev pub ValueSo : Env → Want → ℕ → Term → Answer Value → Type 0
ValueSo env want n t = Means (λ v. IsValue env want n t v) (λ c p. IsNoValue env want n t c p)

pub value_sound : Below → (env : Env) (want : Want) (n : ℕ) (t : Term) → ValueSo env want n t (valued_term env want n t)
value_sound l env want n t =
    means_then (typed_sound l env want n t) (λ x hx. means_then (itself _) (λ v hv. m_ok (v_value hx hv)) (λ c p r. F.f_no_value hx r))
    (λ c p r. F.f_term r)

pub value_complete : Below → {env : Env} {want : Want} {n : ℕ} {t : Term} {v : Value} → IsValue env want n t v → valued_term env want n t ≡ Ok v
value_complete l (v_value h e) = bind_ok _ (typed_complete l h) (bind_ok _ e refl)

pub no_value_complete : Below → {env : Env} {want : Want} {n : ℕ} {t : Term} {c : Code} {p : Place} → IsNoValue env want n t c p
    → IsRefusal (valued_term env want n t) c p
no_value_complete l (F.f_term w) = bind_err _ (refused_complete l w)
no_value_complete l (F.f_no_value h r) = bind_ok _ (typed_complete l h) (bind_err _ r)

abbrev pub ValueAsSo : Env → Ty → ℕ → Term → Answer Value → Type 0
ValueAsSo env ty n t = Means (λ v. IsValueAs env ty n t v) (λ c p. IsNoValueAs env ty n t c p)

pub value_as_sound : Below → (env : Env) (ty : Ty) (n : ℕ) (t : Term) → ValueAsSo env ty n t (value_as env ty n t)
value_as_sound l env ty n t =
    means_then (value_sound l env (inner ty) n t) (λ v hv. means_then (itself _) (λ w hw. m_ok (v_of_type hv hw)) (λ c p r. F.f_other_type hv r))
    (λ c p r. F.f_value r)

pub value_as_complete : Below → {env : Env} {ty : Ty} {n : ℕ} {t : Term} {v : Value} → IsValueAs env ty n t v → value_as env ty n t ≡ Ok v
value_as_complete l (v_of_type h e) = bind_ok _ (value_complete l h) (bind_ok _ e refl)

pub no_value_as_complete : Below → {env : Env} {ty : Ty} {n : ℕ} {t : Term} {c : Code} {p : Place} → IsNoValueAs env ty n t c p
    → IsRefusal (value_as env ty n t) c p
no_value_as_complete l (F.f_value w) = bind_err _ (no_value_complete l w)
no_value_as_complete l (F.f_other_type h r) = bind_ok _ (value_complete l h) (bind_err _ r)

-- ---- lengths

abbrev pub LengthSo : Env → Term → Answer ℤ → Type 0
LengthSo env t = Means (λ k. HasLength env t k) (λ c p. HasNoLength env t c p)

pub length_sound : Below → (env : Env) (t : Term) → LengthSo env t (length_value env t)
length_sound l env t =
    means_then (value_sound l env nothing 0 t) (λ v h. means_last _ (λ k e. v_length h e) (λ c p r. F.f_length h r)) (λ c p r. F.f_length_value r)

pub length_complete : Below → {env : Env} {t : Term} {k : ℤ} → HasLength env t k → length_value env t ≡ Ok k
length_complete l (v_length h r) = bind_ok _ (value_complete l h) r

pub no_length_complete : Below → {env : Env} {t : Term} {c : Code} {p : Place} → HasNoLength env t c p → IsRefusal (length_value env t) c p
no_length_complete l (F.f_length_value w) = bind_err _ (no_value_complete l w)
no_length_complete l (F.f_length h r) = bind_ok _ (value_complete l h) r

-- ---- written types

abbrev pub SpelledSo : Sizing → Env → Written → Answer Spelled → Type 0
SpelledSo sizing env t = Means (λ s. IsSpelled sizing env t s) (λ c p. IsNotSpelled sizing env t c p)

abbrev pub AllSpelledSo : Sizing → Env → Arguments → Answer (List Spelled) → Type 0
AllSpelledSo sizing env given = Means (λ all. AreSpelled sizing env given all) (λ c p. AreNotSpelled sizing env given c p)

abbrev pub PartsSo : Sizing → Env → List (List ℕ) → Fields → Answer Parted → Type 0
PartsSo sizing env before inside = Means (λ all. AreParts sizing env before inside all) (λ c p. AreNoParts sizing env before inside c p)

mutual
  pub spelled_sound : Below → (sizing : Sizing) (env : Env) (t : Written) → SpelledSo sizing env t (spelled sizing env t)
  spelled_sound l sizing env (written.named at x given) =
      means_then (itself _)
      (λ _ e. means_then (all_spelled_sound l sizing env given) (λ all h. means_last _ (λ s r. w_named e h r) (λ c p r. F.f_named e h r))
      (λ c p r. F.f_argument e r)) (λ c p r. F.f_name r)
  spelled_sound l sizing env (written.array at length element) =
      means_then (length_sound l (length_env sizing env) length)
      (λ k hk. means_then (spelled_sound l sizing env element) (λ s h. means_last _ (λ s r. w_array hk h r) (λ c p r. F.f_array hk h r))
      (λ c p r. F.f_element hk r)) (λ c p r. F.f_array_length r)
  spelled_sound l sizing env (written.ref_to at target) = m_err F.f_ref
  spelled_sound l sizing env (written.tuple_of at inside) =
      means_then (parts_sound l sizing env [] inside) (λ all h. means_last _ (λ s r. w_tuple h r) (λ c p r. F.f_tuple h r)) (λ c p r. F.f_part r)

  pub all_spelled_sound : Below → (sizing : Sizing) (env : Env) (given : Arguments) → AllSpelledSo sizing env given (all_spelled sizing env given)
  all_spelled_sound l sizing env no_arguments = m_ok w_none
  all_spelled_sound l sizing env (argument first rest) =
      means_then (spelled_sound l sizing env first) (λ s h. means_then (all_spelled_sound l sizing env rest) (λ more k. m_ok (w_more h k))
      (λ c p r. F.f_rest h r)) (λ c p r. F.f_first r)

  pub parts_sound : Below → (sizing : Sizing) (env : Env) (before : List (List ℕ)) (inside : Fields)
      → PartsSo sizing env before inside (parts_spelled sizing env before inside)
  parts_sound l sizing env before no_fields = m_ok w_no_parts
  parts_sound l sizing env before (fields all of rest) =
      means_then (itself _)
      (λ names e. means_then (spelled_sound l sizing env of)
      (λ s h. means_then (parts_sound l sizing env names rest) (λ more k. m_ok (w_parts e h k)) (λ c p r. F.f_parts e h r))
      (λ c p r. F.f_type e r)) (λ c p r. F.f_names r)

mutual
  pub spelled_complete : Below → {sizing : Sizing} {env : Env} {t : Written} {s : Spelled} → IsSpelled sizing env t s → spelled sizing env t ≡ Ok s
  spelled_complete l (w_named e h r) = bind_ok _ e (bind_ok _ (all_spelled_complete l h) r)
  spelled_complete l (w_array k h r) = bind_ok _ (length_complete l k) (bind_ok _ (spelled_complete l h) r)
  spelled_complete l (w_tuple h r) = bind_ok _ (parts_complete l h) r

  pub all_spelled_complete : Below → {sizing : Sizing} {env : Env} {given : Arguments} {all : List Spelled} → AreSpelled sizing env given all
      → all_spelled sizing env given ≡ Ok all
  all_spelled_complete l w_none = refl
  all_spelled_complete l (w_more h k) = bind_ok _ (spelled_complete l h) (bind_ok _ (all_spelled_complete l k) refl)

  pub parts_complete : Below → {sizing : Sizing} {env : Env} {before : List (List ℕ)} {inside : Fields} {all : Parted}
      → AreParts sizing env before inside all → parts_spelled sizing env before inside ≡ Ok all
  parts_complete l w_no_parts = refl
  parts_complete l (w_parts e h k) = bind_ok _ e (bind_ok _ (spelled_complete l h) (bind_ok _ (parts_complete l k) refl))

mutual
  pub not_spelled_complete : Below → {sizing : Sizing} {env : Env} {t : Written} {c : Code} {p : Place} → IsNotSpelled sizing env t c p
      → IsRefusal (spelled sizing env t) c p
  not_spelled_complete l (F.f_name r) = bind_err _ r
  not_spelled_complete l (F.f_argument e w) = bind_ok _ e (bind_err _ (none_spelled_complete l w))
  not_spelled_complete l (F.f_named e h r) = bind_ok _ e (bind_ok _ (all_spelled_complete l h) r)
  not_spelled_complete l (F.f_array_length w) = bind_err _ (no_length_complete l w)
  not_spelled_complete l (F.f_element k w) = bind_ok _ (length_complete l k) (bind_err _ (not_spelled_complete l w))
  not_spelled_complete l (F.f_array k h r) = bind_ok _ (length_complete l k) (bind_ok _ (spelled_complete l h) r)
  not_spelled_complete l F.f_ref = refl
  not_spelled_complete l (F.f_part w) = bind_err _ (no_parts_complete l w)
  not_spelled_complete l (F.f_tuple h r) = bind_ok _ (parts_complete l h) r

  pub none_spelled_complete : Below → {sizing : Sizing} {env : Env} {given : Arguments} {c : Code} {p : Place} → AreNotSpelled sizing env given c p
      → IsRefusal (all_spelled sizing env given) c p
  none_spelled_complete l (F.f_first w) = bind_err _ (not_spelled_complete l w)
  none_spelled_complete l (F.f_rest h w) = bind_ok _ (spelled_complete l h) (bind_err _ (none_spelled_complete l w))

  pub no_parts_complete : Below → {sizing : Sizing} {env : Env} {before : List (List ℕ)} {inside : Fields} {c : Code} {p : Place}
      → AreNoParts sizing env before inside c p → IsRefusal (parts_spelled sizing env before inside) c p
  no_parts_complete l (F.f_names r) = bind_err _ r
  no_parts_complete l (F.f_type e w) = bind_ok _ e (bind_err _ (not_spelled_complete l w))
  no_parts_complete l (F.f_parts e h w) = bind_ok _ e (bind_ok _ (spelled_complete l h) (bind_err _ (no_parts_complete l w)))

abbrev pub WrittenSo : Env → Written → Answer Ty → Type 0
WrittenSo env t = Means (λ ty. IsWritten env t ty) (λ c p. IsNotWritten env t c p)

pub written_sound : Below → (env : Env) (t : Written) → WrittenSo env t (written_type env t)
written_sound l env t = means_then (spelled_sound l at_once env t) (λ s h. m_ok (w_type h)) (λ c p r. F.f_spelled r)

pub written_complete : Below → {env : Env} {t : Written} {ty : Ty} → IsWritten env t ty → written_type env t ≡ Ok ty
written_complete l (w_type h) = bind_ok _ (spelled_complete l h) refl

pub not_written_complete : Below → {env : Env} {t : Written} {c : Code} {p : Place} → IsNotWritten env t c p → IsRefusal (written_type env t) c p
not_written_complete l (F.f_spelled w) = bind_err _ (not_spelled_complete l w)

abbrev pub IfWrittenSo : Env → Option Written → Answer (Option Ty) → Type 0
IfWrittenSo env t = Means (λ ty. IfWritten env t ty) (λ c p. IfNotWritten env t c p)

pub if_written_sound : Below → (env : Env) (t : Option Written) → IfWrittenSo env t (if_written env t)
if_written_sound l env None = m_ok w_nothing
if_written_sound l env (Some t) = means_then (written_sound l env t) (λ ty h. m_ok (w_something h)) (λ c p r. F.f_something r)

pub if_written_complete : Below → {env : Env} {t : Option Written} {ty : Option Ty} → IfWritten env t ty → if_written env t ≡ Ok ty
if_written_complete l w_nothing = refl
if_written_complete l (w_something h) = bind_ok _ (written_complete l h) refl

pub if_not_written_complete : Below → {env : Env} {t : Option Written} {c : Code} {p : Place} → IfNotWritten env t c p
    → IsRefusal (if_written env t) c p
if_not_written_complete l (F.f_something w) = bind_err _ (not_written_complete l w)

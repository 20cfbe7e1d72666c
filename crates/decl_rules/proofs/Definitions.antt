-- Definitions and heads of procedures: what is computed is what the rules say, and back.
use Rattle.std.proofs.Common.{◌≡◌, ℕ, suc, List, [], ◌∷◌, refl}
use Rattle.std.specs.Prelude.{Bool, Option, Some, None, Ok}
use Rattle.arc_base.specs.declared.place.Place.{Place}
use Rattle.arc_base.specs.declared.place.Code.{Code}
use Rattle.arc_base.specs.Refusal.{IsRefusal}
use Rattle.nim_tree.specs.declared.name.Declared.{Declared}
use Rattle.nim_tree.specs.declared.stmt.Binding.{Binding}
use Rattle.nim_tree.specs.Terms.{Term}
use Rattle.nim_tree.specs.Statements.{Definition, Parameters, Head}
use Rattle.nim_types.specs.Types.{Ty}
use Rattle.expr_rules.specs.Env.{Env}
use Rattle.expr_rules.specs.Answers.{Answer}
use Rattle.decl_rules.specs.State.{Around, State, declaring, entered, Stated}
use Rattle.decl_rules.specs.Values.{Value, result_want}
use Rattle.decl_rules.specs.Definitions.{definition_value, variable_rule, variables_rule, definition_rule, definitions_rule, constant_value}
use Rattle.decl_rules.specs.Definitions.{constants_by, constants_in, constants_rule, Fixed, fixed_value, constant_entries}
use Rattle.decl_rules.specs.Heads.{Given, given_as, mode_of, with_parameters, Signature, has_result, Headed, parameters_rule, signature_rule, head_rule}
use Rattle.decl_rules.specs.Rules.{IsDefined, d_value, IsVariable, d_initialised, d_defaulted, AreVariables, d_no_names, d_names, IsDefinition, d_variables}
use Rattle.decl_rules.specs.Rules.{AreDefinitions, d_no_definitions, d_definitions, IsConstantOf, d_constant, d_no_constant, IsConstant, d_constants}
use Rattle.decl_rules.specs.Rules.{AreConstants, d_none_constant, d_all_constant, AreGiven, h_none, h_more, IsSignature, h_signature, IsHead, h_head}
use Rattle.decl_rules.specs.Refusals as F
use Rattle.decl_rules.specs.Refusals.{IsNotDefined, IsNoVariable, AreNoVariables, IsNoDefinition, AreNoDefinitions, IsNoConstantOf, IsNoConstant}
use Rattle.decl_rules.specs.Refusals.{AreNoConstants, AreNotGiven, IsNoSignature, IsNoHead}
use Rattle.decl_rules.proofs.Means.{Means, m_ok, m_err, means_then, means_map, means_last, itself, bind_ok, bind_err}
use Rattle.decl_rules.proofs.Values.{Below, value_sound, value_complete, no_value_complete, written_sound, written_complete, not_written_complete}
use Rattle.decl_rules.proofs.Values.{if_written_sound, if_written_complete, if_not_written_complete}

-- ---- values of definitions

abbrev pub DefinedSo : Env → Option Ty → ℕ → Term → Answer Value → Type 0
DefinedSo env ty n t = Means (λ v. IsDefined env ty n t v) (λ c p. IsNotDefined env ty n t c p)

pub defined_sound : Below → (env : Env) (ty : Option Ty) (n : ℕ) (t : Term) → DefinedSo env ty n t (definition_value env ty n t)
defined_sound l env ty n t =
    means_then (value_sound l env (result_want ty) n t) (λ v hv. means_then (itself _) (λ w e. m_ok (d_value hv e)) (λ c p r. F.f_annotated hv r))
    (λ c p r. F.f_value r)

pub defined_complete : Below → {env : Env} {ty : Option Ty} {n : ℕ} {t : Term} {v : Value} → IsDefined env ty n t v
    → definition_value env ty n t ≡ Ok v
defined_complete l (d_value h e) = bind_ok _ (value_complete l h) (bind_ok _ e refl)

pub not_defined_complete : Below → {env : Env} {ty : Option Ty} {n : ℕ} {t : Term} {c : Code} {p : Place}
    → IsNotDefined env ty n t c p → IsRefusal (definition_value env ty n t) c p
not_defined_complete l (F.f_value w) = bind_err _ (no_value_complete l w)
not_defined_complete l (F.f_annotated h r) = bind_ok _ (value_complete l h) (bind_err _ r)

-- ---- variables

abbrev pub VariableSo : Around → Place → Binding → Env → Option Ty → Option Term → State → Declared → Answer Stated → Type 0
VariableSo a at b env ty t st d = Means (λ s. IsVariable a at b env ty t st d s) (λ c p. IsNoVariable a at b env ty t st d c p)

pub variable_sound : Below → (a : Around) (at : Place) (b : Binding) (env : Env) (ty : Option Ty) (t : Option Term) (st : State) (d : Declared)
    → VariableSo a at b env ty t st d (variable_rule a at b env ty t st d)
variable_sound l a at b env ty (Some t) st d =
    means_then (defined_sound l env ty (suc st.node) t) (λ v h. m_ok (d_initialised h)) (λ c p r. F.f_initial r)
variable_sound l a at b env (Some ty) None st d = m_ok d_defaulted
variable_sound l a at b env None None st d = m_err F.f_nothing

pub variable_complete : Below → {a : Around} {at : Place} {b : Binding} {env : Env} {ty : Option Ty} {t : Option Term} {st : State} {d : Declared}
    {s : Stated} → IsVariable a at b env ty t st d s → variable_rule a at b env ty t st d ≡ Ok s
variable_complete l (d_initialised h) = bind_ok _ (defined_complete l h) refl
variable_complete l d_defaulted = refl

pub no_variable_complete : Below → {a : Around} {at : Place} {b : Binding} {env : Env} {ty : Option Ty} {t : Option Term} {st : State} {d : Declared}
    {c : Code} {p : Place} → IsNoVariable a at b env ty t st d c p → IsRefusal (variable_rule a at b env ty t st d) c p
no_variable_complete l (F.f_initial w) = bind_err _ (not_defined_complete l w)
no_variable_complete l F.f_nothing = refl

abbrev pub VariablesSo : Around → Place → Binding → Env → Option Ty → Option Term → State → List Declared → Answer Stated → Type 0
VariablesSo a at b env ty t st ds = Means (λ s. AreVariables a at b env ty t st ds s) (λ c p. AreNoVariables a at b env ty t st ds c p)

pub variables_sound : Below → (a : Around) (at : Place) (b : Binding) (env : Env) (ty : Option Ty) (t : Option Term) (st : State)
    (ds : List Declared) → VariablesSo a at b env ty t st ds (variables_rule a at b env ty t st ds)
variables_sound l a at b env ty t st [] = m_ok d_no_names
variables_sound l a at b env ty t st (d ∷ rest) =
    means_then (variable_sound l a at b env ty t st d)
    (λ one h. means_then (variables_sound l a at b env ty t one.state rest) (λ more k. m_ok (d_names h k)) (λ c p r. F.f_variables h r))
    (λ c p r. F.f_variable r)

pub variables_complete : Below → {a : Around} {at : Place} {b : Binding} {env : Env} {ty : Option Ty} {t : Option Term} {st : State}
    {ds : List Declared} {s : Stated} → AreVariables a at b env ty t st ds s → variables_rule a at b env ty t st ds ≡ Ok s
variables_complete l d_no_names = refl
variables_complete l (d_names h k) = bind_ok _ (variable_complete l h) (bind_ok _ (variables_complete l k) refl)

pub no_variables_complete : Below → {a : Around} {at : Place} {b : Binding} {env : Env} {ty : Option Ty} {t : Option Term} {st : State}
    {ds : List Declared} {c : Code} {p : Place} → AreNoVariables a at b env ty t st ds c p → IsRefusal (variables_rule a at b env ty t st ds) c p
no_variables_complete l (F.f_variable w) = bind_err _ (no_variable_complete l w)
no_variables_complete l (F.f_variables h w) = bind_ok _ (variable_complete l h) (bind_err _ (no_variables_complete l w))

-- ---- definitions

abbrev pub DefinitionSo : Around → Place → Binding → State → Definition → Answer Stated → Type 0
DefinitionSo a at b st d = Means (λ s. IsDefinition a at b st d s) (λ c p. IsNoDefinition a at b st d c p)

pub definition_sound : Below → (a : Around) (at : Place) (b : Binding) (st : State) (d : Definition)
    → DefinitionSo a at b st d (definition_rule a at b st d)
definition_sound l a at b st d =
    means_then (itself _)
    (λ _ e. means_then (if_written_sound l st.env d.annotation)
    (λ ty h. means_map (variables_sound l a at b st.env ty d.value st d.names) (λ s k. d_variables e h k) (λ c p r. F.f_definition e h r))
    (λ c p r. F.f_annotation e r)) (λ c p r. F.f_names r)

pub definition_complete : Below → {a : Around} {at : Place} {b : Binding} {st : State} {d : Definition} {s : Stated}
    → IsDefinition a at b st d s → definition_rule a at b st d ≡ Ok s
definition_complete l (d_variables e h k) = bind_ok _ e (bind_ok _ (if_written_complete l h) (variables_complete l k))

pub no_definition_complete : Below → {a : Around} {at : Place} {b : Binding} {st : State} {d : Definition} {c : Code} {p : Place}
    → IsNoDefinition a at b st d c p → IsRefusal (definition_rule a at b st d) c p
no_definition_complete l (F.f_names r) = bind_err _ r
no_definition_complete l (F.f_annotation e w) = bind_ok _ e (bind_err _ (if_not_written_complete l w))
no_definition_complete l (F.f_definition e h w) = bind_ok _ e (bind_ok _ (if_written_complete l h) (no_variables_complete l w))

abbrev pub DefinitionsSo : Around → Place → Binding → State → List Definition → Answer Stated → Type 0
DefinitionsSo a at b st all = Means (λ s. AreDefinitions a at b st all s) (λ c p. AreNoDefinitions a at b st all c p)

pub definitions_sound : Below → (a : Around) (at : Place) (b : Binding) (st : State) (all : List Definition)
    → DefinitionsSo a at b st all (definitions_rule a at b st all)
definitions_sound l a at b st [] = m_ok d_no_definitions
definitions_sound l a at b st (d ∷ rest) =
    means_then (definition_sound l a at b st d)
    (λ one h. means_then (definitions_sound l a at b one.state rest) (λ more k. m_ok (d_definitions h k)) (λ c p r. F.f_rest h r))
    (λ c p r. F.f_first r)

pub definitions_complete : Below → {a : Around} {at : Place} {b : Binding} {st : State} {all : List Definition} {s : Stated}
    → AreDefinitions a at b st all s → definitions_rule a at b st all ≡ Ok s
definitions_complete l d_no_definitions = refl
definitions_complete l (d_definitions h k) = bind_ok _ (definition_complete l h) (bind_ok _ (definitions_complete l k) refl)

pub no_definitions_complete : Below → {a : Around} {at : Place} {b : Binding} {st : State} {all : List Definition} {c : Code} {p : Place}
    → AreNoDefinitions a at b st all c p → IsRefusal (definitions_rule a at b st all) c p
no_definitions_complete l (F.f_first w) = bind_err _ (no_definition_complete l w)
no_definitions_complete l (F.f_rest h w) = bind_ok _ (definition_complete l h) (bind_err _ (no_definitions_complete l w))

-- ---- constants

abbrev pub ConstantOfSo : State → Option Ty → List Declared → Option Term → Answer State → Type 0
ConstantOfSo st ty names t = Means (λ s. IsConstantOf st ty names t s) (λ c p. IsNoConstantOf st ty names t c p)

-- a value that is known before any run
data HasConstant (st : State) (ty : Option Ty) (t : Term) : Fixed → Type 0 where
  has_constant : {v : Value} {w : Fixed} → IsDefined st.env ty 0 t v → fixed_value st.env v.given ≡ Ok w → HasConstant st ty t w

constant_from : {st : State} {ty : Option Ty} {names : List Declared} {t : Term} {w : Fixed} → HasConstant st ty t w
    → IsConstantOf st ty names (Some t) (declaring st (constant_entries w.of w.literal names))
constant_from (has_constant h e) = d_constant h e

value_sound_of : Below → (st : State) (ty : Option Ty) (names : List Declared) (t : Term)
    → Means (λ w. HasConstant st ty t w) (λ c p. IsNoConstantOf st ty names (Some t) c p) (constant_value st.env ty t)
value_sound_of l st ty names t =
    means_then (defined_sound l st.env ty 0 t) (λ v h. means_last _ (λ w e. has_constant h e) (λ c p r. F.f_constant h r))
    (λ c p r. F.f_constant_value r)

pub constant_of_sound : Below → (st : State) (ty : Option Ty) (names : List Declared) (t : Option Term)
    → ConstantOfSo st ty names t (constants_by st ty t names)
constant_of_sound l st ty [] None = m_ok d_no_constant
constant_of_sound l st ty (d ∷ rest) None = m_err F.f_no_constant
constant_of_sound l st ty names (Some t) = means_then (value_sound_of l st ty names t) (λ w h. m_ok (constant_from h)) (λ c p r. r)

pub constant_of_complete : Below → {st s : State} {ty : Option Ty} {names : List Declared} {t : Option Term} → IsConstantOf st ty names t s
    → constants_by st ty t names ≡ Ok s
constant_of_complete l d_no_constant = refl
constant_of_complete l (d_constant h e) = bind_ok _ (bind_ok _ (defined_complete l h) e) refl

pub no_constant_of_complete : Below → {st : State} {ty : Option Ty} {names : List Declared} {t : Option Term} {c : Code} {p : Place}
    → IsNoConstantOf st ty names t c p → IsRefusal (constants_by st ty t names) c p
no_constant_of_complete l F.f_no_constant = refl
no_constant_of_complete l (F.f_constant_value w) = bind_err _ (bind_err _ (not_defined_complete l w))
no_constant_of_complete l (F.f_constant h r) = bind_err _ (bind_ok _ (defined_complete l h) r)

abbrev pub ConstantSo : State → Definition → Answer State → Type 0
ConstantSo st d = Means (λ s. IsConstant st d s) (λ c p. IsNoConstant st d c p)

pub constant_sound : Below → (st : State) (d : Definition) → ConstantSo st d (constants_in st d)
constant_sound l st d =
    means_then (itself _)
    (λ _ e. means_then (if_written_sound l st.env d.annotation)
    (λ ty h. means_map (constant_of_sound l st ty d.names d.value) (λ s k. d_constants e h k) (λ c p r. F.f_constant_of e h r))
    (λ c p r. F.f_constant_type e r)) (λ c p r. F.f_constant_names r)

pub constant_complete : Below → {st s : State} {d : Definition} → IsConstant st d s → constants_in st d ≡ Ok s
constant_complete l (d_constants e h k) = bind_ok _ e (bind_ok _ (if_written_complete l h) (constant_of_complete l k))

pub no_constant_complete : Below → {st : State} {d : Definition} {c : Code} {p : Place} → IsNoConstant st d c p → IsRefusal (constants_in st d) c p
no_constant_complete l (F.f_constant_names r) = bind_err _ r
no_constant_complete l (F.f_constant_type e w) = bind_ok _ e (bind_err _ (if_not_written_complete l w))
no_constant_complete l (F.f_constant_of e h w) = bind_ok _ e (bind_ok _ (if_written_complete l h) (no_constant_of_complete l w))

abbrev pub ConstantsSo : State → List Definition → Answer State → Type 0
ConstantsSo st all = Means (λ s. AreConstants st all s) (λ c p. AreNoConstants st all c p)

pub constants_sound : Below → (st : State) (all : List Definition) → ConstantsSo st all (constants_rule st all)
constants_sound l st [] = m_ok d_none_constant
constants_sound l st (d ∷ rest) =
    means_then (constant_sound l st d)
    (λ one h. means_map (constants_sound l one rest) (λ s k. d_all_constant h k) (λ c p r. F.f_rest_constants h r)) (λ c p r. F.f_first_constant r)

pub constants_complete : Below → {st s : State} {all : List Definition} → AreConstants st all s → constants_rule st all ≡ Ok s
constants_complete l d_none_constant = refl
constants_complete l (d_all_constant h k) = bind_ok _ (constant_complete l h) (constants_complete l k)

pub no_constants_complete : Below → {st : State} {all : List Definition} {c : Code} {p : Place} → AreNoConstants st all c p
    → IsRefusal (constants_rule st all) c p
no_constants_complete l (F.f_first_constant w) = bind_err _ (no_constant_complete l w)
no_constants_complete l (F.f_rest_constants h w) = bind_ok _ (constant_complete l h) (no_constants_complete l w)

-- ---- heads of procedures

abbrev pub GivenSo : Bool → State → List Parameters → Answer (List Given) → Type 0
GivenSo result st all = Means (λ given. AreGiven result st all given) (λ c p. AreNotGiven result st all c p)

pub given_sound : Below → (result : Bool) (st : State) (all : List Parameters) → GivenSo result st all (parameters_rule st result all)
given_sound l result st [] = m_ok h_none
given_sound l result st (g ∷ rest) =
    means_then (itself _)
    (λ _ e. means_then (written_sound l st.env g.of)
    (λ ty h. means_then (given_sound l result (with_parameters st (given_as g.names (mode_of g.mode) ty)) rest)
    (λ more k. m_ok (h_more e h k)) (λ c p r. F.f_groups e h r)) (λ c p r. F.f_group_type e r)) (λ c p r. F.f_group_names r)

pub given_complete : Below → {result : Bool} {st : State} {all : List Parameters} {given : List Given} → AreGiven result st all given
    → parameters_rule st result all ≡ Ok given
given_complete l h_none = refl
given_complete l (h_more e h k) = bind_ok _ e (bind_ok _ (written_complete l h) (bind_ok _ (given_complete l k) refl))

pub not_given_complete : Below → {result : Bool} {st : State} {all : List Parameters} {c : Code} {p : Place} → AreNotGiven result st all c p
    → IsRefusal (parameters_rule st result all) c p
not_given_complete l (F.f_group_names r) = bind_err _ r
not_given_complete l (F.f_group_type e w) = bind_ok _ e (bind_err _ (not_written_complete l w))
not_given_complete l (F.f_groups e h w) = bind_ok _ e (bind_ok _ (written_complete l h) (bind_err _ (not_given_complete l w)))

abbrev pub SignatureSo : State → Head → Answer Signature → Type 0
SignatureSo st h = Means (λ s. IsSignature st h s) (λ c p. IsNoSignature st h c p)

pub signature_sound : Below → (st : State) (h : Head) → SignatureSo st h (signature_rule st h)
signature_sound l st h =
    means_then (given_sound l (has_result h.gives) (entered st) h.params)
    (λ params k. means_then (if_written_sound l (with_parameters (entered st) params).env h.gives)
    (λ gives e. m_ok (h_signature k e)) (λ c p r. F.f_result k r)) (λ c p r. F.f_parameters r)

pub signature_complete : Below → {st : State} {h : Head} {s : Signature} → IsSignature st h s → signature_rule st h ≡ Ok s
signature_complete l (h_signature k e) = bind_ok _ (given_complete l k) (bind_ok _ (if_written_complete l e) refl)

pub no_signature_complete : Below → {st : State} {h : Head} {c : Code} {p : Place} → IsNoSignature st h c p → IsRefusal (signature_rule st h) c p
no_signature_complete l (F.f_parameters w) = bind_err _ (not_given_complete l w)
no_signature_complete l (F.f_result k w) = bind_ok _ (given_complete l k) (bind_err _ (if_not_written_complete l w))

abbrev pub HeadSo : State → Place → Head → Bool → Answer Headed → Type 0
HeadSo st at h has_body = Means (λ k. IsHead st at h has_body k) (λ c p. IsNoHead st at h has_body c p)

pub head_sound : Below → (st : State) (at : Place) (h : Head) (has_body : Bool) → HeadSo st at h has_body (head_rule st at h has_body)
head_sound l st at h has_body =
    means_then (signature_sound l st h) (λ s k. means_last _ (λ x e. h_head k e) (λ c p r. F.f_head k r)) (λ c p r. F.f_signature r)

pub head_complete : Below → {st : State} {at : Place} {h : Head} {has_body : Bool} {k : Headed} → IsHead st at h has_body k
    → head_rule st at h has_body ≡ Ok k
head_complete l (h_head s e) = bind_ok _ (signature_complete l s) e

pub no_head_complete : Below → {st : State} {at : Place} {h : Head} {has_body : Bool} {c : Code} {p : Place} → IsNoHead st at h has_body c p
    → IsRefusal (head_rule st at h has_body) c p
no_head_complete l (F.f_signature w) = bind_err _ (no_signature_complete l w)
no_head_complete l (F.f_head s r) = bind_ok _ (signature_complete l s) r

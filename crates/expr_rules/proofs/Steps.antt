-- What is computed at one node is what the rules say.
use Rattle.std.proofs.Common.{◌≡◌, ℕ, suc, Bool, true, false, List, [], ◌∷◌, ◌++◌, refl, sym, ap, subst, ◌∙◌}
use Rattle.std.specs.Prelude.{codes, Option, Some, None, Ok, ◌&&◌, if◌then◌else◌}
use Rattle.arc_base.specs.Refusal.{and_then}
use Rattle.arc_base.specs.declared.place.Place.{Place}
use Rattle.arc_base.specs.declared.place.Code.{Code}
use Rattle.arc_base.specs.declared.place.Code.TheVariants.{UnknownName, NotTyped, CaseCover}
use Rattle.indent_scanner.specs.Words.{normal}
use Rattle.nim_tree.specs.declared.expr.UnaryOp.{UnaryOp}
use Rattle.nim_tree.specs.Terms as term
use Rattle.nim_tree.specs.Terms.{Term, Parts, no_parts, part, Choices, no_choices, choice, place_of}
use Rattle.nim_types.specs.Types.{Ty}
use Rattle.nim_program.specs.Program.{Expr, Label}
use Rattle.expr_rules.specs.Env as env_of
use Rattle.expr_rules.specs.Env.{Env, Known, known}
use Rattle.expr_rules.specs.Builtins.{is_built_in, unless_built_in, is_new_sequence}
use Rattle.expr_rules.specs.Answers.{Answer, gives, Typed, Valued, Want, nothing, within, Operand, value}
use Rattle.expr_rules.specs.Demands.{Asks, anything, selector, fields, want_in, Demand, arguments}
use Rattle.expr_rules.specs.Demands.{receiver_demand, Special, special, ordinary, is_open, is_type, is_stdin, is_a_type, bare}
use Rattle.expr_rules.specs.Constructions.{part_names, types_in, Plan, construct_rule, conversion_rule}
use Rattle.expr_rules.specs.Choices.{Branching, undecided}
use Rattle.expr_rules.specs.Choices.{Chosen, Picked, gives_in, case_node, case_rule, range_of, new_label}
use Rattle.expr_rules.specs.Names.{is_unknown, is_value_name, name_rule, type_rule, call_rule, field_of, field_or_call, default_of_value, method_by}
use Rattle.expr_rules.specs.Names.{is_array, formed_type, is_shown_by_call, makes_sequence, bracket_rule, new_sequence_rule}
use Rattle.expr_rules.specs.Operators.{unary_rule}
use Rattle.expr_rules.specs.Covered.{AreEnough, LacksValue, HasTwice}
use Rattle.expr_rules.specs.Meant.{IsUnknown, no_declaration}
use Rattle.expr_rules.specs.Typed.{Value, Values, Part, Several, value_by, shown_by, part_by, operand_by, label_from}
use Rattle.expr_rules.specs.Typed.{is_dollar, is_range, is_pair, read_array, read_types}
use Rattle.expr_rules.specs.Rules.{IsTyped, t_variable, t_constant, t_construct}
use Rattle.expr_rules.specs.Rules.{t_field, t_dot, t_new_sequence, t_conversion, t_unary, t_dollar, t_case}
use Rattle.expr_rules.specs.Rules.{IsValue, v_value, AreValues, IsOperand, o_value}
use Rattle.expr_rules.specs.Rules.{o_shown, o_open, o_type, o_input, AreOperands, AreConditions, ArePicks}
use Rattle.expr_rules.specs.Rules.{AreLabels, l_value, l_range, IsLabel, l_constant, Spells, s_named, s_formed}
use Rattle.expr_rules.specs.Rules.{SpellAll}
use Rattle.expr_rules.specs.Refusals as R
use Rattle.expr_rules.specs.Refusals.{IsRefused, IsNoValue, AreNoValues, IsNoOperand, AreNoOperands, AreNoConditions, AreNoPicks, AreNoLabels, IsNoLabel}
use Rattle.expr_rules.specs.Refusals.{SpellsNothing, SpellsNoTypes}
use Rattle.expr_rules.proofs.Means.{Means, m_ok, m_err, means_then, means_map, means_last, itself}
use Rattle.expr_rules.proofs.Chosen.{true_false}
use Rattle.expr_rules.proofs.OperationRows.{unknown_built, unknown_known, callee_sound}
use Rattle.expr_rules.proofs.Planned.{IsPlan, is_plan, NoPlan, no_name, no_object, no_fields}
use Rattle.expr_rules.proofs.Called.{call_sound, conversion_sound}
use Rattle.expr_rules.proofs.Covers.{IsNew, is_new, is_again, label_so, enough_sound}

abbrev pub TypedSo : Env → Want → ℕ → Term → Answer Typed → Type 0
TypedSo env want n t = Means (λ x. IsTyped env want n t x.expr x.next) (λ c p. IsRefused env want n t c p)

abbrev pub ValueSo : Env → Asks → ℕ → Term → Answer Value → Type 0
ValueSo env g n t = Means (λ x. IsValue env g n t x.given x.next) (λ c p. IsNoValue env g n t c p)

abbrev pub ValuesSo : Env → Asks → ℕ → Parts → Answer Values → Type 0
ValuesSo env g n ts = Means (λ x. AreValues env g n ts x.all x.next) (λ c p. AreNoValues env g n ts c p)

abbrev pub OperandSo : Env → Demand → ℕ → Term → Answer Part → Type 0
OperandSo env d n t = Means (λ o. IsOperand env d n t o.operand o.next) (λ c p. IsNoOperand env d n t c p)

abbrev pub OperandsSo : Env → Demand → ℕ → Parts → Answer Several → Type 0
OperandsSo env d n ts = Means (λ all. AreOperands env d n ts all.operands all.next) (λ c p. AreNoOperands env d n ts c p)

abbrev pub ConditionsSo : Env → Branching → ℕ → Choices → Answer Chosen → Type 0
ConditionsSo env b n ts = Means (λ all. AreConditions env b n ts all) (λ c p. AreNoConditions env b n ts c p)

abbrev pub PicksSo : Env → Ty → List Label → Branching → ℕ → Choices → Answer Picked → Type 0
PicksSo env ty before b n ts = Means (λ all. ArePicks env ty before b n ts all) (λ c p. AreNoPicks env ty before b n ts c p)

abbrev pub LabelsSo : Env → Ty → List Label → Parts → Answer (List Label) → Type 0
LabelsSo env ty before ts = Means (λ all. AreLabels env ty before ts all) (λ c p. AreNoLabels env ty before ts c p)

abbrev pub LabelSo : Env → Ty → Term → Answer Label → Type 0
LabelSo env ty t = Means (λ l. IsLabel env ty t l) (λ c p. IsNoLabel env ty t c p)

abbrev pub SpellsSo : Env → Term → Answer Ty → Type 0
SpellsSo env t = Means (λ ty. Spells env t ty) (λ c p. SpellsNothing env t c p)

abbrev pub SpellAllSo : Env → Parts → Answer (List Ty) → Type 0
SpellAllSo env given = Means (λ ts. SpellAll env given ts) (λ c p. SpellsNoTypes env given c p)

-- ---- names

-- what is no value, and what no type
pub no_value_sound : (env : Env) (want : Want) (n : ℕ) (at : Place) (x : List ℕ) (k : Known) → known env x ≡ k → is_value_name k ≡ false → is_unknown k ≡ false
    → IsRefused env want n (term.name at x) NotTyped at
no_value_sound env want n at x k e v u = R.r_no_value (λ h. true_false (sym (ap is_unknown e) ∙ unknown_known h) u) (ap is_value_name e ∙ v)

pub name_sound : (env : Env) (want : Want) (n : ℕ) (at : Place) (x : List ℕ) (k : Known) → known env x ≡ k
    → TypedSo env want n (term.name at x) (name_rule n at (is_built_in (normal x)) k)
name_sound env want n at x env_of.unknown e = by_built (is_built_in (normal x)) refl
  where
    by_built : (b : Bool) → is_built_in (normal x) ≡ b → TypedSo env want n (term.name at x) (unless_built_in at b)
    by_built true b = m_err (R.r_no_value (λ h. true_false b (unknown_built h)) (ap is_value_name e))
    by_built false b = m_err (R.r_unknown (no_declaration b e))
name_sound env want n at x (env_of.a_variable place of writable global) e = m_ok (t_variable e)
name_sound env want n at x (env_of.a_constant of l) e = m_ok (t_constant e)
name_sound env want n at x (env_of.a_type ty) e = m_err (no_value_sound env want n at x (env_of.a_type ty) e refl refl)
name_sound env want n at x (env_of.procedures all) e = m_err (no_value_sound env want n at x (env_of.procedures all) e refl refl)
name_sound env want n at x env_of.a_pending_type e = m_err (no_value_sound env want n at x env_of.a_pending_type e refl refl)
name_sound env want n at x env_of.the_input e = m_err (no_value_sound env want n at x env_of.the_input e refl refl)

pub no_type_sound : (env : Env) (at : Place) (x : List ℕ) (k : Known) → known env x ≡ k → is_a_type k ≡ false → is_unknown k ≡ false
    → SpellsNothing env (term.name at x) NotTyped at
no_type_sound env at x k e v u = R.f_named (λ h. true_false (sym (ap is_unknown e) ∙ unknown_known h) u) (ap is_a_type e ∙ v)

pub type_name_sound : (env : Env) (at : Place) (x : List ℕ) (k : Known) → known env x ≡ k
    → SpellsSo env (term.name at x) (type_rule at (is_built_in (normal x)) k)
type_name_sound env at x env_of.unknown e = by_built (is_built_in (normal x)) refl
  where
    by_built : (b : Bool) → is_built_in (normal x) ≡ b → SpellsSo env (term.name at x) (unless_built_in at b)
    by_built true b = m_err (R.f_named (λ h. true_false b (unknown_built h)) (ap is_a_type e))
    by_built false b = m_err (R.f_unknown (no_declaration b e))
type_name_sound env at x (env_of.a_type ty) e = m_ok (s_named e)
type_name_sound env at x (env_of.a_variable place of writable global) e =
    m_err (no_type_sound env at x (env_of.a_variable place of writable global) e refl refl)
type_name_sound env at x (env_of.a_constant of l) e = m_err (no_type_sound env at x (env_of.a_constant of l) e refl refl)
type_name_sound env at x (env_of.procedures all) e = m_err (no_type_sound env at x (env_of.procedures all) e refl refl)
type_name_sound env at x env_of.a_pending_type e = m_err (no_type_sound env at x env_of.a_pending_type e refl refl)
type_name_sound env at x env_of.the_input e = m_err (no_type_sound env at x env_of.the_input e refl refl)

-- a refusal of a look-up
pub unknown_as : (F : Code → Place → Type 0) {env : Env} {x : List ℕ} {at : Place} → (IsUnknown env x → F UnknownName at) → (c : Code) (p : Place)
    → (IsUnknown env x) × (c ≡ UnknownName) × (p ≡ at) → F c p
unknown_as F {at = at} f c p h = subst (λ c. F c p) (sym h.1) (subst (λ p. F UnknownName p) (sym h.2) (f h.0))

-- ---- operands

pub value_sound : (env : Env) (g : Asks) (n : ℕ) (t : Term) (answer : Answer Typed) → TypedSo env (want_in g) n t answer
    → ValueSo env g n t (value_by env g t answer)
value_sound env g n t answer h =
    means_then h (λ x hx. means_then (itself _) (λ v hv. m_ok (v_value hx hv)) (λ c p r. R.f_type hx r)) (λ c p r. R.f_value r)

-- a value as it is, or shown by a call
pub shown_sound : (env : Env) (d : Demand) (n : ℕ) (t : Term) (x : Value) (again : ℕ → Answer Value) (b : Bool) → special d t ≡ ordinary
    → IsValue env anything n t x.given x.next → is_shown_by_call env d x.given ≡ b → ((k : ℕ) → ValueSo env anything k t (again k))
    → OperandSo env d n t (shown_by env n b x again)
shown_sound env d n t x again false s h i f = m_ok (o_value s h i)
shown_sound env d n t x again true s h i f =
    means_then (f (suc n)) (λ y hy. means_then (itself _) (λ z hz. m_ok (o_shown s h i hy hz))
    (λ c p r. R.f_shown s h i hy r)) (λ c p r. R.f_shown_again s h i r)

pub part_sound : (env : Env) (d : Demand) (n : ℕ) (t : Term) (as_value : ℕ → Answer Value) (as_type : Answer Ty) (it : Special) → special d t ≡ it
    → ((k : ℕ) → ValueSo env anything k t (as_value k)) → SpellsSo env t as_type → OperandSo env d n t (part_by env d it n as_value as_type)
part_sound env d n t as_value as_type ordinary s f g =
    means_then (f n) (λ x hx. shown_sound env d n t x as_value (is_shown_by_call env d x.given) s hx refl f) (λ c p r. R.f_ordinary s r)
part_sound env d n t as_value as_type (is_open at) s f g = m_ok (o_open s)
part_sound env d n t as_value as_type is_type s f g = means_then g (λ ty h. m_ok (o_type s h)) (λ c p r. R.f_spelled s r)
part_sound env d n t as_value as_type is_stdin s f g = m_ok (o_input s)

pub operand_sound : (env : Env) (d : Demand) (n : ℕ) (t : Term) (as_typed : ℕ → Answer Typed) (as_type : Answer Ty)
    → ((k : ℕ) → TypedSo env nothing k t (as_typed k)) → SpellsSo env t as_type → OperandSo env d n t (operand_by env d n t as_typed as_type)
operand_sound env d n t as_typed as_type f g =
    part_sound env d n t _ as_type (special d t) refl (λ k. value_sound env anything k t (as_typed k) (f k)) g

pub label_sound : (env : Env) (ty : Ty) (t : Term) (answer : Answer Typed) → TypedSo env nothing 0 t answer → LabelSo env ty t (label_from env.facts ty answer)
label_sound env ty t answer h =
    means_then h (λ x hx. means_then (itself _) (λ v hv. means_last _ (λ l hl. l_constant hx hv hl) (λ c p r. R.f_no_constant hx hv r))
    (λ c p r. R.f_no_value hx r)) (λ c p r. R.f_no_term r)

pub and_parts : (b c : Bool) → (b && c) ≡ true → (b ≡ true) × (c ≡ true)
and_parts true true e = (refl, refl)
and_parts true false e = cc
and_parts false c e = cc

-- of a length and an element, or of types
pub formed_sound : (env : Env) (at p : Place) (x : List ℕ) (given : Parts) (b : Bool) → (is_array x && is_pair given) ≡ b → (IsUnknown env (normal x) → ⊥)
    → ((is_array x ≡ true) → (is_pair given ≡ true) → SpellsSo env (term.index at (term.name p x) given) (read_array env at given))
    → Means (λ ts. SpellAll env given ts) (λ c q. SpellsNoTypes env given c q) (read_types env given)
    → SpellsSo env (term.index at (term.name p x) given) (if b then read_array env at given else and_then (read_types env given)
    (λ ts. formed_type env at x ts))
formed_sound env at p x given true e f h g = let both : (is_array x ≡ true) × (is_pair given ≡ true) = and_parts _ _ e in h both.0 both.1
formed_sound env at p x given false e f h g =
    means_then g (λ ts k. means_last _ (λ ty r. s_formed f e k r) (λ c q r. R.f_formed f e k r)) (λ c q r. R.f_arguments f e r)

-- ---- calls with brackets

-- of a type that is spelled
pub conversion_typed : (env : Env) (want : Want) (n : ℕ) (at p q : Place) (x : List ℕ) (given inside : Parts) (written : Answer Ty) (os : Answer Several)
    → makes_sequence (normal x) given ≡ false → SpellsSo env (term.index p (term.name q x) given) written → OperandsSo env arguments (suc n) inside os
    → TypedSo env want n (term.call at (term.index p (term.name q x) given) inside)
    (and_then (bracket_rule env at (normal x)) (λ _. and_then written (λ ty.
    and_then os (λ os. and_then (conversion_rule env n at ty os.operands) (λ e. gives e os.next)))))
conversion_typed env want n at p q x given inside written os f g h =
    means_then (itself _) (λ _ e. means_then g (λ ty s. means_then h (λ os k.
    means_then (conversion_sound env n at ty os.operands) (λ y r. m_ok (t_conversion f e s k r))
    (λ c r i. subst (λ d. IsRefused env want n (term.call at (term.index p (term.name q x) given) inside) d r) (sym i.0)
    (R.r_conversion f e s k i.1.0 i.1.1)))
    (λ c r i. R.r_bracket_argument f e s i)) (λ c r i. R.r_bracket_type f e i)) (λ c r i. R.r_bracket_callee f i)

-- of `newSeq`, or of another name
pub bracket_typed : (env : Env) (want : Want) (n : ℕ) (at p q : Place) (x : List ℕ) (t : Term) (inside : Parts) (element written : Answer Ty)
    (os : Answer Several) (b : Bool) → is_new_sequence (normal x) ≡ b → SpellsSo env t element
    → SpellsSo env (term.index p (term.name q x) (part t no_parts)) written → OperandsSo env arguments (suc n) inside os
    → TypedSo env want n (term.call at (term.index p (term.name q x) (part t no_parts)) inside) (
    if b then and_then element (λ ty. and_then os (λ os. and_then (new_sequence_rule n at ty os.operands) (λ e. gives e os.next)))
    else and_then (bracket_rule env at (normal x)) (λ _. and_then written (λ ty.
    and_then os (λ os. and_then (conversion_rule env n at ty os.operands) (λ e. gives e os.next)))))
bracket_typed env want n at p q x t inside element written os true e g s h =
    means_then g (λ ty k. means_then h (λ os i. means_then (itself _) (λ y r. m_ok (t_new_sequence e k i r)) (λ c r w. R.r_new_sequence e k i w))
    (λ c r w. R.r_new_length e k w)) (λ c r w. R.r_new_type e w)
bracket_typed env want n at p q x t inside element written os false e g s h =
    conversion_typed env want n at p q x (part t no_parts) inside written os (ap (λ b. b && true) e) s h

-- ---- fields, operators and labels

-- a node, and the first number behind its own
abbrev pub Ends : Env → Want → ℕ → Term → ℕ → Answer Expr → Type 0
Ends env want n t m = Means (λ e. IsTyped env want n t e m) (λ c p. IsRefused env want n t c p)

pub field_sound : (env : Env) (want : Want) (n : ℕ) (at : Place) (a : Term) (x : List ℕ) (o : Operand) (m : ℕ)
    → IsOperand env (receiver_demand env (normal x) a) (suc n) a o m → (f : Option Expr) → field_of env n at (normal x) o ≡ f
    → Ends env want n (term.field at a x) m (field_or_call env n at (normal x) o f)
field_sound env want n at a x o m h (Some e) f = m_ok (t_field h f)
field_sound env want n at a x o m h None f =
    means_then (callee_sound env at (normal x)) (λ _ k. by_default (default_of_value (normal x) o) refl k)
    (unknown_as (λ c p. IsRefused env want n (term.field at a x) c p) (λ r. R.r_no_field h f r))
  where
    by_default : (d : Option Place) → default_of_value (normal x) o ≡ d → (IsUnknown env (normal x) → ⊥)
        → Ends env want n (term.field at a x) m (method_by env n at (normal x) o d)
    by_default (Some p) d k = m_err (R.r_dot_default h f k d)
    by_default None d k = means_map (call_sound env n at (normal x) (o ∷ [])) (λ e r. t_dot h f k d r) (λ c p r. R.r_dot h f k d r)

pub unary_sound : (env : Env) (want : Want) (n : ℕ) (at : Place) (op : UnaryOp) (a : Term) (v : Valued) (m : ℕ) → IsValue env anything (suc n) a v m
    → (b : Bool) → is_dollar op ≡ b
    → Ends env want n (term.unary at op a) m (if b then call_rule env n at (codes "$") (value v ∷ []) else unary_rule n at op v)
unary_sound env want n at op a v m h true d =
    means_map (call_sound env n at (codes "$") (value v ∷ [])) (λ e r. t_dollar h d r) (λ c p r. R.r_dollar h d r)
unary_sound env want n at op a v m h false d = means_last _ (λ e r. t_unary h d r) (λ c p r. R.r_unary h d r)

pub case_sound : (env : Env) {n : ℕ} (at : Place) (v : Valued) (p : Picked)
    → Means (λ e. (e ≡ case_node n at v p) × AreEnough env.facts v.of (gives_in p.values) p.labels)
    (λ c q. (c ≡ CaseCover) × (q ≡ at) × LacksValue env.facts v.of (gives_in p.values) p.labels) (case_rule env n at v p)
case_sound env at v p = means_then (enough_sound env.facts at v.of (gives_in p.values) p.labels) (λ u h. m_ok (refl, h)) (λ c q h. h)

pub case_typed : {env : Env} {want : Want} {n m : ℕ} {at : Place} {a : Term} {all : Choices} {v : Valued} {b : Picked} {e : Expr}
    → IsValue env selector (suc n) a v m → ArePicks env v.of [] (undecided (within want)) m all b
    → (e ≡ case_node n at v b) × AreEnough env.facts v.of (gives_in b.values) b.labels → IsTyped env want n (term.case_term at a all) e b.next
case_typed {env} {want} {n} {at = at} {a = a} {all = all} {b = b} g h r =
    subst (λ e. IsTyped env want n (term.case_term at a all) e b.next) (sym r.0) (t_case g h r.1)

pub case_refused : {env : Env} {want : Want} {n m : ℕ} {at p : Place} {a : Term} {all : Choices} {v : Valued} {b : Picked} {c : Code}
    → IsValue env selector (suc n) a v m → ArePicks env v.of [] (undecided (within want)) m all b
    → (c ≡ CaseCover) × (p ≡ at) × LacksValue env.facts v.of (gives_in b.values) b.labels → IsRefused env want n (term.case_term at a all) c p
case_refused {env} {want} {n} {at = at} {p = p} {a = a} {all = all} g h r =
    subst (λ c. IsRefused env want n (term.case_term at a all) c p) (sym r.0)
    (subst (λ p. IsRefused env want n (term.case_term at a all) CaseCover p) (sym r.1) (R.r_case g h r.2))

-- a label that is new, as it is
pub new_sound : (at : Place) (before : List Label) (k : Label)
    → Means (λ l. (l ≡ k) × (HasTwice k before → ⊥)) (λ c p. (c ≡ CaseCover) × (p ≡ at) × HasTwice k before) (new_label at before k)
new_sound at before k = by_new (label_so at before k)
  where
    by_new : {r : Answer Label} → IsNew at before k r
        → Means (λ l. (l ≡ k) × (HasTwice k before → ⊥)) (λ c p. (c ≡ CaseCover) × (p ≡ at) × HasTwice k before) r
    by_new (is_new f) = m_ok (refl, f)
    by_new (is_again h) = m_err (refl, refl, h)

pub label_typed : {env : Env} {ty : Ty} {before ls : List Label} {a : Term} {rest : Parts} {k l : Label} → is_range a ≡ false → IsLabel env ty a k
    → (l ≡ k) × (HasTwice k before → ⊥) → AreLabels env ty (before ++ l ∷ []) rest ls → AreLabels env ty before (part a rest) (l ∷ ls)
label_typed {env} {ty} {before} {ls} {a} {rest} e g r h =
    subst (λ l. AreLabels env ty before (part a rest) (l ∷ ls)) (sym r.0)
    (l_value e g r.1 (subst (λ l. AreLabels env ty (before ++ l ∷ []) rest ls) r.0 h))

pub label_behind : {env : Env} {ty : Ty} {before : List Label} {a : Term} {rest : Parts} {k l : Label} {c : Code} {p : Place} → is_range a ≡ false
    → IsLabel env ty a k → (l ≡ k) × (HasTwice k before → ⊥) → AreNoLabels env ty (before ++ l ∷ []) rest c p
    → AreNoLabels env ty before (part a rest) c p
label_behind {env} {ty} {before} {rest = rest} {c = c} {p = p} e g r h =
    R.f_label_rest e g r.1 (subst (λ l. AreNoLabels env ty (before ++ l ∷ []) rest c p) r.0 h)

pub label_refused : {env : Env} {ty : Ty} {before : List Label} {a : Term} {rest : Parts} {k : Label} {c : Code} {p : Place} → is_range a ≡ false
    → IsLabel env ty a k → (c ≡ CaseCover) × (p ≡ place_of (bare a)) × HasTwice k before → AreNoLabels env ty before (part a rest) c p
label_refused {env} {ty} {before} {a} {rest} {p = p} e g r =
    subst (λ c. AreNoLabels env ty before (part a rest) c p) (sym r.0)
    (subst (λ p. AreNoLabels env ty before (part a rest) CaseCover p) (sym r.1) (R.f_label_again e g r.2))

pub range_typed : {env : Env} {ty : Ty} {before ls : List Label} {at : Place} {a b : Term} {rest : Parts} {low high k l : Label} → IsLabel env ty a low
    → IsLabel env ty b high → range_of at low high ≡ Ok k → (l ≡ k) × (HasTwice k before → ⊥) → AreLabels env ty (before ++ l ∷ []) rest ls
    → AreLabels env ty before (part (term.range at a b) rest) (l ∷ ls)
range_typed {env} {ty} {before} {ls} {at} {a} {b} {rest} g h e r k =
    subst (λ l. AreLabels env ty before (part (term.range at a b) rest) (l ∷ ls)) (sym r.0)
    (l_range g h e r.1 (subst (λ l. AreLabels env ty (before ++ l ∷ []) rest ls) r.0 k))

pub range_behind : {env : Env} {ty : Ty} {before : List Label} {at p : Place} {a b : Term} {rest : Parts} {low high k l : Label} {c : Code}
    → IsLabel env ty a low → IsLabel env ty b high → range_of at low high ≡ Ok k → (l ≡ k) × (HasTwice k before → ⊥)
    → AreNoLabels env ty (before ++ l ∷ []) rest c p → AreNoLabels env ty before (part (term.range at a b) rest) c p
range_behind {env} {ty} {before} {p = p} {rest = rest} {c = c} g h e r k =
    R.f_range_rest g h e r.1 (subst (λ l. AreNoLabels env ty (before ++ l ∷ []) rest c p) r.0 k)

pub range_again : {env : Env} {ty : Ty} {before : List Label} {at p : Place} {a b : Term} {rest : Parts} {low high k : Label} {c : Code}
    → IsLabel env ty a low → IsLabel env ty b high → range_of at low high ≡ Ok k → (c ≡ CaseCover) × (p ≡ at) × HasTwice k before
    → AreNoLabels env ty before (part (term.range at a b) rest) c p
range_again {env} {ty} {before} {at} {p} {a} {b} {rest} g h e r =
    subst (λ c. AreNoLabels env ty before (part (term.range at a b) rest) c p) (sym r.0)
    (subst (λ p. AreNoLabels env ty before (part (term.range at a b) rest) CaseCover p) (sym r.1) (R.f_range_again g h e r.2))

-- ---- constructions

pub construct_made : {env : Env} {want : Want} {n m : ℕ} {at : Place} {x : List ℕ} {inside : Parts} {p : Plan} {vs : List Valued}
    → IsPlan env x (part_names inside) p → AreValues env (fields (types_in p.chosen)) (suc n) inside vs m
    → TypedSo env want n (term.construct at x inside) (gives (construct_rule n at p.of p.chosen vs) m)
construct_made (is_plan o f) h = m_ok (t_construct o f h)

pub fields_refused : {env : Env} {want : Want} {n : ℕ} {at p : Place} {x : List ℕ} {inside : Parts} {plan : Plan} {c : Code}
    → IsPlan env x (part_names inside) plan → AreNoValues env (fields (types_in plan.chosen)) (suc n) inside c p
    → IsRefused env want n (term.construct at x inside) c p
fields_refused (is_plan o f) r = R.r_construct_field o f r

pub plan_refused : {env : Env} {want : Want} {n : ℕ} {at p : Place} {x : List ℕ} {inside : Parts} {c : Code} → NoPlan env at x (part_names inside) c p
    → IsRefused env want n (term.construct at x inside) c p
plan_refused (no_name h) = R.r_unknown_type h
plan_refused (no_object k o) = R.r_no_object k o
plan_refused (no_fields o h) = R.r_no_fields o h

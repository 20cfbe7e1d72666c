-- What the rules say is computed: each term has one node at most, and that is found.
use Rattle.std.proofs.Common.{◌≡◌, ℕ, suc, Bool, true, false, List, [], ◌∷◌, ◌++◌, refl, ap, ◌∙◌}
use Rattle.std.specs.Prelude.{codes, None, Ok, if◌then◌else◌, ◌&&◌}
use Rattle.arc_base.specs.declared.place.Place.{Place}
use Rattle.arc_base.specs.declared.place.Code.TheVariants.{NotTyped}
use Rattle.arc_base.specs.Refusal.{and_then, IsRefusal}
use Rattle.indent_scanner.specs.Words.{normal}
use Rattle.nim_tree.specs.declared.expr.UnaryOp.{UnaryOp}
use Rattle.nim_tree.specs.Terms as term
use Rattle.nim_tree.specs.Terms.{Term, Parts, no_parts, part, Choices, no_choices, choice, place_of}
use Rattle.nim_types.specs.Types.{Ty}
use Rattle.nim_program.specs.Program.{Expr, Label}
use Rattle.expr_rules.specs.Env.{Env}
use Rattle.expr_rules.specs.Builtins.{is_built_in, is_new_sequence}
use Rattle.expr_rules.specs.Answers.{Answer, gives, Typed, typed_as, Valued, Want, nothing, Operand, value}
use Rattle.expr_rules.specs.Demands.{Asks, anything, want_in, Demand, arguments, bare, Special, special, ordinary, is_open, is_type, is_stdin}
use Rattle.expr_rules.specs.Choices.{Branching, new_label}
use Rattle.expr_rules.specs.Choices.{Chosen, Picked}
use Rattle.expr_rules.specs.Names.{name_rule, type_rule, is_array, formed_type, is_single, call_rule, field_of, field_or_call, default_of_value, method_by}
use Rattle.expr_rules.specs.Constructions.{conversion_rule}
use Rattle.expr_rules.specs.Names.{method_rule, field_rule, is_shown_by_call, makes_sequence, bracket_rule, new_sequence_rule}
use Rattle.expr_rules.specs.Operators.{unary_rule}
use Rattle.expr_rules.specs.Meant.{IsUnknown}
use Rattle.expr_rules.specs.Typed.{Value, as_value, value_by, is_callee, is_dollar, unary_call, is_type_term, is_pair}
use Rattle.expr_rules.specs.Typed.{is_range, shown_by, part_by, operand_by, label_from, typed, values, operands, conditions, picks, labels, read_type}
use Rattle.expr_rules.specs.Typed.{read_array, read_types}
use Rattle.expr_rules.specs.Rules.{IsTyped, t_int, t_char, t_text, t_variable, t_constant, t_paren, t_named, t_tuple, t_array, t_sequence, t_construct}
use Rattle.expr_rules.specs.Rules.{t_field, t_dot, t_index, t_call, t_quoted_call, t_method, t_new_sequence, t_conversion, t_unary, t_dollar, t_binary, t_if}
use Rattle.expr_rules.specs.Rules.{t_case}
use Rattle.expr_rules.specs.Rules.{t_case_else}
use Rattle.expr_rules.specs.Rules.{IsValue, v_value, AreValues, v_none, v_more, IsOperand, o_value}
use Rattle.expr_rules.specs.Rules.{o_shown, o_open, o_type, o_input, AreOperands, o_none, o_more, AreConditions, c_none, c_more, ArePicks, k_none, k_more}
use Rattle.expr_rules.specs.Rules.{AreLabels, l_none, l_value, l_range, IsLabel, l_constant, Spells, s_paren, s_named, s_array, s_formed}
use Rattle.expr_rules.specs.Rules.{SpellAll, s_none, s_more}
use Rattle.expr_rules.proofs.Means.{bind_ok}
use Rattle.expr_rules.proofs.OperationRows.{callee_known}
use Rattle.expr_rules.proofs.Planned.{plan_back}
use Rattle.expr_rules.proofs.Called.{call_complete, conversion_back}
use Rattle.expr_rules.proofs.Covers.{label_new, enough_back}

-- ---- forms that no rule has

pub indexes_refused : (env : Env) (want : Want) (n : ℕ) (at : Place) (a : Term) (inside : Parts) → is_single inside ≡ false
    → IsRefusal (typed env want n (term.index at a inside)) NotTyped at
indexes_refused env want n at a no_parts e = refl
indexes_refused env want n at a (part i no_parts) e = cc
indexes_refused env want n at a (part i (part j rest)) e = refl

pub callee_refused : (env : Env) (want : Want) (n : ℕ) (at : Place) (a : Term) (inside : Parts) → is_callee a ≡ false
    → IsRefusal (typed env want n (term.call at a inside)) NotTyped at
callee_refused env want n at (term.name p x) inside e = cc
callee_refused env want n at (term.quoted p x) inside e = cc
callee_refused env want n at (term.field p a x) inside e = cc
callee_refused env want n at (term.index p (term.name q x) given) inside e = cc
callee_refused env want n at a inside e = refl

pub type_refused : (env : Env) (a : Term) → is_type_term a ≡ false → IsRefusal (read_type env a) NotTyped (place_of a)
type_refused env (term.paren at a) e = cc
type_refused env (term.name at x) e = cc
type_refused env (term.index at (term.name p x) given) e = cc
type_refused env a e = refl

pub tests_refused : (env : Env) (b : Branching) (n : ℕ) (at : Place) (tests : Parts) (a : Term) (rest : Choices) → is_single tests ≡ false
    → IsRefusal (conditions env b n (choice at tests a rest)) NotTyped at
tests_refused env b n at no_parts a rest e = refl
tests_refused env b n at (part t no_parts) a rest e = cc
tests_refused env b n at (part t (part u more)) a rest e = refl

-- what is in brackets behind the name of a type: of an array a length and an element, else types
pub array_read : (env : Env) (at : Place) (x : List ℕ) (l a : Term) → is_array x ≡ true → (r : Answer Ty)
    → read_array env at (part l (part a no_parts)) ≡ r
    → (if is_array x && is_pair (part l (part a no_parts)) then read_array env at (part l (part a no_parts))
    else and_then (read_types env (part l (part a no_parts))) (λ ts. formed_type env at x ts)) ≡ r
array_read env at x l a e r h =
    ap (λ b. if b && true then read_array env at (part l (part a no_parts))
    else and_then (read_types env (part l (part a no_parts))) (λ ts. formed_type env at x ts)) e ∙ h

pub types_read : (env : Env) (at : Place) (x : List ℕ) (given : Parts) → (is_array x && is_pair given) ≡ false → (r : Answer Ty)
    → and_then (read_types env given) (λ ts. formed_type env at x ts) ≡ r
    → (if is_array x && is_pair given then read_array env at given else and_then (read_types env given) (λ ts. formed_type env at x ts)) ≡ r
types_read env at x given e r h =
    ap (λ b. if b then read_array env at given else and_then (read_types env given) (λ ts. formed_type env at x ts)) e ∙ h

-- what is called with something in brackets: `newSeq`, or a type
abbrev sequence_steps : Env → ℕ → Place → Term → Parts → Answer Typed
sequence_steps env n at t inside =
    and_then (read_type env t) (λ ty.
    and_then (operands env arguments (suc n) inside) (λ os. and_then (new_sequence_rule n at ty os.operands) (λ e. gives e os.next)))

abbrev conversion_steps : Env → ℕ → (at p q : Place) → List ℕ → (given inside : Parts) → Answer Typed
conversion_steps env n at p q x given inside =
    and_then (bracket_rule env at (normal x)) (λ _. and_then (read_type env (term.index p (term.name q x) given)) (λ ty.
    and_then (operands env arguments (suc n) inside) (λ os. and_then (conversion_rule env n at ty os.operands) (λ e. gives e os.next))))

pub sequence_read : (env : Env) (want : Want) (n : ℕ) (at p q : Place) (x : List ℕ) (t : Term) (inside : Parts) → is_new_sequence (normal x) ≡ true
    → typed env want n (term.call at (term.index p (term.name q x) (part t no_parts)) inside) ≡ sequence_steps env n at t inside
sequence_read env want n at p q x t inside e =
    ap (λ b. if b then sequence_steps env n at t inside else conversion_steps env n at p q x (part t no_parts) inside) e

pub conversion_read : (env : Env) (want : Want) (n : ℕ) (at p q : Place) (x : List ℕ) (given inside : Parts) → makes_sequence (normal x) given ≡ false
    → typed env want n (term.call at (term.index p (term.name q x) given) inside) ≡ conversion_steps env n at p q x given inside
conversion_read env want n at p q x no_parts inside f = refl
conversion_read env want n at p q x (part t (part u rest)) inside f = refl
conversion_read env want n at p q x (part t no_parts) inside f =
    ap (λ b. if b then sequence_steps env n at t inside else conversion_steps env n at p q x (part t no_parts) inside)
    (alone (is_new_sequence (normal x)) f)
  where
    alone : (b : Bool) → (b && true) ≡ false → b ≡ false
    alone true e = cc
    alone false e = refl

-- a label that is no range
pub labels_plain : (env : Env) (ty : Ty) (before : List Label) (a : Term) (rest : Parts) → is_range a ≡ false → labels env ty before (part a rest)
    ≡ and_then (label_from env.facts ty (typed env nothing 0 a)) (λ k.
    and_then (new_label (place_of (bare a)) before k) (λ l. and_then (labels env ty (before ++ l ∷ []) rest) (λ more. Ok (l ∷ more))))
labels_plain env ty before (term.range at a b) rest e = cc
labels_plain env ty before a rest e = refl

-- ---- calls behind a dot, and `$`

pub by_dot : (env : Env) (n : ℕ) (at : Place) (x : List ℕ) (o : Operand) → field_of env n at x o ≡ None → (IsUnknown env x → ⊥)
    → default_of_value x o ≡ None → field_rule env n at x o ≡ call_rule env n at x (o ∷ [])
by_dot env n at x o f k d =
    ap (λ f. field_or_call env n at x o f) f
    ∙ bind_ok (λ _. method_rule env n at x o) (callee_known env at x k) (ap (λ d. method_by env n at x o d) d)

pub by_dollar : (env : Env) (n : ℕ) (at : Place) (op : UnaryOp) (v : Valued) (b : Bool) → is_dollar op ≡ b
    → unary_call env n at op v ≡ (if b then call_rule env n at (codes "$") (value v ∷ []) else unary_rule n at op v)
by_dollar env n at op v b d = ap (λ b. if b then call_rule env n at (codes "$") (value v ∷ []) else unary_rule n at op v) d

-- ---- nodes

-- operands by what they are as a value and as a type

pub by_special : (env : Env) (d : Demand) (n : ℕ) (t : Term) (it : Special) (as_typed : ℕ → Answer Typed) (as_type : Answer Ty) → special d t ≡ it
    → operand_by env d n t as_typed as_type ≡ part_by env d it n (λ k. value_by env anything t (as_typed k)) as_type
by_special env d n t it as_typed as_type s = ap (λ it. part_by env d it n (λ k. value_by env anything t (as_typed k)) as_type) s

-- behind a value
pub by_value : (env : Env) (d : Demand) (n m : ℕ) (t : Term) (v : Valued) (b : Bool) (as_typed : ℕ → Answer Typed) (as_type : Answer Ty)
    → special d t ≡ ordinary → value_by env anything t (as_typed n) ≡ Ok (as_value v m) → is_shown_by_call env d v ≡ b
    → operand_by env d n t as_typed as_type ≡ shown_by env n b (as_value v m) (λ k. value_by env anything t (as_typed k))
by_value env d n m t v b as_typed as_type s h i =
    by_special env d n t ordinary as_typed as_type s
    ∙ bind_ok (λ (x : Value). shown_by env n (is_shown_by_call env d x.given) x (λ k. value_by env anything t (as_typed k))) h
    (ap (λ b. shown_by env n b (as_value v m) (λ k. value_by env anything t (as_typed k))) i)

mutual
  pub typed_complete : {env : Env} {want : Want} {n m : ℕ} {t : Term} {e : Expr} → IsTyped env want n t e m → typed env want n t ≡ Ok (typed_as e m)
  typed_complete t_int = refl
  typed_complete t_char = refl
  typed_complete t_text = refl
  typed_complete {n = n} (t_variable {at = at} {x = x} e) = ap (λ k. name_rule n at (is_built_in (normal x)) k) e
  typed_complete {n = n} (t_constant {at = at} {x = x} e) = ap (λ k. name_rule n at (is_built_in (normal x)) k) e
  typed_complete (t_paren h) = typed_complete h
  typed_complete (t_named h) = typed_complete h
  typed_complete (t_tuple h r) = bind_ok _ (values_complete h) (bind_ok _ r refl)
  typed_complete (t_array h r) = bind_ok _ (values_complete h) (bind_ok _ r refl)
  typed_complete (t_sequence h r) = bind_ok _ (values_complete h) (bind_ok _ r refl)
  typed_complete {env} {n = n} (t_construct {at = at} {x = x} {ty = ty} o f h) =
      bind_ok _ (plan_back env at x o f) (bind_ok _ (values_complete h) refl)
  typed_complete {env} {n = n} (t_field {at = at} {x = x} {o = o} h f) =
      bind_ok _ (operand_complete h) (bind_ok _ (ap (λ f. field_or_call env n at (normal x) o f) f) refl)
  typed_complete {env} {n = n} (t_dot {at = at} {x = x} {o = o} h f k d r) =
      bind_ok _ (operand_complete h) (bind_ok _ (by_dot env n at (normal x) o f k d ∙ call_complete r) refl)
  typed_complete (t_index h k r) = bind_ok _ (value_complete h) (bind_ok _ (value_complete k) r)
  typed_complete {env} (t_call {p = p} {x = x} e f h r) =
      bind_ok _ (callee_known env p (normal x) e) (bind_ok _ f (bind_ok _ (operands_complete h) (bind_ok _ (call_complete r) refl)))
  typed_complete (t_quoted_call e h r) = bind_ok _ e (bind_ok _ (operands_complete h) (bind_ok _ (call_complete r) refl))
  typed_complete {env} (t_method {at = at} {x = x} f g e h r) =
      bind_ok _ f (bind_ok _ (operand_complete g) (bind_ok _ (callee_known env at (normal x) e)
      (bind_ok _ (operands_complete h) (bind_ok _ (call_complete r) refl))))
  typed_complete {env} {want} {n} (t_new_sequence {at = at} {p = p} {q = q} {x = x} {t = t} {inside = inside} e g h r) =
      sequence_read env want n at p q x t inside e ∙ bind_ok _ (type_complete g) (bind_ok _ (operands_complete h) (bind_ok _ r refl))
  typed_complete {env} {want} {n} (t_conversion {at = at} {p = p} {q = q} {x = x} {given = given} {inside = inside} f e g h i) =
      conversion_read env want n at p q x given inside f
      ∙ bind_ok _ e (bind_ok _ (type_complete g) (bind_ok _ (operands_complete h) (bind_ok _ (conversion_back i) refl)))
  typed_complete {env} {n = n} (t_unary {at = at} {op = op} {v = v} h d r) =
      bind_ok _ (value_complete h) (bind_ok _ (by_dollar env n at op v false d ∙ r) refl)
  typed_complete {env} {n = n} (t_dollar {at = at} {op = op} {v = v} h d r) =
      bind_ok _ (value_complete h) (bind_ok _ (by_dollar env n at op v true d ∙ call_complete r) refl)
  typed_complete (t_binary h k r) = bind_ok _ (operand_complete h) (bind_ok _ (operand_complete k) (bind_ok _ r refl))
  typed_complete (t_if h k r) = bind_ok _ (conditions_complete h) (bind_ok _ (typed_complete k) (bind_ok _ r refl))
  typed_complete (t_case {at = at} g h r) =
      bind_ok _ (value_complete g) (bind_ok _ (picks_complete h) (bind_ok _ (bind_ok _ (enough_back at r) refl) refl))
  typed_complete (t_case_else g h k r) =
      bind_ok _ (value_complete g) (bind_ok _ (picks_complete h) (bind_ok _ (typed_complete k) (bind_ok _ r refl)))

  pub value_complete : {env : Env} {g : Asks} {n m : ℕ} {t : Term} {v : Valued} → IsValue env g n t v m
      → value_by env g t (typed env (want_in g) n t) ≡ Ok (as_value v m)
  value_complete (v_value h a) = bind_ok _ (typed_complete h) (bind_ok _ a refl)

  pub values_complete : {env : Env} {g : Asks} {n m : ℕ} {ts : Parts} {vs : List Valued} → AreValues env g n ts vs m
      → values env g n ts ≡ Ok (record { all = vs; next = m })
  values_complete v_none = refl
  values_complete (v_more h k) = bind_ok _ (value_complete h) (bind_ok _ (values_complete k) refl)

  pub operand_complete : {env : Env} {d : Demand} {n m : ℕ} {t : Term} {o : Operand} → IsOperand env d n t o m
      → operand_by env d n t (λ k. typed env nothing k t) (read_type env t) ≡ Ok (record { operand = o; next = m })
  operand_complete {env} {d} {n} {m} {t} (o_value {v = v} s h i) =
      by_value env d n m t v false (λ k. typed env nothing k t) (read_type env t) s (value_complete h) i
  operand_complete {env} {d} {n} {m} {t} (o_shown {m = l} {v = v} s h i x z) =
      by_value env d n l t v true (λ k. typed env nothing k t) (read_type env t) s (value_complete h) i
      ∙ bind_ok _ (value_complete x) (bind_ok _ z refl)
  operand_complete {env} {d} {n} {t = t} (o_open {at = at} s) =
      by_special env d n t (is_open at) (λ k. typed env nothing k t) (read_type env t) s
  operand_complete {env} {d} {n} {t = t} (o_type s h) =
      by_special env d n t is_type (λ k. typed env nothing k t) (read_type env t) s ∙ bind_ok _ (type_complete h) refl
  operand_complete {env} {d} {n} {t = t} (o_input s) =
      by_special env d n t is_stdin (λ k. typed env nothing k t) (read_type env t) s

  pub operands_complete : {env : Env} {d : Demand} {n m : ℕ} {ts : Parts} {os : List Operand} → AreOperands env d n ts os m
      → operands env d n ts ≡ Ok (record { operands = os; next = m })
  operands_complete o_none = refl
  operands_complete (o_more h k) = bind_ok _ (operand_complete h) (bind_ok _ (operands_complete k) refl)

  pub conditions_complete : {env : Env} {b : Branching} {n : ℕ} {ts : Choices} {all : Chosen} → AreConditions env b n ts all
      → conditions env b n ts ≡ Ok all
  conditions_complete c_none = refl
  conditions_complete (c_more g h r k) =
      bind_ok _ (value_complete g) (bind_ok _ (typed_complete h) (bind_ok _ r (bind_ok _ (conditions_complete k) refl)))

  pub picks_complete : {env : Env} {ty : Ty} {before : List Label} {b : Branching} {n : ℕ} {ts : Choices} {all : Picked}
      → ArePicks env ty before b n ts all → picks env ty before b n ts ≡ Ok all
  picks_complete k_none = refl
  picks_complete (k_more g h r k) = bind_ok _ (labels_complete g) (bind_ok _ (typed_complete h) (bind_ok _ r (bind_ok _ (picks_complete k) refl)))

  pub labels_complete : {env : Env} {ty : Ty} {before : List Label} {ts : Parts} {ls : List Label} → AreLabels env ty before ts ls
      → labels env ty before ts ≡ Ok ls
  labels_complete l_none = refl
  labels_complete {before = before} (l_value {a = a} {k = l} e g r k) =
      labels_plain _ _ _ _ _ e ∙ bind_ok _ (label_complete g) (bind_ok _ (label_new (place_of (bare a)) before l r) (bind_ok _ (labels_complete k) refl))
  labels_complete {before = before} (l_range {at = at} {k = l} g h e r k) =
      bind_ok _ (label_complete g) (bind_ok _ (label_complete h) (bind_ok _ e (bind_ok _ (label_new at before l r) (bind_ok _ (labels_complete k) refl))))

  pub label_complete : {env : Env} {ty : Ty} {t : Term} {l : Label} → IsLabel env ty t l → label_from env.facts ty (typed env nothing 0 t) ≡ Ok l
  label_complete (l_constant h e r) = bind_ok _ (typed_complete h) (bind_ok _ e (r))

  pub type_complete : {env : Env} {t : Term} {ty : Ty} → Spells env t ty → read_type env t ≡ Ok ty
  type_complete (s_paren h) = type_complete h
  type_complete (s_named {at = at} {x = x} e) = ap (λ k. type_rule at (is_built_in (normal x)) k) e
  type_complete {env} (s_array {at = at} {p = p} {x = x} {l = l} {a = a} e b h f r g z) =
      bind_ok _ (callee_known env p (normal x) e) (array_read env at x l a b _ (bind_ok _ (typed_complete h) (bind_ok _ f (bind_ok _ r (bind_ok _
      (type_complete g) z)))))
  type_complete {env} (s_formed {at = at} {p = p} {x = x} {given = given} e b h r) =
      bind_ok _ (callee_known env p (normal x) e) (types_read env at x given b _ (bind_ok _ (types_complete h) r))

  pub types_complete : {env : Env} {given : Parts} {ts : List Ty} → SpellAll env given ts → read_types env given ≡ Ok ts
  types_complete s_none = refl
  types_complete (s_more h k) = bind_ok _ (type_complete h) (bind_ok _ (types_complete k) refl)

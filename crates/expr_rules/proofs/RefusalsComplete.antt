-- What the rules refuse is refused so.
use Rattle.std.proofs.Common.{◌≡◌, ℕ, Bool, true, false, List, refl, ap, ◌∙◌}
use Rattle.arc_base.specs.declared.place.Place.{Place}
use Rattle.arc_base.specs.declared.place.Code.{Code}
use Rattle.arc_base.specs.declared.place.Code.TheVariants.{UnknownName, NotTyped}
use Rattle.indent_scanner.specs.Words.{normal}
use Rattle.arc_base.specs.Refusal.{IsRefusal}
use Rattle.nim_tree.specs.Terms.{Term, Parts, Choices, place_of}
use Rattle.nim_types.specs.Types.{Ty}
use Rattle.nim_program.specs.Program.{Label}
use Rattle.expr_rules.specs.Env as env_of
use Rattle.expr_rules.specs.Env.{Env, Known, known, known_as}
use Rattle.expr_rules.specs.Builtins.{is_built_in, unless_built_in}
use Rattle.expr_rules.specs.Meant.{IsUnknown, no_declaration}
use Rattle.expr_rules.specs.Names.{is_value_name, name_rule, named_value, type_rule, named_type, field_or_call, method_by}
use Rattle.expr_rules.specs.Answers.{Typed, Want, nothing}
use Rattle.expr_rules.specs.Demands.{Asks, want_in, Demand, ordinary, is_type, is_a_type, bare}
use Rattle.expr_rules.specs.Choices.{Branching}
use Rattle.expr_rules.specs.Typed.{value_by, operand_by, label_from, typed, values, operands, conditions, picks, labels, read_type, read_types}
use Rattle.expr_rules.specs.Refusals as R
use Rattle.expr_rules.specs.Refusals.{IsRefused, IsNoValue, AreNoValues, IsNoOperand, AreNoOperands, AreNoConditions, AreNoPicks, AreNoLabels, IsNoLabel}
use Rattle.expr_rules.specs.Refusals.{SpellsNothing}
use Rattle.expr_rules.specs.Refusals.{SpellsNoTypes}
use Rattle.expr_rules.proofs.Means.{bind_ok, bind_err}
use Rattle.expr_rules.proofs.Complete.{sequence_read, conversion_read, indexes_refused, callee_refused, type_refused, tests_refused, array_read, types_read}
use Rattle.expr_rules.proofs.Complete.{labels_plain, by_dot, by_dollar}
use Rattle.expr_rules.proofs.Complete.{by_special, by_value}
use Rattle.expr_rules.proofs.OperationRows.{callee_known, callee_unknown}
use Rattle.expr_rules.proofs.Planned.{plan_back, no_fields_refused, no_name_refused, no_object_refused}
use Rattle.expr_rules.proofs.Called.{no_call_complete, no_conversion}
use Rattle.expr_rules.proofs.Covers.{label_new, label_again, lacks_back}
use Rattle.expr_rules.proofs.Complete.{typed_complete, value_complete, values_complete}
use Rattle.expr_rules.proofs.Complete.{operand_complete, operands_complete, conditions_complete, picks_complete, labels_complete, label_complete}
use Rattle.expr_rules.proofs.Complete.{type_complete, types_complete}

-- ---- names

unknown_name : (env : Env) (n : ℕ) (at : Place) (x : List ℕ) → IsUnknown env (normal x) → IsRefusal (named_value env n at x) UnknownName at
unknown_name env n at x (no_declaration b k) =
    ap (λ k. name_rule n at (is_built_in (normal x)) k) k ∙ ap (λ b. unless_built_in {A = Typed} at b) b

unknown_type : (env : Env) (at : Place) (x : List ℕ) → IsUnknown env (normal x) → IsRefusal (named_type env at x) UnknownName at
unknown_type env at x (no_declaration b k) =
    ap (λ k. type_rule at (is_built_in (normal x)) k) k ∙ ap (λ b. unless_built_in {A = Ty} at b) b

built_in_name : (env : Env) (x : List ℕ) → (IsUnknown env x → ⊥) → known_as env x ≡ env_of.unknown → is_built_in x ≡ true
built_in_name env x f k = by_test (is_built_in x) refl
  where
    by_test : (b : Bool) → is_built_in x ≡ b → b ≡ true
    by_test true b = refl
    by_test false b = absurd (f (no_declaration b k))

value_refused : (env : Env) (n : ℕ) (at : Place) (x : List ℕ) → (IsUnknown env (normal x) → ⊥) → is_value_name (known env x) ≡ false
    → IsRefusal (named_value env n at x) NotTyped at
value_refused env n at x f e = by_known (known env x) refl e
  where
    by_known : (k : Known) → known env x ≡ k → is_value_name k ≡ false → IsRefusal (name_rule n at (is_built_in (normal x)) k) NotTyped at
    by_known env_of.unknown k e = ap (λ b. unless_built_in {A = Typed} at b) (built_in_name env (normal x) f k)
    by_known (env_of.a_variable place of w g) k e = cc
    by_known (env_of.a_constant of l) k e = cc
    by_known (env_of.a_type ty) k e = refl
    by_known (env_of.procedures all) k e = refl
    by_known env_of.a_pending_type k e = refl
    by_known env_of.the_input k e = refl

type_name_refused : (env : Env) (at : Place) (x : List ℕ) → (IsUnknown env (normal x) → ⊥) → is_a_type (known env x) ≡ false
    → IsRefusal (named_type env at x) NotTyped at
type_name_refused env at x f e = by_known (known env x) refl e
  where
    by_known : (k : Known) → known env x ≡ k → is_a_type k ≡ false → IsRefusal (type_rule at (is_built_in (normal x)) k) NotTyped at
    by_known env_of.unknown k e = ap (λ b. unless_built_in {A = Ty} at b) (built_in_name env (normal x) f k)
    by_known (env_of.a_variable place of w g) k e = refl
    by_known (env_of.a_constant of l) k e = refl
    by_known (env_of.a_type ty) k e = cc
    by_known (env_of.procedures all) k e = refl
    by_known env_of.a_pending_type k e = refl
    by_known env_of.the_input k e = refl

mutual
  pub refused_complete : {env : Env} {want : Want} {n : ℕ} {t : Term} {c : Code} {p : Place} → IsRefused env want n t c p
      → IsRefusal (typed env want n t) c p
  refused_complete {env} {n = n} (R.r_unknown {at = at} {x = x} h) = unknown_name env n at x h
  refused_complete {env} {n = n} (R.r_no_value {at = at} {x = x} f e) = value_refused env n at x f e
  refused_complete R.r_quoted = refl
  refused_complete R.r_nil = refl
  refused_complete R.r_range = refl
  refused_complete (R.r_paren w) = refused_complete w
  refused_complete (R.r_named w) = refused_complete w
  refused_complete (R.r_tuple_part w) = bind_err _ (no_values_complete w)
  refused_complete (R.r_tuple h r) = bind_ok _ (values_complete h) (bind_err _ r)
  refused_complete (R.r_array_element w) = bind_err _ (no_values_complete w)
  refused_complete (R.r_array h r) = bind_ok _ (values_complete h) (bind_err _ r)
  refused_complete (R.r_sequence_element w) = bind_err _ (no_values_complete w)
  refused_complete (R.r_sequence h r) = bind_ok _ (values_complete h) (bind_err _ r)
  refused_complete {env} (R.r_unknown_type {at = at} {x = x} h) = bind_err _ (no_name_refused env at x _ h)
  refused_complete {env} (R.r_no_object {at = at} {x = x} k o) = bind_err _ (no_object_refused env at x _ k o)
  refused_complete {env} (R.r_no_fields {at = at} {x = x} o f) = bind_err _ (no_fields_refused env at x o f)
  refused_complete {env} (R.r_construct_field {at = at} {x = x} o f w) = bind_ok _ (plan_back env at x o f) (bind_err _ (no_values_complete w))
  refused_complete (R.r_field_base w) = bind_err _ (no_operand_complete w)
  refused_complete {env} {n = n} (R.r_no_field {at = at} {x = x} {o = o} h f k) =
      bind_ok _ (operand_complete h) (bind_err _ (ap (λ f. field_or_call env n at (normal x) o f) f ∙ bind_err _ (callee_unknown at k)))
  refused_complete {env} {n = n} (R.r_dot_default {at = at} {x = x} {o = o} h f k d) =
      bind_ok _ (operand_complete h) (bind_err _ (ap (λ f. field_or_call env n at (normal x) o f) f
      ∙ bind_ok _ (callee_known env at (normal x) k) (ap (λ d. method_by env n at (normal x) o d) d)))
  refused_complete {env} {n = n} (R.r_dot {at = at} {x = x} {o = o} h f k d r) =
      bind_ok _ (operand_complete h) (bind_err _ (by_dot env n at (normal x) o f k d ∙ no_call_complete r))
  refused_complete (R.r_index_base w) = bind_err _ (no_value_complete w)
  refused_complete (R.r_index_part h w) = bind_ok _ (value_complete h) (bind_err _ (no_value_complete w))
  refused_complete (R.r_index h k r) = bind_ok _ (value_complete h) (bind_ok _ (value_complete k) r)
  refused_complete (R.r_indexes e) = indexes_refused _ _ _ _ _ _ e
  refused_complete (R.r_callee {p = p} k) = bind_err _ (callee_unknown p k)
  refused_complete {env} (R.r_count {p = p} {x = x} e r) = bind_ok _ (callee_known env p (normal x) e) (bind_err _ r)
  refused_complete {env} (R.r_argument {p = p} {x = x} e f w) =
      bind_ok _ (callee_known env p (normal x) e) (bind_ok _ f (bind_err _ (no_operands_complete w)))
  refused_complete {env} (R.r_call {p = p} {x = x} e f h r) =
      bind_ok _ (callee_known env p (normal x) e) (bind_ok _ f (bind_ok _ (operands_complete h) (bind_err _ (no_call_complete r))))
  refused_complete (R.r_quoted_callee r) = bind_err _ r
  refused_complete (R.r_quoted_argument e w) = bind_ok _ e (bind_err _ (no_operands_complete w))
  refused_complete (R.r_quoted_call e h r) = bind_ok _ e (bind_ok _ (operands_complete h) (bind_err _ (no_call_complete r)))
  refused_complete (R.r_method_count r) = bind_err _ r
  refused_complete (R.r_method_base f w) = bind_ok _ f (bind_err _ (no_operand_complete w))
  refused_complete (R.r_no_method {at = at} f g k) = bind_ok _ f (bind_ok _ (operand_complete g) (bind_err _ (callee_unknown at k)))
  refused_complete {env} (R.r_method_argument {at = at} {x = x} f g e w) =
      bind_ok _ f (bind_ok _ (operand_complete g) (bind_ok _ (callee_known env at (normal x) e) (bind_err _ (no_operands_complete w))))
  refused_complete {env} (R.r_method {at = at} {x = x} f g e h r) =
      bind_ok _ f (bind_ok _ (operand_complete g) (bind_ok _ (callee_known env at (normal x) e)
      (bind_ok _ (operands_complete h) (bind_err _ (no_call_complete r)))))
  refused_complete {env} {want} {n} (R.r_new_type {at = at} {p = p} {q = q} {x = x} {t = t} {inside = inside} e w) =
      sequence_read env want n at p q x t inside e ∙ bind_err _ (no_type_complete w)
  refused_complete {env} {want} {n} (R.r_new_length {at = at} {p = p} {q = q} {x = x} {t = t} {inside = inside} e g w) =
      sequence_read env want n at p q x t inside e ∙ bind_ok _ (type_complete g) (bind_err _ (no_operands_complete w))
  refused_complete {env} {want} {n} (R.r_new_sequence {at = at} {p = p} {q = q} {x = x} {t = t} {inside = inside} e g h r) =
      sequence_read env want n at p q x t inside e ∙ bind_ok _ (type_complete g) (bind_ok _ (operands_complete h) (bind_err _ r))
  refused_complete {env} {want} {n} (R.r_bracket_callee {at = at} {p = p} {q = q} {x = x} {given = given} {inside = inside} f r) =
      conversion_read env want n at p q x given inside f ∙ bind_err _ r
  refused_complete {env} {want} {n} (R.r_bracket_type {at = at} {p = p} {q = q} {x = x} {given = given} {inside = inside} f e w) =
      conversion_read env want n at p q x given inside f ∙ bind_ok _ e (bind_err _ (no_type_complete w))
  refused_complete {env} {want} {n} (R.r_bracket_argument {at = at} {p = p} {q = q} {x = x} {given = given} {inside = inside} f e g w) =
      conversion_read env want n at p q x given inside f ∙ bind_ok _ e (bind_ok _ (type_complete g) (bind_err _ (no_operands_complete w)))
  refused_complete {env} {want} {n}
      (R.r_conversion {at = at} {p = p} {q = q} {r = r} {x = x} {given = given} {inside = inside} {ty = ty} {os = os} f e g h i j) =
      conversion_read env want n at p q x given inside f
      ∙ bind_ok _ e (bind_ok _ (type_complete g) (bind_ok _ (operands_complete h) (bind_err _ (no_conversion env n at ty os r i j))))
  refused_complete (R.r_no_callee e) = callee_refused _ _ _ _ _ _ e
  refused_complete (R.r_unary_operand w) = bind_err _ (no_value_complete w)
  refused_complete {env} {n = n} (R.r_unary {at = at} {op = op} {v = v} h d r) =
      bind_ok _ (value_complete h) (bind_err _ (by_dollar env n at op v false d ∙ r))
  refused_complete {env} {n = n} (R.r_dollar {at = at} {op = op} {v = v} h d r) =
      bind_ok _ (value_complete h) (bind_err _ (by_dollar env n at op v true d ∙ no_call_complete r))
  refused_complete (R.r_left w) = bind_err _ (no_operand_complete w)
  refused_complete (R.r_right h w) = bind_ok _ (operand_complete h) (bind_err _ (no_operand_complete w))
  refused_complete (R.r_binary h k r) = bind_ok _ (operand_complete h) (bind_ok _ (operand_complete k) (bind_err _ r))
  refused_complete (R.r_if_branch w) = bind_err _ (no_conditions_complete w)
  refused_complete (R.r_if_else h w) = bind_ok _ (conditions_complete h) (bind_err _ (refused_complete w))
  refused_complete (R.r_if_value h k r) = bind_ok _ (conditions_complete h) (bind_ok _ (typed_complete k) (bind_err _ r))
  refused_complete (R.r_case_selector w) = bind_err _ (no_value_complete w)
  refused_complete (R.r_case_branch g w) = bind_ok _ (value_complete g) (bind_err _ (no_picks_complete w))
  refused_complete (R.r_case {at = at} g h r) = bind_ok _ (value_complete g) (bind_ok _ (picks_complete h) (bind_err _ (bind_err _ (lacks_back at r))))
  refused_complete (R.r_case_else_selector w) = bind_err _ (no_value_complete w)
  refused_complete (R.r_case_else_branch g w) = bind_ok _ (value_complete g) (bind_err _ (no_picks_complete w))
  refused_complete (R.r_case_else g h w) = bind_ok _ (value_complete g) (bind_ok _ (picks_complete h) (bind_err _ (refused_complete w)))
  refused_complete (R.r_case_else_last g h k r) =
      bind_ok _ (value_complete g) (bind_ok _ (picks_complete h) (bind_ok _ (typed_complete k) (bind_err _ r)))

  pub no_value_complete : {env : Env} {g : Asks} {n : ℕ} {t : Term} {c : Code} {p : Place} → IsNoValue env g n t c p
      → IsRefusal (value_by env g t (typed env (want_in g) n t)) c p
  no_value_complete (R.f_value w) = bind_err _ (refused_complete w)
  no_value_complete (R.f_type h r) = bind_ok _ (typed_complete h) (bind_err _ r)

  pub no_values_complete : {env : Env} {g : Asks} {n : ℕ} {ts : Parts} {c : Code} {p : Place} → AreNoValues env g n ts c p
      → IsRefusal (values env g n ts) c p
  no_values_complete (R.f_first_value w) = bind_err _ (no_value_complete w)
  no_values_complete (R.f_rest_values h w) = bind_ok _ (value_complete h) (bind_err _ (no_values_complete w))

  pub no_operand_complete : {env : Env} {d : Demand} {n : ℕ} {t : Term} {c : Code} {p : Place} → IsNoOperand env d n t c p
      → IsRefusal (operand_by env d n t (λ k. typed env nothing k t) (read_type env t)) c p
  no_operand_complete {env} {d} {n} {t} (R.f_ordinary s w) =
      by_special env d n t ordinary (λ k. typed env nothing k t) (read_type env t) s ∙ bind_err _ (no_value_complete w)
  no_operand_complete {env} {d} {n} {t} (R.f_shown_again {m = m} {v = v} s h i w) =
      by_value env d n m t v true (λ k. typed env nothing k t) (read_type env t) s (value_complete h) i ∙ bind_err _ (no_value_complete w)
  no_operand_complete {env} {d} {n} {t} (R.f_shown {m = m} {v = v} s h i x r) =
      by_value env d n m t v true (λ k. typed env nothing k t) (read_type env t) s (value_complete h) i ∙ bind_ok _ (value_complete x) (bind_err _ r)
  no_operand_complete {env} {d} {n} {t} (R.f_spelled s w) =
      by_special env d n t is_type (λ k. typed env nothing k t) (read_type env t) s ∙ bind_err _ (no_type_complete w)

  pub no_operands_complete : {env : Env} {d : Demand} {n : ℕ} {ts : Parts} {c : Code} {p : Place} → AreNoOperands env d n ts c p
      → IsRefusal (operands env d n ts) c p
  no_operands_complete (R.f_first w) = bind_err _ (no_operand_complete w)
  no_operands_complete (R.f_rest h w) = bind_ok _ (operand_complete h) (bind_err _ (no_operands_complete w))

  pub no_conditions_complete : {env : Env} {b : Branching} {n : ℕ} {ts : Choices} {c : Code} {p : Place} → AreNoConditions env b n ts c p
      → IsRefusal (conditions env b n ts) c p
  no_conditions_complete (R.f_tests e) = tests_refused _ _ _ _ _ _ _ e
  no_conditions_complete (R.f_condition w) = bind_err _ (no_value_complete w)
  no_conditions_complete (R.f_branch g w) = bind_ok _ (value_complete g) (bind_err _ (refused_complete w))
  no_conditions_complete (R.f_branch_value g h r) = bind_ok _ (value_complete g) (bind_ok _ (typed_complete h) (bind_err _ r))
  no_conditions_complete (R.f_conditions g h r w) =
      bind_ok _ (value_complete g) (bind_ok _ (typed_complete h) (bind_ok _ r (bind_err _ (no_conditions_complete w))))

  pub no_picks_complete : {env : Env} {ty : Ty} {before : List Label} {b : Branching} {n : ℕ} {ts : Choices} {c : Code} {p : Place}
      → AreNoPicks env ty before b n ts c p → IsRefusal (picks env ty before b n ts) c p
  no_picks_complete (R.f_labels w) = bind_err _ (no_labels_complete w)
  no_picks_complete (R.f_pick g w) = bind_ok _ (labels_complete g) (bind_err _ (refused_complete w))
  no_picks_complete (R.f_pick_value g h r) = bind_ok _ (labels_complete g) (bind_ok _ (typed_complete h) (bind_err _ r))
  no_picks_complete (R.f_picks g h r w) = bind_ok _ (labels_complete g) (bind_ok _ (typed_complete h) (bind_ok _ r (bind_err _ (no_picks_complete w))))

  pub no_labels_complete : {env : Env} {ty : Ty} {before : List Label} {ts : Parts} {c : Code} {p : Place} → AreNoLabels env ty before ts c p
      → IsRefusal (labels env ty before ts) c p
  no_labels_complete (R.f_label e w) = labels_plain _ _ _ _ _ e ∙ bind_err _ (no_label_complete w)
  no_labels_complete (R.f_label_again {a = a} e g r) =
      labels_plain _ _ _ _ _ e ∙ bind_ok _ (label_complete g) (bind_err _ (label_again (place_of (bare a)) r))
  no_labels_complete {before = before} (R.f_label_rest {a = a} {k = k} e g r w) =
      labels_plain _ _ _ _ _ e
      ∙ bind_ok _ (label_complete g) (bind_ok _ (label_new (place_of (bare a)) before k r) (bind_err _ (no_labels_complete w)))
  no_labels_complete (R.f_low w) = bind_err _ (no_label_complete w)
  no_labels_complete (R.f_high g w) = bind_ok _ (label_complete g) (bind_err _ (no_label_complete w))
  no_labels_complete (R.f_range g h r) = bind_ok _ (label_complete g) (bind_ok _ (label_complete h) (bind_err _ r))
  no_labels_complete (R.f_range_again {at = at} g h e r) =
      bind_ok _ (label_complete g) (bind_ok _ (label_complete h) (bind_ok _ e (bind_err _ (label_again at r))))
  no_labels_complete {before = before} (R.f_range_rest {at = at} {k = k} g h e r w) =
      bind_ok _ (label_complete g) (bind_ok _ (label_complete h) (bind_ok _ e (bind_ok _ (label_new at before k r) (bind_err _ (no_labels_complete w)))))

  pub no_label_complete : {env : Env} {ty : Ty} {t : Term} {c : Code} {p : Place} → IsNoLabel env ty t c p
      → IsRefusal (label_from env.facts ty (typed env nothing 0 t)) c p
  no_label_complete (R.f_no_term w) = bind_err _ (refused_complete w)
  no_label_complete (R.f_no_value h r) = bind_ok _ (typed_complete h) (bind_err _ r)
  no_label_complete (R.f_no_constant h e r) = bind_ok _ (typed_complete h) (bind_ok _ e r)

  pub no_type_complete : {env : Env} {t : Term} {c : Code} {p : Place} → SpellsNothing env t c p → IsRefusal (read_type env t) c p
  no_type_complete (R.f_paren w) = no_type_complete w
  no_type_complete {env} (R.f_unknown {at = at} {x = x} h) = unknown_type env at x h
  no_type_complete {env} (R.f_named {at = at} {x = x} f e) = type_name_refused env at x f e
  no_type_complete (R.f_former {p = p} k) = bind_err _ (callee_unknown p k)
  no_type_complete {env} (R.f_length_term {at = at} {p = p} {x = x} {l = l} {a = a} e b w) =
      bind_ok _ (callee_known env p (normal x) e) (array_read env at x l a b _ (bind_err _ (refused_complete w)))
  no_type_complete {env} (R.f_length_value {at = at} {p = p} {x = x} {l = l} {a = a} e b h r) =
      bind_ok _ (callee_known env p (normal x) e) (array_read env at x l a b _ (bind_ok _ (typed_complete h) (bind_err _ r)))
  no_type_complete {env} (R.f_length {at = at} {p = p} {x = x} {l = l} {a = a} e b h f r) =
      bind_ok _ (callee_known env p (normal x) e) (array_read env at x l a b _ (bind_ok _ (typed_complete h) (bind_ok _ f (bind_err _ r))))
  no_type_complete {env} (R.f_element {at = at} {p = p} {x = x} {l = l} {a = a} e b h f r w) =
      bind_ok _ (callee_known env p (normal x) e) (array_read env at x l a b _ (bind_ok _ (typed_complete h) (bind_ok _ f (bind_ok _ r (bind_err _
      (no_type_complete w))))))
  no_type_complete {env} (R.f_array {at = at} {p = p} {x = x} {l = l} {a = a} e b h f r g z) =
      bind_ok _ (callee_known env p (normal x) e) (array_read env at x l a b _ (bind_ok _ (typed_complete h) (bind_ok _ f (bind_ok _ r (bind_ok _
      (type_complete g) z)))))
  no_type_complete {env} (R.f_arguments {at = at} {p = p} {x = x} {given = given} e b w) =
      bind_ok _ (callee_known env p (normal x) e) (types_read env at x given b _ (bind_err _ (no_types_complete w)))
  no_type_complete {env} (R.f_formed {at = at} {p = p} {x = x} {given = given} e b h r) =
      bind_ok _ (callee_known env p (normal x) e) (types_read env at x given b _ (bind_ok _ (types_complete h) r))
  no_type_complete (R.f_no_type e) = type_refused _ _ e

  pub no_types_complete : {env : Env} {given : Parts} {c : Code} {p : Place} → SpellsNoTypes env given c p → IsRefusal (read_types env given) c p
  no_types_complete (R.f_first_type w) = bind_err _ (no_type_complete w)
  no_types_complete (R.f_rest_types h w) = bind_ok _ (type_complete h) (bind_err _ (no_types_complete w))

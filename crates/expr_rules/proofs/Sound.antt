-- What is computed is what the rules say: the node of a term, or the refusal.
use Rattle.std.proofs.Common.{◌≡◌, ℕ, suc, Bool, true, false, List, [], ◌∷◌, ◌++◌, refl}
use Rattle.std.specs.Prelude.{None, ◌&&◌}
use Rattle.arc_base.specs.declared.place.Place.{Place}
use Rattle.indent_scanner.specs.Words.{normal}
use Rattle.indent_scanner.specs.Meaning.{inner as inside_of}
use Rattle.nim_tree.specs.Terms as term
use Rattle.nim_tree.specs.Terms.{Term, Parts, no_parts, part, Choices, no_choices, choice, place_of}
use Rattle.nim_types.specs.Types as type
use Rattle.nim_types.specs.Types.{Ty}
use Rattle.nim_program.specs.Program.{Label, type_of}
use Rattle.expr_rules.specs.Env.{Env, known}
use Rattle.expr_rules.specs.Builtins.{is_new_sequence}
use Rattle.expr_rules.specs.Answers.{Want, nothing, wanted, within}
use Rattle.expr_rules.specs.Demands.{Asks, anything, exactly, selector, parts, fields, elements, want_in, asks_behind, Demand, arguments, demand_behind}
use Rattle.expr_rules.specs.Demands.{operator_demand, call_demand, receiver_demand, bare}
use Rattle.expr_rules.specs.Constructions.{tuple_wants, array_want, sequence_want, part_count, part_names, types_in}
use Rattle.expr_rules.specs.Choices.{Branching, undecided, branch_want, branching_behind}
use Rattle.expr_rules.specs.Names.{field_of}
use Rattle.expr_rules.specs.Names.{is_array}
use Rattle.expr_rules.specs.Meant.{IsUnknown}
use Rattle.expr_rules.specs.Typed.{typed, values, operands}
use Rattle.expr_rules.specs.Typed.{conditions, picks, labels, is_dollar, is_pair, read_type, read_array, read_types}
use Rattle.expr_rules.specs.Rules.{t_int, t_char, t_text, t_paren, t_named, t_tuple, t_array, t_sequence}
use Rattle.expr_rules.specs.Rules.{t_index, t_call, t_quoted_call, t_method, t_binary, t_if}
use Rattle.expr_rules.specs.Rules.{t_case_else}
use Rattle.expr_rules.specs.Rules.{v_none, v_more}
use Rattle.expr_rules.specs.Rules.{o_none, o_more, c_none, c_more, k_none, k_more}
use Rattle.expr_rules.specs.Rules.{l_none, s_paren, s_array}
use Rattle.expr_rules.specs.Rules.{s_none, s_more}
use Rattle.expr_rules.specs.Refusals as R
use Rattle.expr_rules.specs.Refusals.{IsRefused, IsNoValue, AreNoValues, IsNoOperand, AreNoOperands, AreNoConditions, AreNoPicks, AreNoLabels, IsNoLabel}
use Rattle.expr_rules.specs.Refusals.{SpellsNothing, SpellsNoTypes}
use Rattle.expr_rules.proofs.Means.{m_ok, m_err, means_then, means_map, means_last, itself}
use Rattle.expr_rules.proofs.OperationRows.{callee_sound}
use Rattle.expr_rules.proofs.Planned.{plan_sound}
use Rattle.expr_rules.proofs.Called.{call_sound}
use Rattle.expr_rules.proofs.Steps.{TypedSo, ValuesSo, OperandsSo, ConditionsSo, PicksSo, LabelsSo, SpellsSo, SpellAllSo, name_sound, type_name_sound}
use Rattle.expr_rules.proofs.Steps.{unknown_as, value_sound, operand_sound, label_sound, formed_sound, field_sound, unary_sound, case_sound, case_typed}
use Rattle.expr_rules.proofs.Steps.{case_refused, new_sound, label_typed, label_behind, label_refused, range_typed, range_behind, range_again}
use Rattle.expr_rules.proofs.Steps.{construct_made, fields_refused, plan_refused, conversion_typed, bracket_typed}

and_false : (b : Bool) → (b && false) ≡ false
and_false true = refl
and_false false = refl

-- ---- terms

mutual
  pub typed_sound : (env : Env) (want : Want) (n : ℕ) (t : Term) → TypedSo env want n t (typed env want n t)
  typed_sound env want n (term.int at z) = m_ok t_int
  typed_sound env want n (term.char at z) = m_ok t_char
  typed_sound env want n (term.text at bytes) = m_ok t_text
  typed_sound env want n (term.name at x) = name_sound env want n at x (known env x) refl
  typed_sound env want n (term.quoted at x) = m_err R.r_quoted
  typed_sound env want n (term.nil at) = m_err R.r_nil
  typed_sound env want n (term.range at a b) = m_err R.r_range
  typed_sound env want n (term.paren at a) = means_map (typed_sound env want n a) (λ x h. t_paren h) (λ c p r. R.r_paren r)
  typed_sound env want n (term.named at y a) = means_map (typed_sound env want n a) (λ x h. t_named h) (λ c p r. R.r_named r)
  typed_sound env want n (term.tuple at inside) =
      means_then (values_sound env (parts (tuple_wants (wanted want) (part_count inside))) (suc n) inside)
      (λ vs h. means_then (itself _) (λ e r. m_ok (t_tuple h r)) (λ c p r. R.r_tuple h r)) (λ c p r. R.r_tuple_part r)
  typed_sound env want n (term.array at inside) =
      means_then (values_sound env (elements (array_want (wanted want)) None) (suc n) inside)
      (λ vs h. means_then (itself _) (λ e r. m_ok (t_array h r)) (λ c p r. R.r_array h r)) (λ c p r. R.r_array_element r)
  typed_sound env want n (term.sequence at inside) =
      means_then (values_sound env (elements (sequence_want (wanted want)) None) (suc n) inside)
      (λ vs h. means_then (itself _) (λ e r. m_ok (t_sequence h r)) (λ c p r. R.r_sequence h r)) (λ c p r. R.r_sequence_element r)
  typed_sound env want n (term.construct at x inside) =
      means_then (plan_sound env at x (part_names inside)) (λ plan e. means_then (values_sound env (fields (types_in plan.chosen)) (suc n) inside)
      (λ vs h. construct_made e h) (λ c p r. fields_refused e r))
      (λ c p r. plan_refused r)
  typed_sound env want n (term.field at a x) =
      means_then (operand_sound env (receiver_demand env (normal x) a) (suc n) a _ _ (λ k. typed_sound env nothing k a) (type_sound env a))
      (λ o h. means_then (field_sound env want n at a x o.operand o.next h (field_of env n at (normal x) o.operand) refl) (λ e r. m_ok r) (λ c p r. r))
      (λ c p r. R.r_field_base r)
  typed_sound env want n (term.index at a (part i no_parts)) =
      means_then (value_sound env anything (suc n) a _ (typed_sound env nothing (suc n) a)) (λ v h.
      means_then (value_sound env anything v.next i _ (typed_sound env nothing v.next i)) (λ w k.
      means_last _ (λ y r. t_index h k r) (λ c p r. R.r_index h k r)) (λ c p r. R.r_index_part h r)) (λ c p r. R.r_index_base r)
  typed_sound env want n (term.index at a inside) = m_err (R.r_indexes refl)
  typed_sound env want n (term.call at (term.name p x) inside) =
      means_then (callee_sound env p (normal x)) (λ _ e. means_then (itself _) (λ _ f.
      means_then (operands_sound env (call_demand env (normal x) inside) (suc n) inside) (λ os h.
      means_then (call_sound env n at (normal x) os.operands) (λ y r. m_ok (t_call e f h r)) (λ c p r. R.r_call e f h r)) (λ c p r. R.r_argument e f r))
      (λ c p r. R.r_count e r)) (unknown_as (λ c q. IsRefused env want n (term.call at (term.name p x) inside) c q) (λ r. R.r_callee r))
  typed_sound env want n (term.call at (term.quoted p x) inside) =
      means_then (itself _) (λ _ e. means_then (operands_sound env arguments (suc n) inside) (λ os h.
      means_then (call_sound env n at (inside_of x) os.operands) (λ y r. m_ok (t_quoted_call e h r)) (λ c p r. R.r_quoted_call e h r))
      (λ c p r. R.r_quoted_argument e r)) (λ c p r. R.r_quoted_callee r)
  typed_sound env want n (term.call at (term.field p a x) inside) =
      means_then (itself _) (λ _ f.
      means_then (operand_sound env (call_demand env (normal x) (part a inside)) (suc n) a _ _ (λ k. typed_sound env nothing k a) (type_sound env a)) (λ o g.
      means_then (callee_sound env at (normal x)) (λ _ e.
      means_then (operands_sound env (demand_behind (call_demand env (normal x) (part a inside))) o.next inside) (λ os h.
      means_then (call_sound env n at (normal x) (o.operand ∷ os.operands)) (λ y r. m_ok (t_method f g e h r)) (λ c p r. R.r_method f g e h r))
      (λ c p r. R.r_method_argument f g e r))
      (unknown_as (λ c q. IsRefused env want n (term.call at (term.field p a x) inside) c q) (λ r. R.r_no_method f g r)))
      (λ c p r. R.r_method_base f r)) (λ c p r. R.r_method_count r)
  typed_sound env want n (term.call at (term.index p (term.name q x) (part t no_parts)) inside) =
      bracket_typed env want n at p q x t inside _ _ _ (is_new_sequence (normal x)) refl (type_sound env t)
      (type_sound env (term.index p (term.name q x) (part t no_parts))) (operands_sound env arguments (suc n) inside)
  typed_sound env want n (term.call at (term.index p (term.name q x) no_parts) inside) =
      conversion_typed env want n at p q x no_parts inside _ _ (and_false (is_new_sequence (normal x)))
      (type_sound env (term.index p (term.name q x) no_parts)) (operands_sound env arguments (suc n) inside)
  typed_sound env want n (term.call at (term.index p (term.name q x) (part t (part u rest))) inside) =
      conversion_typed env want n at p q x (part t (part u rest)) inside _ _ (and_false (is_new_sequence (normal x)))
      (type_sound env (term.index p (term.name q x) (part t (part u rest)))) (operands_sound env arguments (suc n) inside)
  typed_sound env want n (term.call at a inside) = m_err (R.r_no_callee refl)
  typed_sound env want n (term.unary at op a) =
      means_then (value_sound env anything (suc n) a _ (typed_sound env nothing (suc n) a))
      (λ v h. means_then (unary_sound env want n at op a v.given v.next h (is_dollar op) refl) (λ e r. m_ok r) (λ c p r. r)) (λ c p r. R.r_unary_operand r)
  typed_sound env want n (term.binary at op a b) =
      means_then (operand_sound env (operator_demand op) (suc n) a _ _ (λ k. typed_sound env nothing k a) (type_sound env a)) (λ o h.
      means_then (operand_sound env (operator_demand op) o.next b _ _ (λ k. typed_sound env nothing k b) (type_sound env b)) (λ q k.
      means_then (itself _) (λ e r. m_ok (t_binary h k r)) (λ c p r. R.r_binary h k r)) (λ c p r. R.r_right h r)) (λ c p r. R.r_left r)
  typed_sound env want n (term.if_term at all a) =
      means_then (conditions_sound env (undecided (within want)) (suc n) all) (λ b h. means_then (typed_sound env (branch_want b.values) b.next a) (λ x k.
      means_then (itself _) (λ e r. m_ok (t_if h k r)) (λ c p r. R.r_if_value h k r)) (λ c p r. R.r_if_else h r)) (λ c p r. R.r_if_branch r)
  typed_sound env want n (term.case_term at a all) =
      means_then (value_sound env selector (suc n) a _ (typed_sound env nothing (suc n) a)) (λ v g.
      means_then (picks_sound env v.given.of [] (undecided (within want)) v.next all) (λ b h.
      means_then (case_sound env at v.given b) (λ y r. m_ok (case_typed g h r)) (λ c p r. case_refused g h r)) (λ c p r. R.r_case_branch g r))
      (λ c p r. R.r_case_selector r)
  typed_sound env want n (term.case_else at a all b) =
      means_then (value_sound env selector (suc n) a _ (typed_sound env nothing (suc n) a)) (λ v g.
      means_then (picks_sound env v.given.of [] (undecided (within want)) v.next all) (λ q h.
      means_then (typed_sound env (branch_want q.values) q.next b) (λ x k.
      means_then (itself _) (λ y r. m_ok (t_case_else g h k r)) (λ c p r. R.r_case_else_last g h k r)) (λ c p r. R.r_case_else g h r))
      (λ c p r. R.r_case_else_branch g r)) (λ c p r. R.r_case_else_selector r)

  pub values_sound : (env : Env) (g : Asks) (n : ℕ) (ts : Parts) → ValuesSo env g n ts (values env g n ts)
  values_sound env g n no_parts = m_ok v_none
  values_sound env g n (part a rest) =
      means_then (value_sound env g n a _ (typed_sound env (want_in g) n a)) (λ v h.
      means_then (values_sound env (asks_behind g v.given.of) v.next rest) (λ vs k. m_ok (v_more h k)) (λ c p r. R.f_rest_values h r))
      (λ c p r. R.f_first_value r)

  pub operands_sound : (env : Env) (d : Demand) (n : ℕ) (ts : Parts) → OperandsSo env d n ts (operands env d n ts)
  operands_sound env d n no_parts = m_ok o_none
  operands_sound env d n (part a rest) =
      means_then (operand_sound env d n a _ _ (λ k. typed_sound env nothing k a) (type_sound env a))
      (λ o h. means_then (operands_sound env (demand_behind d) o.next rest) (λ os k. m_ok (o_more h k))
      (λ c p r. R.f_rest h r)) (λ c p r. R.f_first r)

  pub conditions_sound : (env : Env) (b : Branching) (n : ℕ) (ts : Choices) → ConditionsSo env b n ts (conditions env b n ts)
  conditions_sound env b n no_choices = m_ok c_none
  conditions_sound env b n (choice at (part t no_parts) a rest) =
      means_then (value_sound env (exactly type.bool) n t _ (typed_sound env (want_in (exactly type.bool)) n t)) (λ v g.
      means_then (typed_sound env (branch_want b) v.next a) (λ x h. means_then (itself _) (λ y r.
      means_then (conditions_sound env (branching_behind b (type_of y)) x.next rest) (λ more k. m_ok (c_more g h r k))
      (λ c p w. R.f_conditions g h r w)) (λ c p w. R.f_branch_value g h w)) (λ c p w. R.f_branch g w)) (λ c p w. R.f_condition w)
  conditions_sound env b n (choice at tests a rest) = m_err (R.f_tests refl)

  pub picks_sound : (env : Env) (ty : Ty) (before : List Label) (b : Branching) (n : ℕ) (ts : Choices)
      → PicksSo env ty before b n ts (picks env ty before b n ts)
  picks_sound env ty before b n no_choices = m_ok k_none
  picks_sound env ty before b n (choice at tests a rest) =
      means_then (labels_sound env ty before tests) (λ ls g. means_then (typed_sound env (branch_want b) n a) (λ x h. means_then (itself _) (λ y r.
      means_then (picks_sound env ty (before ++ ls) (branching_behind b (type_of y)) x.next rest) (λ more k. m_ok (k_more g h r k))
      (λ c p w. R.f_picks g h r w)) (λ c p w. R.f_pick_value g h w)) (λ c p w. R.f_pick g w)) (λ c p w. R.f_labels w)

  pub labels_sound : (env : Env) (ty : Ty) (before : List Label) (ts : Parts) → LabelsSo env ty before ts (labels env ty before ts)
  labels_sound env ty before no_parts = m_ok l_none
  labels_sound env ty before (part (term.range at a b) rest) =
      means_then (label_sound env ty a _ (typed_sound env nothing 0 a)) (λ low g. means_then (label_sound env ty b _ (typed_sound env nothing 0 b)) (λ high h.
      means_then (itself _) (λ y e. means_then (new_sound at before y) (λ l r.
      means_then (labels_sound env ty (before ++ l ∷ []) rest) (λ more k. m_ok (range_typed g h e r k))
      (λ c p w. range_behind g h e r w)) (λ c p w. range_again g h e w)) (λ c p w. R.f_range g h w)) (λ c p w. R.f_high g w)) (λ c p w. R.f_low w)
  labels_sound env ty before (part a rest) =
      means_then (label_sound env ty a _ (typed_sound env nothing 0 a)) (λ y g. means_then (new_sound (place_of (bare a)) before y) (λ l r.
      means_then (labels_sound env ty (before ++ l ∷ []) rest) (λ more k. m_ok (label_typed refl g r k))
      (λ c p w. label_behind refl g r w)) (λ c p w. label_refused refl g w)) (λ c p w. R.f_label refl w)

  pub type_sound : (env : Env) (t : Term) → SpellsSo env t (read_type env t)
  type_sound env (term.paren at a) = means_map (type_sound env a) (λ ty h. s_paren h) (λ c p w. R.f_paren w)
  type_sound env (term.name at x) = type_name_sound env at x (known env x) refl
  type_sound env (term.index at (term.name p x) given) =
      means_then (callee_sound env p (normal x)) (λ _ e. formed_sound env at p x given _ refl e (λ b f. array_sound env at p x given e b f)
      (types_sound env given))
      (unknown_as (λ c q. SpellsNothing env (term.index at (term.name p x) given) c q) (λ w. R.f_former w))
  type_sound env a = m_err (R.f_no_type refl)

  pub array_sound : (env : Env) (at p : Place) (x : List ℕ) (given : Parts) → (IsUnknown env (normal x) → ⊥) → is_array x ≡ true
      → is_pair given ≡ true → SpellsSo env (term.index at (term.name p x) given) (read_array env at given)
  array_sound env at p x (part l (part a no_parts)) e b f =
      means_then (typed_sound env nothing 0 l) (λ y hy. means_then (itself _) (λ v hv. means_then (itself _) (λ k hk.
      means_then (type_sound env a) (λ t g. means_last _ (λ z r. s_array e b hy hv hk g r) (λ c q r. R.f_array e b hy hv hk g r))
      (λ c q w. R.f_element e b hy hv hk w)) (λ c q r. R.f_length e b hy hv r)) (λ c q r. R.f_length_value e b hy r))
      (λ c q w. R.f_length_term e b w)
  array_sound env at p x no_parts e b f = cc
  array_sound env at p x (part l no_parts) e b f = cc
  array_sound env at p x (part l (part a (part c rest))) e b f = cc

  pub types_sound : (env : Env) (given : Parts) → SpellAllSo env given (read_types env given)
  types_sound env no_parts = m_ok s_none
  types_sound env (part a rest) =
      means_then (type_sound env a) (λ y h. means_then (types_sound env rest) (λ ts k. m_ok (s_more h k)) (λ c p w. R.f_rest_types h w))
      (λ c p w. R.f_first_type w)

-- Statements: what is computed is what the rules say.
use Rattle.std.proofs.Common.{ℕ, suc, List, [], ◌++◌, refl}
use Rattle.std.specs.Prelude.{Some, None}
use Rattle.arc_base.specs.declared.place.Place.{Place}
use Rattle.nim_tree.specs.declared.stmt.Binding.TheVariants as binding
use Rattle.nim_tree.specs.Terms as term
use Rattle.nim_tree.specs.Terms.{Parts}
use Rattle.nim_tree.specs.Statements.{each, up_to, below, Statement, discards, returns, raises, breaks, continues, imports, evaluates}
use Rattle.nim_tree.specs.Statements.{assigns, commands, defines, types, branches, selects, repeats, counts, tries, defers, proclaims, Statements, empty, then}
use Rattle.nim_tree.specs.Statements.{Branches, no_branches, branch}
use Rattle.nim_types.specs.Types as type
use Rattle.nim_types.specs.Types.{Ty}
use Rattle.nim_program.specs.Program.{Label}
use Rattle.expr_rules.specs.Env.{Env}
use Rattle.expr_rules.specs.Answers.{Answer, nothing}
use Rattle.decl_rules.specs.State.{ResultPlace, Around, in_body, deeper, looping, State, up_to_node, entered, Stated, noting, Blocked}
use Rattle.decl_rules.specs.Values.{Value, condition, given_want, source_want}
use Rattle.decl_rules.specs.Bodies.{result_of, behind_head, before_body}
use Rattle.decl_rules.specs.Stated.{has_statements, ends_with, Branched, Armed, for_state, block_by, stated, all_stated, all_branches, all_arms}
use Rattle.decl_rules.specs.Rules as R
use Rattle.decl_rules.specs.Rules.{IsCondition, IsStated, AreStated, IsBlock, AreBranches, AreArms}
use Rattle.decl_rules.specs.Refusals as F
use Rattle.decl_rules.specs.Refusals.{IsNoCondition, IsNotStated, AreNotStated, IsNoBlock, AreNoBranches, AreNoArms}
use Rattle.decl_rules.proofs.Means.{tested, at_once, Means, m_ok, m_err, means_then, means_map, itself}
use Rattle.decl_rules.proofs.Values.{Below, typed_sound, value_sound, value_as_sound}
use Rattle.decl_rules.proofs.Sections.{section_sound}
use Rattle.decl_rules.proofs.Definitions.{definitions_sound, constants_sound, head_sound}

abbrev pub ConditionSo : Env → ℕ → Place → Parts → Answer Value → Type 0
ConditionSo env n at tests = Means (λ v. IsCondition env n at tests v) (λ c p. IsNoCondition env n at tests c p)

pub condition_sound : Below → (env : Env) (n : ℕ) (at : Place) (tests : Parts) → ConditionSo env n at tests (condition env n at tests)
condition_sound l env n at tests =
    means_then (itself _) (λ t e. means_map (value_as_sound l env type.bool n t) (λ v h. R.s_condition e h) (λ c p r. F.f_test e r))
    (λ c p r. F.f_tests r)

abbrev pub StatedSo : Around → ResultPlace → State → Statement → Answer Stated → Type 0
StatedSo a ends st s = Means (λ x. IsStated a ends st s x) (λ c p. IsNotStated a ends st s c p)

abbrev pub AllStatedSo : Around → ResultPlace → State → Statements → Answer Stated → Type 0
AllStatedSo a ends st all = Means (λ x. AreStated a ends st all x) (λ c p. AreNotStated a ends st all c p)

abbrev pub BlockSo : Around → State → Statements → Answer Blocked → Type 0
BlockSo a st body = Means (λ b. IsBlock a st body b) (λ c p. IsNoBlock a st body c p)

abbrev pub BranchesSo : Around → State → Branches → Answer Branched → Type 0
BranchesSo a st all = Means (λ b. AreBranches a st all b) (λ c p. AreNoBranches a st all c p)

abbrev pub ArmsSo : Around → Ty → List Label → State → Branches → Answer Armed → Type 0
ArmsSo a ty before st all = Means (λ b. AreArms a ty before st all b) (λ c p. AreNoArms a ty before st all c p)

-- a block, by its statements
block_sound : {a : Around} {st : State} {body : Statements} {answer : Answer Stated} → AllStatedSo (deeper a) None (entered st) body answer
    → BlockSo a st body (block_by st answer)
block_sound h = means_then h (λ s k. m_ok (R.s_block k)) (λ c p r. F.r_block r)

mutual
  pub stated_sound : Below → (a : Around) (ends : ResultPlace) (st : State) (s : Statement) → StatedSo a ends st s (stated a ends st s)
  stated_sound l a ends st (discards at None) = m_ok R.s_discard
  stated_sound l a ends st (discards at (Some t)) =
      means_then (value_sound l st.env nothing (suc st.node) t) (λ v h. m_ok (R.s_discard_value h)) (λ c p r. F.r_discard r)
  stated_sound l a ends st (returns at None) = means_then (itself _) (λ gives e. m_ok (R.s_return e)) (λ c p r. F.r_return r)
  stated_sound l a ends st (returns at (Some t)) =
      means_then (itself _)
      (λ gives e. means_then (typed_sound l st.env (given_want gives) (suc st.node) t)
      (λ x h. means_then (itself _) (λ v r. m_ok (R.s_return_value e h r)) (λ c p r. F.r_return_value e h r)) (λ c p r. F.r_return_term e r))
      (λ c p r. F.r_return r)
  stated_sound l a ends st (raises at t) = m_err F.r_raise
  stated_sound l a ends st (breaks at) =
      means_then (tested a.in_loop at) (λ _ e. m_ok (R.s_break e))
      (λ c p r. at_once (λ c p. IsNotStated a ends st (breaks at) c p) r.1 (F.r_break r.0))
  stated_sound l a ends st (continues at) =
      means_then (tested a.in_loop at) (λ _ e. m_ok (R.s_continue e))
      (λ c p r. at_once (λ c p. IsNotStated a ends st (continues at) c p) r.1 (F.r_continue r.0))
  stated_sound l a ends st (imports at names) = m_err F.r_import
  stated_sound l a ends st (evaluates at t) =
      means_then (typed_sound l st.env (given_want ends) (suc st.node) t)
      (λ x h. means_then (itself _) (λ s e. m_ok (R.s_evaluate h e)) (λ c p r. F.r_evaluate h r)) (λ c p r. F.r_expression r)
  stated_sound l a ends st (assigns at op t u) =
      means_then (value_sound l st.env nothing (suc st.node) t)
      (λ v h. means_then (itself _)
      (λ target e. means_then (itself _)
      (λ path f. means_then (value_sound l st.env (source_want op target.of) v.next u)
      (λ w k. means_then (itself _) (λ source g. m_ok (R.s_assign h e f k g)) (λ c p r. F.r_source_type h e f k r))
      (λ c p r. F.r_source h e f r)) (λ c p r. F.r_written h e r)) (λ c p r. F.r_target_type h r)) (λ c p r. F.r_target r)
  stated_sound l a ends st (commands at t operands) =
      means_then (typed_sound l st.env (given_want ends) (suc st.node) (term.call at t operands))
      (λ x h. means_then (itself _) (λ s e. m_ok (R.s_command h e)) (λ c p r. F.r_command h r)) (λ c p r. F.r_call r)
  stated_sound l a ends st (defines at binding.Const all) =
      means_then (constants_sound l st all) (λ behind h. m_ok (R.s_constants h)) (λ c p r. F.r_constants r)
  stated_sound l a ends st (defines at binding.Let all) =
      means_map (definitions_sound l a at binding.Let st all) (λ s h. R.s_variables refl h) (λ c p r. F.r_variables refl r)
  stated_sound l a ends st (defines at binding.Var all) =
      means_map (definitions_sound l a at binding.Var st all) (λ s h. R.s_variables refl h) (λ c p r. F.r_variables refl r)
  stated_sound l a ends st (types at all) = means_then (section_sound l st all) (λ env h. m_ok (R.s_types h)) (λ c p r. F.r_types r)
  stated_sound l a ends st (branches at all otherwise) =
      means_then (branches_sound l a (up_to_node st (suc st.node)) all)
      (λ b h. means_then (block_sound (all_stated_sound l (deeper a) None (entered b.state) otherwise)) (λ o k. m_ok (R.s_if h k))
      (λ c p r. F.r_else h r)) (λ c p r. F.r_branches r)
  stated_sound l a ends st (selects at t all otherwise) =
      means_then (value_sound l st.env nothing (suc st.node) t)
      (λ v h. means_then (itself _)
      (λ s e. means_then (arms_sound l a s.of [] (up_to_node st v.next) all)
      (λ b k. means_then (block_sound (all_stated_sound l (deeper a) None (entered b.state) otherwise))
      (λ o j. means_then (itself _) (λ _ f. m_ok (R.s_case h e k j f)) (λ c p r. F.r_cover h e k j r)) (λ c p r. F.r_case_else h e k r))
      (λ c p r. F.r_arms h e r)) (λ c p r. F.r_selector_type h r)) (λ c p r. F.r_selector r)
  stated_sound l a ends st (repeats at t body) =
      means_then (value_as_sound l st.env type.bool (suc st.node) t)
      (λ v h. means_then (block_sound (all_stated_sound l (deeper (looping a)) None (entered (up_to_node st v.next)) body))
      (λ b k. m_ok (R.s_while h k)) (λ c p r. F.r_while_body h r)) (λ c p r. F.r_while r)
  stated_sound l a ends st (counts at x (each t) body) =
      means_then (value_sound l st.env nothing (suc st.node) t)
      (λ v h. means_then (itself _)
      (λ ty e. means_then (block_sound (all_stated_sound l (deeper (looping a)) None (entered (for_state st v x ty)) body))
      (λ b k. m_ok (R.s_for_each h e k)) (λ c p r. F.r_each_body h e r)) (λ c p r. F.r_each_type h r)) (λ c p r. F.r_each r)
  stated_sound l a ends st (counts at x (up_to t u) body) =
      means_then (value_as_sound l st.env type.int (suc st.node) t)
      (λ v h. means_then (value_as_sound l st.env type.int v.next u)
      (λ w g. means_then (block_sound (all_stated_sound l (deeper (looping a)) None (entered (for_state st w x type.int)) body))
      (λ b k. m_ok (R.s_for_range R.to_last h g k)) (λ c p r. F.r_range_body R.to_last h g r)) (λ c p r. F.r_range_last R.to_last h r))
      (λ c p r. F.r_range_first R.to_last r)
  stated_sound l a ends st (counts at x (below t u) body) =
      means_then (value_as_sound l st.env type.int (suc st.node) t)
      (λ v h. means_then (value_as_sound l st.env type.int v.next u)
      (λ w g. means_then (block_sound (all_stated_sound l (deeper (looping a)) None (entered (for_state st w x type.int)) body))
      (λ b k. m_ok (R.s_for_range R.below_last h g k)) (λ c p r. F.r_range_body R.below_last h g r)) (λ c p r. F.r_range_last R.below_last h r))
      (λ c p r. F.r_range_first R.below_last r)
  stated_sound l a ends st (tries at body all finally) = m_err F.r_try
  stated_sound l a ends st (defers at body) = m_err F.r_defer
  stated_sound l a ends st (proclaims at h body) =
      means_then (tested a.outermost at)
      (λ _ e. means_then (head_sound l st at h (has_statements body))
      (λ k g. means_then (all_stated_sound l (in_body (result_of (behind_head st at h k) h k)) (result_of (behind_head st at h k) h k)
      (before_body (behind_head st at h k) h k) body)
      (λ s j. m_ok (R.s_procedure e g j)) (λ c p r. F.r_body e g r)) (λ c p r. F.r_head e r))
      (λ c p r. at_once (λ c p. IsNotStated a ends st (proclaims at h body) c p) r.1 (F.r_level r.0))

  pub all_stated_sound : Below → (a : Around) (ends : ResultPlace) (st : State) (all : Statements) → AllStatedSo a ends st all (all_stated a ends st all)
  all_stated_sound l a ends st empty = m_ok R.s_none
  all_stated_sound l a ends st (then first rest) =
      means_then (stated_sound l a (ends_with ends rest) st first)
      (λ one h. means_then (all_stated_sound l a ends (noting a.outermost one) rest) (λ more k. m_ok (R.s_more h k)) (λ c p r. F.r_statements h r))
      (λ c p r. F.r_statement r)

  pub branches_sound : Below → (a : Around) (st : State) (all : Branches) → BranchesSo a st all (all_branches a st all)
  branches_sound l a st no_branches = m_ok R.s_no_branches
  branches_sound l a st (branch at tests body rest) =
      means_then (condition_sound l st.env st.node at tests)
      (λ v h. means_then (block_sound (all_stated_sound l (deeper a) None (entered (up_to_node st v.next)) body))
      (λ b k. means_then (branches_sound l a b.state rest) (λ more j. m_ok (R.s_branches h k j)) (λ c p r. F.r_rest h k r))
      (λ c p r. F.r_branch h r)) (λ c p r. F.r_condition r)

  pub arms_sound : Below → (a : Around) (ty : Ty) (before : List Label) (st : State) (all : Branches)
      → ArmsSo a ty before st all (all_arms a ty before st all)
  arms_sound l a ty before st no_branches = m_ok R.s_no_arms
  arms_sound l a ty before st (branch at tests body rest) =
      means_then (itself _)
      (λ ls e. means_then (block_sound (all_stated_sound l (deeper a) None (entered st) body))
      (λ b k. means_then (arms_sound l a ty (before ++ ls) b.state rest) (λ more j. m_ok (R.s_arms e k j)) (λ c p r. F.r_rest_arms e k r))
      (λ c p r. F.r_arm e r)) (λ c p r. F.r_labels r)

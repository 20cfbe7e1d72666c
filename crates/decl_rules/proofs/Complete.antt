-- Statements: what the rules say is computed, so each statement has one meaning at most.
use Rattle.std.proofs.Common.{◌≡◌, ℕ, false, List, refl, ◌∙◌}
use Rattle.std.specs.Prelude.{Option, Some, None, Ok}
use Rattle.arc_base.specs.declared.place.Place.{Place}
use Rattle.arc_base.specs.declared.place.Code.{Code}
use Rattle.arc_base.specs.Refusal.{IsRefusal}
use Rattle.nim_tree.specs.declared.stmt.Binding.{Binding}
use Rattle.nim_tree.specs.declared.stmt.Binding.TheVariants as binding
use Rattle.nim_tree.specs.Terms.{Term, Parts}
use Rattle.nim_tree.specs.Statements.{Definition, Statement, defines, returns, Statements, Branches}
use Rattle.nim_types.specs.Types.{Ty}
use Rattle.nim_program.specs.Program.{Label}
use Rattle.expr_rules.specs.Env.{Env}
use Rattle.decl_rules.specs.State.{ResultPlace, Around, deeper, State, entered, Stated, Blocked}
use Rattle.decl_rules.specs.Values.{Value, condition, procedure_rule}
use Rattle.decl_rules.specs.Definitions.{definitions_rule}
use Rattle.decl_rules.specs.Stated.{Branched, Armed, block_by, stated, all_stated, all_branches, all_arms, is_constant}
use Rattle.decl_rules.specs.Rules as R
use Rattle.decl_rules.specs.Rules.{IsCondition, IsStated, AreStated, IsBlock, AreBranches, AreArms}
use Rattle.decl_rules.specs.Refusals as F
use Rattle.decl_rules.specs.Refusals.{IsNoCondition, IsNotStated, AreNotStated, IsNoBlock, AreNoBranches, AreNoArms}
use Rattle.decl_rules.proofs.Means.{holding, failing, bind_ok, bind_err}
use Rattle.decl_rules.proofs.Values.{Below, typed_complete, refused_complete, value_complete, no_value_complete, value_as_complete, no_value_as_complete}
use Rattle.decl_rules.proofs.Sections.{section_complete, no_section_complete}
use Rattle.decl_rules.proofs.Definitions.{definitions_complete, no_definitions_complete, constants_complete, no_constants_complete, head_complete}
use Rattle.decl_rules.proofs.Definitions.{no_head_complete}

condition_complete : Below → {env : Env} {n : ℕ} {at : Place} {tests : Parts} {v : Value} → IsCondition env n at tests v
    → condition env n at tests ≡ Ok v
condition_complete l (R.s_condition e h) = bind_ok _ e (value_as_complete l h)

no_condition_complete : Below → {env : Env} {n : ℕ} {at : Place} {tests : Parts} {c : Code} {p : Place} → IsNoCondition env n at tests c p
    → IsRefusal (condition env n at tests) c p
no_condition_complete l (F.f_tests r) = bind_err _ r
no_condition_complete l (F.f_test e w) = bind_ok _ e (no_value_as_complete l w)

-- a definition of variables
variables_so : (a : Around) (ends : ResultPlace) (st : State) (at : Place) (b : Binding) (all : List Definition) → is_constant b ≡ false
    → stated a ends st (defines at b all) ≡ definitions_rule a at b st all
variables_so a ends st at binding.Const all e = cc
variables_so a ends st at binding.Let all e = refl
variables_so a ends st at binding.Var all e = refl

-- `return` outside of procedures, with a value or without
no_return : (a : Around) (ends : ResultPlace) (st : State) (at : Place) (t : Option Term) (c : Code) (p : Place)
    → IsRefusal (procedure_rule at a.inside) c p → IsRefusal (stated a ends st (returns at t)) c p
no_return a ends st at None c p r = bind_err _ r
no_return a ends st at (Some t) c p r = bind_err _ r

mutual
  pub stated_complete : Below → {a : Around} {ends : ResultPlace} {st : State} {s : Statement} {x : Stated} → IsStated a ends st s x
      → stated a ends st s ≡ Ok x
  stated_complete l R.s_discard = refl
  stated_complete l (R.s_discard_value h) = bind_ok _ (value_complete l h) refl
  stated_complete l (R.s_return e) = bind_ok _ e refl
  stated_complete l (R.s_return_value e h r) = bind_ok _ e (bind_ok _ (typed_complete l h) (bind_ok _ r refl))
  stated_complete l (R.s_break e) = bind_ok _ (holding _ e) refl
  stated_complete l (R.s_continue e) = bind_ok _ (holding _ e) refl
  stated_complete l (R.s_evaluate h e) = bind_ok _ (typed_complete l h) (bind_ok _ e refl)
  stated_complete l (R.s_command h e) = bind_ok _ (typed_complete l h) (bind_ok _ e refl)
  stated_complete l (R.s_assign h e f k g) =
      bind_ok _ (value_complete l h) (bind_ok _ e (bind_ok _ f (bind_ok _ (value_complete l k) (bind_ok _ g refl))))
  stated_complete l (R.s_constants h) = bind_ok _ (constants_complete l h) refl
  stated_complete l {a} {ends} {st} (R.s_variables {at = at} {b = b} {all = all} e h) =
      variables_so a ends st at b all e ∙ definitions_complete l h
  stated_complete l (R.s_types h) = bind_ok _ (section_complete l h) refl
  stated_complete l (R.s_if h k) = bind_ok _ (branches_complete l h) (bind_ok _ (block_complete l k) refl)
  stated_complete l (R.s_case h e k j f) =
      bind_ok _ (value_complete l h) (bind_ok _ e (bind_ok _ (arms_complete l k) (bind_ok _ (block_complete l j) (bind_ok _ f refl))))
  stated_complete l (R.s_while h k) = bind_ok _ (value_as_complete l h) (bind_ok _ (block_complete l k) refl)
  stated_complete l (R.s_for_each h e k) = bind_ok _ (value_complete l h) (bind_ok _ e (bind_ok _ (block_complete l k) refl))
  stated_complete l (R.s_for_range R.to_last h g k) =
      bind_ok _ (value_as_complete l h) (bind_ok _ (value_as_complete l g) (bind_ok _ (block_complete l k) refl))
  stated_complete l (R.s_for_range R.below_last h g k) =
      bind_ok _ (value_as_complete l h) (bind_ok _ (value_as_complete l g) (bind_ok _ (block_complete l k) refl))
  stated_complete l (R.s_procedure e g j) = bind_ok _ (holding _ e) (bind_ok _ (head_complete l g) (bind_ok _ (all_stated_complete l j) refl))

  pub all_stated_complete : Below → {a : Around} {ends : ResultPlace} {st : State} {all : Statements} {x : Stated} → AreStated a ends st all x
      → all_stated a ends st all ≡ Ok x
  all_stated_complete l R.s_none = refl
  all_stated_complete l (R.s_more h k) = bind_ok _ (stated_complete l h) (bind_ok _ (all_stated_complete l k) refl)

  pub block_complete : Below → {a : Around} {st : State} {body : Statements} {b : Blocked} → IsBlock a st body b
      → block_by st (all_stated (deeper a) None (entered st) body) ≡ Ok b
  block_complete l (R.s_block h) = bind_ok _ (all_stated_complete l h) refl

  pub branches_complete : Below → {a : Around} {st : State} {all : Branches} {b : Branched} → AreBranches a st all b → all_branches a st all ≡ Ok b
  branches_complete l R.s_no_branches = refl
  branches_complete l (R.s_branches h k j) =
      bind_ok _ (condition_complete l h) (bind_ok _ (block_complete l k) (bind_ok _ (branches_complete l j) refl))

  pub arms_complete : Below → {a : Around} {ty : Ty} {before : List Label} {st : State} {all : Branches} {b : Armed} → AreArms a ty before st all b
      → all_arms a ty before st all ≡ Ok b
  arms_complete l R.s_no_arms = refl
  arms_complete l (R.s_arms e k j) = bind_ok _ e (bind_ok _ (block_complete l k) (bind_ok _ (arms_complete l j) refl))

mutual
  pub not_stated_complete : Below → {a : Around} {ends : ResultPlace} {st : State} {s : Statement} {c : Code} {p : Place} → IsNotStated a ends st s c p
      → IsRefusal (stated a ends st s) c p
  not_stated_complete l (F.r_discard w) = bind_err _ (no_value_complete l w)
  not_stated_complete l {a} {ends} {st} (F.r_return {at = at} {p = p} {t = t} {c = c} r) = no_return a ends st at t c p r
  not_stated_complete l (F.r_return_term e w) = bind_ok _ e (bind_err _ (refused_complete l w))
  not_stated_complete l (F.r_return_value e h r) = bind_ok _ e (bind_ok _ (typed_complete l h) (bind_err _ r))
  not_stated_complete l F.r_raise = refl
  not_stated_complete l F.r_import = refl
  not_stated_complete l F.r_try = refl
  not_stated_complete l F.r_defer = refl
  not_stated_complete l (F.r_break e) = bind_err _ (failing _ e)
  not_stated_complete l (F.r_continue e) = bind_err _ (failing _ e)
  not_stated_complete l (F.r_expression w) = bind_err _ (refused_complete l w)
  not_stated_complete l (F.r_evaluate h r) = bind_ok _ (typed_complete l h) (bind_err _ r)
  not_stated_complete l (F.r_call w) = bind_err _ (refused_complete l w)
  not_stated_complete l (F.r_command h r) = bind_ok _ (typed_complete l h) (bind_err _ r)
  not_stated_complete l (F.r_target w) = bind_err _ (no_value_complete l w)
  not_stated_complete l (F.r_target_type h r) = bind_ok _ (value_complete l h) (bind_err _ r)
  not_stated_complete l (F.r_written h e r) = bind_ok _ (value_complete l h) (bind_ok _ e (bind_err _ r))
  not_stated_complete l (F.r_source h e f w) = bind_ok _ (value_complete l h) (bind_ok _ e (bind_ok _ f (bind_err _ (no_value_complete l w))))
  not_stated_complete l (F.r_source_type h e f k r) =
      bind_ok _ (value_complete l h) (bind_ok _ e (bind_ok _ f (bind_ok _ (value_complete l k) (bind_err _ r))))
  not_stated_complete l (F.r_constants w) = bind_err _ (no_constants_complete l w)
  not_stated_complete l {a} {ends} {st} (F.r_variables {at = at} {b = b} {all = all} e w) =
      variables_so a ends st at b all e ∙ no_definitions_complete l w
  not_stated_complete l (F.r_types w) = bind_err _ (no_section_complete l w)
  not_stated_complete l (F.r_branches w) = bind_err _ (no_branches_complete l w)
  not_stated_complete l (F.r_else h w) = bind_ok _ (branches_complete l h) (bind_err _ (no_block_complete l w))
  not_stated_complete l (F.r_selector w) = bind_err _ (no_value_complete l w)
  not_stated_complete l (F.r_selector_type h r) = bind_ok _ (value_complete l h) (bind_err _ r)
  not_stated_complete l (F.r_arms h e w) = bind_ok _ (value_complete l h) (bind_ok _ e (bind_err _ (no_arms_complete l w)))
  not_stated_complete l (F.r_case_else h e k w) =
      bind_ok _ (value_complete l h) (bind_ok _ e (bind_ok _ (arms_complete l k) (bind_err _ (no_block_complete l w))))
  not_stated_complete l (F.r_cover h e k j r) =
      bind_ok _ (value_complete l h) (bind_ok _ e (bind_ok _ (arms_complete l k) (bind_ok _ (block_complete l j) (bind_err _ r))))
  not_stated_complete l (F.r_while w) = bind_err _ (no_value_as_complete l w)
  not_stated_complete l (F.r_while_body h w) = bind_ok _ (value_as_complete l h) (bind_err _ (no_block_complete l w))
  not_stated_complete l (F.r_each w) = bind_err _ (no_value_complete l w)
  not_stated_complete l (F.r_each_type h r) = bind_ok _ (value_complete l h) (bind_err _ r)
  not_stated_complete l (F.r_each_body h e w) = bind_ok _ (value_complete l h) (bind_ok _ e (bind_err _ (no_block_complete l w)))
  not_stated_complete l (F.r_range_first R.to_last w) = bind_err _ (no_value_as_complete l w)
  not_stated_complete l (F.r_range_last R.to_last h w) = bind_ok _ (value_as_complete l h) (bind_err _ (no_value_as_complete l w))
  not_stated_complete l (F.r_range_body R.to_last h g w) =
      bind_ok _ (value_as_complete l h) (bind_ok _ (value_as_complete l g) (bind_err _ (no_block_complete l w)))
  not_stated_complete l (F.r_range_first R.below_last w) = bind_err _ (no_value_as_complete l w)
  not_stated_complete l (F.r_range_last R.below_last h w) = bind_ok _ (value_as_complete l h) (bind_err _ (no_value_as_complete l w))
  not_stated_complete l (F.r_range_body R.below_last h g w) =
      bind_ok _ (value_as_complete l h) (bind_ok _ (value_as_complete l g) (bind_err _ (no_block_complete l w)))
  not_stated_complete l (F.r_level e) = bind_err _ (failing _ e)
  not_stated_complete l (F.r_head e w) = bind_ok _ (holding _ e) (bind_err _ (no_head_complete l w))
  not_stated_complete l (F.r_body e g w) = bind_ok _ (holding _ e) (bind_ok _ (head_complete l g) (bind_err _ (none_stated_complete l w)))

  pub none_stated_complete : Below → {a : Around} {ends : ResultPlace} {st : State} {all : Statements} {c : Code} {p : Place}
      → AreNotStated a ends st all c p → IsRefusal (all_stated a ends st all) c p
  none_stated_complete l (F.r_statement w) = bind_err _ (not_stated_complete l w)
  none_stated_complete l (F.r_statements h w) = bind_ok _ (stated_complete l h) (bind_err _ (none_stated_complete l w))

  pub no_block_complete : Below → {a : Around} {st : State} {body : Statements} {c : Code} {p : Place} → IsNoBlock a st body c p
      → IsRefusal (block_by st (all_stated (deeper a) None (entered st) body)) c p
  no_block_complete l (F.r_block w) = bind_err _ (none_stated_complete l w)

  pub no_branches_complete : Below → {a : Around} {st : State} {all : Branches} {c : Code} {p : Place} → AreNoBranches a st all c p
      → IsRefusal (all_branches a st all) c p
  no_branches_complete l (F.r_condition w) = bind_err _ (no_condition_complete l w)
  no_branches_complete l (F.r_branch h w) = bind_ok _ (condition_complete l h) (bind_err _ (no_block_complete l w))
  no_branches_complete l (F.r_rest h k w) =
      bind_ok _ (condition_complete l h) (bind_ok _ (block_complete l k) (bind_err _ (no_branches_complete l w)))

  pub no_arms_complete : Below → {a : Around} {ty : Ty} {before : List Label} {st : State} {all : Branches} {c : Code} {p : Place}
      → AreNoArms a ty before st all c p → IsRefusal (all_arms a ty before st all) c p
  no_arms_complete l (F.r_labels r) = bind_err _ r
  no_arms_complete l (F.r_arm e w) = bind_ok _ e (bind_err _ (no_block_complete l w))
  no_arms_complete l (F.r_rest_arms e k w) = bind_ok _ e (bind_ok _ (block_complete l k) (bind_err _ (no_arms_complete l w)))

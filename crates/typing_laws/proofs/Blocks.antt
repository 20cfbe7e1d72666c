-- Statements in blocks are typed.
use Rattle.std.proofs.Common.{◌≡◌, ℕ, suc, true, false, List, [], ◌∷◌, ◌++◌, Option, Some, None, refl, sym, subst}
use Rattle.std.specs.Prelude.{Ok}
use Rattle.arc_base.specs.declared.place.Place.{Place}
use Rattle.nim_tree.specs.declared.name.Declared.{Declared as TreeName}
use Rattle.nim_tree.specs.declared.stmt.Binding.{Binding}
use Rattle.nim_tree.specs.Terms.{Term}
use Rattle.nim_tree.specs.Statements.{Definition}
use Rattle.nim_types.specs.Types.{Ty, same}
use Rattle.nim_program.specs.Program.{NoArg}
use Rattle.nim_program.specs.Nodes.{one_value}
use Rattle.nim_program.specs.Scopes.{Here}
use Rattle.nim_program.specs.Typed as T
use Rattle.nim_program.specs.Typed.{is_typed, are_typed, starts, is_empty, are_conditions, are_blocks, has_else, labels_select, selector_kind, chooses}
use Rattle.nim_program.specs.Typed.{is_selector}
use Rattle.nim_program.specs.Typed.{is_typed_stmt, is_typed_block, are_typed_blocks}
use Rattle.expr_rules.specs.Env.{Env}
use Rattle.expr_rules.specs.Answers.{Valued, Want, wanted}
use Rattle.expr_rules.specs.Laws.{CallsComputed}
use Rattle.decl_rules.specs.State.{Around, State, Step, Stated}
use Rattle.decl_rules.specs.Values.{Value, result_want, of_type}
use Rattle.decl_rules.specs.TypeRules as W
use Rattle.decl_rules.specs.TypeRules.{IsValue, IsValueAs, IsSection}
use Rattle.decl_rules.specs.Rules as R
use Rattle.decl_rules.specs.Rules.{IsDefined, IsVariable, AreVariables, IsDefinition, AreDefinitions, IsConstantOf, IsConstant, AreConstants, IsCondition}
use Rattle.decl_rules.specs.Rules.{IsRange}
use Rattle.decl_rules.specs.Rules.{IsStated, AreStated, IsBlock, AreBranches, AreArms}
use Rattle.typing_laws.specs.Sound.{Sound}
use Rattle.typing_laws.specs.Knows.{IfSound, KnowsWell, with_facts}
use Rattle.typing_laws.specs.Trees.{IsRead, has_name, IfRead, DefinitionsRead}
use Rattle.typing_laws.proofs.Tests.{both, never, the_same, is_by}
use Rattle.typing_laws.proofs.SoundKinds.{held}
use Rattle.typing_laws.proofs.Right.{RightValue}
use Rattle.typing_laws.proofs.Constants.{Closed, ClosedOne}
use Rattle.typing_laws.proofs.Induction.{Preserved, typed_right}
use Rattle.typing_laws.proofs.Written.{if_written_sound}
use Rattle.typing_laws.proofs.Growing.{Said, sound_grown}
use Rattle.typing_laws.proofs.Further.{said_by}
use Rattle.typing_laws.proofs.Grows.{variable_grows}
use Rattle.typing_laws.proofs.Steps.{Grown, as_before, with_one, same_facts, is_some, At, StepsRight}
use Rattle.typing_laws.proofs.Steps.{nothing_done, both_done}
use Rattle.typing_laws.proofs.Statements.{value_by, accepted_is}
use Rattle.typing_laws.proofs.Statements.{places_known, variable_right}

-- ---- a definition has a statement

some_variable : {a : Around} {at : Place} {b : Binding} {env : Env} {ty : Option Ty} {t : Option Term} {st : State} {ds : List TreeName} {x : Stated}
    → AreVariables a at b env ty t st ds x → has_name ds ≡ true → is_some x.steps ≡ true
some_variable R.d_no_names h = never h
some_variable (R.d_names (R.d_initialised h) k) n = refl
some_variable (R.d_names R.d_defaulted k) n = refl

pub some_definition : {a : Around} {at : Place} {b : Binding} {st : State} {all : List Definition} {x : Stated} → AreDefinitions a at b st all x
    → has_name all ≡ true → DefinitionsRead all → is_some x.steps ≡ true
some_definition R.d_no_definitions n read = never n
some_definition (R.d_definitions {one = one} {more = more} (R.d_variables f w h) k) n read = first one.steps more.steps (some_variable h read.0.0)
  where
    first : (xs ys : List Step) → is_some xs ≡ true → is_some (xs ++ ys) ≡ true
    first [] ys h = never h
    first (x ∷ xs) ys h = refl

module _ (calls : CallsComputed) (preserved : Preserved) (closed : Closed) (closed_one : ClosedOne) where
  pub own : (here : Here) (env : Env) → KnowsWell here env → KnowsWell (with_facts here env.facts) env
  own here env knows = record { all = knows.own; own = knows.own }

  -- ---- values

  pub value_right : {env : Env} {want : Want} {n : ℕ} {t : Term} {v : Value} → IsValue env want n t v → IsRead t → (here : Here) → KnowsWell here env
      → IfSound here.facts (wanted want) → RightValue here v.given
  value_right (W.v_value {e = e} {v = v} h k) read here knows w = value_by here e v (typed_right calls preserved h read here knows w) k

  of_its_type : (ty : Ty) (v w : Valued) → of_type ty v ≡ Ok w → v.of ≡ ty
  of_its_type ty v w h = sym (the_same (accepted_is (same ty v.of) v w h).1)

  pub value_as : {env : Env} {ty : Ty} {n : ℕ} {t : Term} {v : Value} → IsValueAs env ty n t v → IsRead t → (here : Here) → KnowsWell here env
      → Sound here.facts ty → RightValue here v.given × (v.given.of ≡ ty)
  value_as (W.v_of_type {ty = ty} {v = v} {w = w} h k) read here knows s = (value_right h read here knows s, of_its_type ty v.given w k)

  -- ---- definitions

  want_sound : (here : Here) (ty : Option Ty) → IfSound here.facts ty → IfSound here.facts (wanted (result_want ty))
  want_sound here None h = tt
  want_sound here (Some ty) h = h

  pub defined_right : {env : Env} {ty : Option Ty} {n : ℕ} {t : Term} {v : Value} → IsDefined env ty n t v → IsRead t → (here : Here) → KnowsWell here env
      → IfSound here.facts ty → RightValue here v.given
  defined_right (R.d_value {ty = ty} h k) read here knows s = value_right h read here knows (want_sound here ty s)

  -- `env` is that before the definition
  variable_typed : {a : Around} {at : Place} {b : Binding} {env : Env} {ty : Option Ty} {t : Option Term} {st : State} {d : TreeName} {x : Stated}
      → IsVariable a at b env ty t st d x → a.outermost ≡ false → IfRead t → (here : Here) (around : T.Around) → KnowsWell here env
      → Said env.facts st.env.facts
      → At here st → IfSound here.facts ty → IfSound env.facts ty → StepsRight here around st x
  variable_typed {a} {at} {b} {env} (R.d_initialised {st = st} {d = d} {v = v} h) o read here around knows grows at_st s e =
      let r = defined_right h read here knows s in
      let own_r = defined_right h read (with_facts here env.facts) (own here env knows) e in
      variable_right here around a at b v.given.of (one_value v.given.expr) v.next st d o at_st r.sound
      (sound_grown grows own_r.sound) (is_by r.gives refl) (both r.typed refl)
  variable_typed {a} {at} {b} (R.d_defaulted {ty = ty} {st = st} {d = d}) o read here around knows grows at_st s e =
      variable_right here around a at b ty NoArg (suc st.node) st d o at_st s (sound_grown grows e) (held s) refl

  grown_known : {here after : Here} (env : Env) → Grown here after → KnowsWell here env → KnowsWell after env
  grown_known env as_before k = k
  grown_known {here} env (with_one d g) k = grown_known env g (places_known here env d k)

  if_same : (here after : Here) (ty : Option Ty) → Grown here after → IfSound here.facts ty → IfSound after.facts ty
  if_same here after ty g s = subst (λ f. IfSound f ty) (sym (same_facts g)) s

  variables_typed : {a : Around} {at : Place} {b : Binding} {env : Env} {ty : Option Ty} {t : Option Term} {st : State} {ds : List TreeName} {x : Stated}
      → AreVariables a at b env ty t st ds x → a.outermost ≡ false → IfRead t → (here : Here) (around : T.Around) → KnowsWell here env
      → Said env.facts st.env.facts → At here st → IfSound here.facts ty → IfSound env.facts ty → StepsRight here around st x
  variables_typed {st = st} R.d_no_names o read here around knows grows at s e = nothing_done here around st at
  variables_typed {a} {at} {b} {env} {ty} {t} {st} (R.d_names {one = one} {more = more} h k) o read here around knows grows at_st s e =
      let r = variable_typed h o read here around knows grows at_st s e in
      both_done here around st one more r
      (variables_typed k o read r.after around (grown_known env r.grown knows)
      (λ ty fact f. said_by (variable_grows h) ty fact (grows ty fact f)) r.at (if_same here r.after ty r.grown s) e)

  definition_typed : {a : Around} {at : Place} {b : Binding} {st : State} {d : Definition} {x : Stated} → IsDefinition a at b st d x → a.outermost ≡ false
      → IfRead d.value → (here : Here) (around : T.Around) → At here st → StepsRight here around st x
  definition_typed (R.d_variables {ty = ty} n w h) o read here around at =
      variables_typed h o read here around at.knows (λ ty fact e. e) at (if_written_sound here _ at.knows w)
      (if_written_sound (with_facts here _) _ (own here _ at.knows) w)

  pub definitions_typed : {a : Around} {at : Place} {b : Binding} {st : State} {all : List Definition} {x : Stated} → AreDefinitions a at b st all x
      → a.outermost ≡ false → DefinitionsRead all → (here : Here) (around : T.Around) → At here st → StepsRight here around st x
  definitions_typed {st = st} R.d_no_definitions o read here around at = nothing_done here around st at
  definitions_typed {st = st} (R.d_definitions {one = one} {more = more} h k) o read here around at =
      let r = definition_typed h o read.0.1 here around at in
      both_done here around st one more r (definitions_typed k o read.1 r.after around r.at)

-- Statements that declare no global and no procedure note none, and add nothing to the text.
use Rattle.std.proofs.Common.{◌≡◌, Bool, true, false, List, ◌++◌, Option, refl, sym, ap, ◌∙◌, append-nil}
use Rattle.std.specs.Prelude.{not}
use Rattle.arc_base.specs.declared.place.Place.{Place}
use Rattle.nim_tree.specs.declared.name.Declared.{Declared as TreeName}
use Rattle.nim_tree.specs.declared.stmt.Binding.{Binding}
use Rattle.nim_tree.specs.Terms.{Term}
use Rattle.nim_tree.specs.Statements.{Definition, Statement, Statements, Branches as Trees}
use Rattle.nim_types.specs.Types.{Ty}
use Rattle.nim_program.specs.Program.{Label, Declared, Proc}
use Rattle.expr_rules.specs.Env.{Env}
use Rattle.decl_rules.specs.State.{ResultPlace, Around, Item, State, Stated, Blocked, noting}
use Rattle.decl_rules.specs.Definitions.{if_global}
use Rattle.decl_rules.specs.Stated.{Branched, Armed}
use Rattle.decl_rules.specs.Rules as R
use Rattle.decl_rules.specs.Rules.{IsVariable, AreVariables, IsDefinition, AreDefinitions, IsConstantOf, AreConstants, IsStated, AreStated, IsBlock}
use Rattle.decl_rules.specs.Rules.{AreBranches, AreArms}
use Rattle.typing_laws.proofs.Tests.{ever}
use Rattle.typing_laws.proofs.Bodies.{declares_places, Sort, definitions, a_procedure, other, sort}

-- what is noted of the whole program
pub record Noted : Type 0 where
  pub procs : List Proc
  pub globals : List Declared
  pub text : List Item

abbrev pub noted : State → Noted
noted st = record { procs = st.procs; globals = st.globals; text = st.text }

abbrev pub Same : State → State → Type 0
Same before after = noted after ≡ noted before

no_global : (outermost : Bool) (globals : List Declared) (d : Declared) → outermost ≡ false → globals ++ if_global outermost d ≡ globals
no_global true globals d o = ever o
no_global false globals d o = append-nil globals

variable_same : {a : Around} {at : Place} {b : Binding} {env : Env} {ty : Option Ty} {t : Option Term} {st : State} {d : TreeName} {x : Stated}
    → IsVariable a at b env ty t st d x → a.outermost ≡ false → Same st x.state
variable_same {a} (R.d_initialised {st = st} h) o =
    ap (λ gs. record { procs = st.procs; globals = gs; text = st.text }) (no_global a.outermost st.globals _ o)
variable_same {a} (R.d_defaulted {st = st}) o = ap (λ gs. record { procs = st.procs; globals = gs; text = st.text }) (no_global a.outermost st.globals _ o)

variables_same : {a : Around} {at : Place} {b : Binding} {env : Env} {ty : Option Ty} {t : Option Term} {st : State} {ds : List TreeName} {x : Stated}
    → AreVariables a at b env ty t st ds x → a.outermost ≡ false → Same st x.state
variables_same R.d_no_names o = refl
variables_same (R.d_names h k) o = variables_same k o ∙ variable_same h o

definitions_same : {a : Around} {at : Place} {b : Binding} {st : State} {all : List Definition} {x : Stated} → AreDefinitions a at b st all x
    → a.outermost ≡ false → Same st x.state
definitions_same R.d_no_definitions o = refl
definitions_same (R.d_definitions (R.d_variables n w h) k) o = definitions_same k o ∙ variables_same h o

constant_same : {st x : State} {ty : Option Ty} {names : List TreeName} {t : Option Term} → IsConstantOf st ty names t x → Same st x
constant_same (R.d_constant h f) = refl
constant_same R.d_no_constant = refl

constants_same : {st x : State} {all : List Definition} → AreConstants st all x → Same st x
constants_same R.d_none_constant = refl
constants_same (R.d_all_constant (R.d_constants n w h) k) = constants_same k ∙ constant_same h

-- in a block, where no procedure stands
by_sort : {a : Around} {st : State} {s : Statement} {x : Stated} → Sort a st s x → a.outermost ≡ false → (declares_places s ≡ false → Same st x.state)
    → Same st x.state
by_sort (definitions i h) o go = definitions_same h o
by_sort (a_procedure p h k) o go = ever (sym p ∙ o)
by_sort (other d) o go = go d

mutual
  pub stated_same : {a : Around} {ends : ResultPlace} {st : State} {s : Statement} {x : Stated} → IsStated a ends st s x → declares_places s ≡ false
      → Same st x.state
  stated_same R.s_discard o = refl
  stated_same (R.s_discard_value h) o = refl
  stated_same (R.s_return h) o = refl
  stated_same (R.s_return_value h k r) o = refl
  stated_same (R.s_break h) o = refl
  stated_same (R.s_continue h) o = refl
  stated_same (R.s_evaluate h r) o = refl
  stated_same (R.s_command h r) o = refl
  stated_same (R.s_assign h i j k r) o = refl
  stated_same (R.s_constants h) o = constants_same h
  stated_same (R.s_variables i h) o = ever (sym (ap not i) ∙ o)
  stated_same (R.s_types h) o = refl
  stated_same (R.s_if h k) o = block_same k ∙ branches_same h
  stated_same (R.s_case h i k j r) o = block_same j ∙ arms_same k
  stated_same (R.s_while h k) o = block_same k
  stated_same (R.s_for_each h i k) o = block_same k
  stated_same (R.s_for_range r h i k) o = block_same k
  stated_same (R.s_procedure h i k) o = ever o

  pub all_same : {a : Around} {ends : ResultPlace} {st : State} {all : Statements} {x : Stated} → AreStated a ends st all x → a.outermost ≡ false
      → Same st x.state
  all_same R.s_none o = refl
  all_same {a} (R.s_more {one = one} h k) o =
      all_same k o ∙ ap (λ b. noted (noting b one)) o ∙ by_sort (sort h) o (λ d. stated_same h d)

  block_same : {a : Around} {st : State} {body : Statements} {b : Blocked} → IsBlock a st body b → Same st b.state
  block_same (R.s_block h) = all_same h refl

  branches_same : {a : Around} {st : State} {all : Trees} {b : Branched} → AreBranches a st all b → Same st b.state
  branches_same R.s_no_branches = refl
  branches_same (R.s_branches h k j) = branches_same j ∙ block_same k

  arms_same : {a : Around} {of : Ty} {before : List Label} {st : State} {all : Trees} {b : Armed} → AreArms a of before st all b → Same st b.state
  arms_same R.s_no_arms = refl
  arms_same (R.s_arms h k j) = arms_same j ∙ block_same k

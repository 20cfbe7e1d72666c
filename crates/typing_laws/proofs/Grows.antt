-- What is said of types is said behind each statement too.
use Rattle.std.proofs.Common.{Bool, true, false, ◌+◌, List, length, Option, refl}
use Rattle.std.specs.Prelude.{if◌then◌else◌}
use Rattle.nim_tree.specs.declared.name.Declared.{Declared}
use Rattle.nim_tree.specs.declared.stmt.Binding.{Binding}
use Rattle.nim_tree.specs.Terms.{Term}
use Rattle.nim_tree.specs.Statements.{Definition, Head, Statement, Statements, Branches as Trees}
use Rattle.nim_tree.specs.Types.{Declaration}
use Rattle.nim_types.specs.Types.{Ty}
use Rattle.nim_program.specs.Program.{Label}
use Rattle.expr_rules.specs.Env.{Env}
use Rattle.decl_rules.specs.State.{ResultPlace, Around, State, Stated, Blocked, noting}
use Rattle.decl_rules.specs.Stated.{Branched, Armed}
use Rattle.decl_rules.specs.Heads.{Headed}
use Rattle.decl_rules.specs.Bodies.{with_procedure, behind_head, behind_body}
use Rattle.decl_rules.specs.TypeRules as T
use Rattle.decl_rules.specs.TypeRules.{IsSection}
use Rattle.arc_base.specs.declared.place.Place.{Place}
use Rattle.decl_rules.specs.Rules as R
use Rattle.decl_rules.specs.Rules.{IsVariable, AreVariables, IsDefinition, AreDefinitions, IsConstantOf, AreConstants, IsStated, AreStated, IsBlock}
use Rattle.decl_rules.specs.Rules.{AreBranches, AreArms}
use Rattle.typing_laws.proofs.Further.{Further, no_further, then_further}

-- between states
abbrev pub Grows : State → State → Type 0
Grows before after = Further before.env.facts after.env.facts

pub section_grows : {st : State} {all : List Declaration} {env : Env} → IsSection st all env → Further st.env.facts env.facts
section_grows {st} (T.d_section {s = s} h c k) = record { more = _; is = refl }

noted : (b : Bool) (one : Stated) → Grows one.state (noting b one)
noted true one = no_further _
noted false one = no_further _

headed : (st : State) (at : Place) (h : Head) (k : Headed) → Grows st (behind_head st at h k)
headed st at h k = by_test k.is_new
  where
    by_test : (b : Bool) → Grows st (if b then with_procedure st at h k else st)
    by_test true = no_further _
    by_test false = no_further _

bodied : (b : Bool) (st : State) (at : Place) (h : Head) (k : Headed) (s : Stated) → Grows st s.state → Grows st (behind_body b st at h k s)
bodied true st at h k s g = g
bodied false st at h k s g = by_test k.borrowed
  where
    by_test : (c : Bool) → Grows st (if c then record st { place = st.place + length k.signature.params } else st)
    by_test true = no_further _
    by_test false = no_further _

pub variable_grows : {a : Around} {at : Place} {b : Binding} {env : Env} {ty : Option Ty} {t : Option Term} {st : State} {d : Declared} {x : Stated}
    → IsVariable a at b env ty t st d x → Grows st x.state
variable_grows (R.d_initialised h) = no_further _
variable_grows R.d_defaulted = no_further _

variables_grow : {a : Around} {at : Place} {b : Binding} {env : Env} {ty : Option Ty} {t : Option Term} {st : State} {ds : List Declared} {x : Stated}
    → AreVariables a at b env ty t st ds x → Grows st x.state
variables_grow R.d_no_names = no_further _
variables_grow (R.d_names h k) = then_further (variable_grows h) (variables_grow k)

pub definition_grows : {a : Around} {at : Place} {b : Binding} {st : State} {d : Definition} {x : Stated} → IsDefinition a at b st d x → Grows st x.state
definition_grows (R.d_variables n w h) = variables_grow h

pub definitions_grow : {a : Around} {at : Place} {b : Binding} {st : State} {all : List Definition} {x : Stated} → AreDefinitions a at b st all x
    → Grows st x.state
definitions_grow R.d_no_definitions = no_further _
definitions_grow (R.d_definitions h k) = then_further (definition_grows h) (definitions_grow k)

constant_grows : {st x : State} {ty : Option Ty} {names : List Declared} {t : Option Term} → IsConstantOf st ty names t x → Grows st x
constant_grows (R.d_constant h f) = no_further _
constant_grows R.d_no_constant = no_further _

pub constants_grow : {st x : State} {all : List Definition} → AreConstants st all x → Grows st x
constants_grow R.d_none_constant = no_further _
constants_grow (R.d_all_constant (R.d_constants n w h) k) = then_further (constant_grows h) (constants_grow k)

mutual
  pub stated_grows : {a : Around} {ends : ResultPlace} {st : State} {s : Statement} {x : Stated} → IsStated a ends st s x → Grows st x.state
  stated_grows R.s_discard = no_further _
  stated_grows (R.s_discard_value h) = no_further _
  stated_grows (R.s_return h) = no_further _
  stated_grows (R.s_return_value h k r) = no_further _
  stated_grows (R.s_break h) = no_further _
  stated_grows (R.s_continue h) = no_further _
  stated_grows (R.s_evaluate h r) = no_further _
  stated_grows (R.s_command h r) = no_further _
  stated_grows (R.s_assign h i j k r) = no_further _
  stated_grows (R.s_constants h) = constants_grow h
  stated_grows (R.s_variables i h) = definitions_grow h
  stated_grows (R.s_types h) = section_grows h
  stated_grows (R.s_if h k) = then_further (branches_grow h) (block_grows k)
  stated_grows (R.s_case h i k j r) = then_further (arms_grow k) (block_grows j)
  stated_grows (R.s_while h k) = block_grows k
  stated_grows (R.s_for_each h i k) = block_grows k
  stated_grows (R.s_for_range r h i k) = block_grows k
  stated_grows {st = st} (R.s_procedure {at = at} {h = head} {body = body} {k = k} {s = s} o i b) =
      then_further (headed st at head k) (bodied _ (behind_head st at head k) at head k s (all_grow b))

  pub all_grow : {a : Around} {ends : ResultPlace} {st : State} {all : Statements} {x : Stated} → AreStated a ends st all x → Grows st x.state
  all_grow R.s_none = no_further _
  all_grow {a} (R.s_more {one = one} h k) = then_further (then_further (stated_grows h) (noted a.outermost one)) (all_grow k)

  pub block_grows : {a : Around} {st : State} {body : Statements} {b : Blocked} → IsBlock a st body b → Grows st b.state
  block_grows (R.s_block h) = all_grow h

  pub branches_grow : {a : Around} {st : State} {all : Trees} {b : Branched} → AreBranches a st all b → Grows st b.state
  branches_grow R.s_no_branches = no_further _
  branches_grow (R.s_branches h k j) = then_further (block_grows k) (branches_grow j)

  pub arms_grow : {a : Around} {of : Ty} {before : List Label} {st : State} {all : Trees} {b : Armed} → AreArms a of before st all b → Grows st b.state
  arms_grow R.s_no_arms = no_further _
  arms_grow (R.s_arms h k j) = then_further (block_grows k) (arms_grow j)

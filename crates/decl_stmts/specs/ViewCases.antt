-- What the rules say of `case` behind its parts. Contracts of the pass alone speak of it.
use Rattle.std.specs.Prelude.{ℕ, List, [], ◌∷◌, map, Bool, true, false, None, Ok}
use Rattle.arc_base.specs.declared.place.Place.{Place}
use Rattle.arc_base.specs.Refusal.{and_then}
use Rattle.nim_tree.specs.Statements.{Statements, Branches}
use Rattle.nim_tree.specs.Terms.{Parts}
use Rattle.nim_types.specs.Types.{Ty, Facts}
use Rattle.nim_program.specs.declared.expr.Node.{Node}
use Rattle.nim_program.specs.Program as P
use Rattle.nim_program.specs.Program.{Label, Stmts}
use Rattle.nim_program.specs.Nodes.{selecting, blocks_of}
use Rattle.nim_program.specs.View.{label_of, branch_labels, stmts_of}
use Rattle.expr_rules.specs.Answers.{Answer, Valued, node}
use Rattle.expr_rules.specs.Choices.{cover_rule}
use Rattle.expr_rules.specs.Typed.{labels}
use Rattle.decl_rules.specs.State.{Around, State, Stated, stated_as, does, up_to_node}
use Rattle.decl_rules.specs.Values.{Value, selector_rule}
use Rattle.decl_rules.specs.Stated.{Armed, all_arms, covered}
use Rattle.decl_parts.specs.declared.state.State.{State as RustState}
use Rattle.decl_stmts.specs.declared.blocks.cases.Arms.{Arms as RustArms}
use Rattle.decl_stmts.specs.declared.blocks.cases.Arm.{Arm as RustArm}
use Rattle.decl_parts.specs.View.{Beside, state_of, arm_bodies_in}
use Rattle.decl_stmts.specs.ViewStated.{block_rule}

abbrev pub armed_as : List Ty → Beside → RustState → RustArms → Armed
armed_as ts b st all =
    record { rows = branch_labels all.all.items; labels = all.labels; blocks = arm_bodies_in ts all.all.items; state = state_of ts b st }

-- a branch, and the state behind it
pub record OneArm : Type 0 where
  pub own : List Label
  pub block : Stmts
  pub state : State

abbrev pub arm_as : List Ty → Beside → RustState → RustArm → OneArm
arm_as ts b st arm = record { own = map label_of arm.one.labels; block = stmts_of ts arm.one.body.items; state = state_of ts b st }

-- its block, behind its labels
abbrev pub arm_behind : Around → State → Statements → List Label → Answer OneArm
arm_behind a st body own =
    and_then (block_rule a st body) (λ b. Ok (record { own = own; block = b.stmts; state = b.state }))

abbrev pub arm_rule : Around → Ty → (before : List Label) → State → Parts → Statements → Answer OneArm
arm_rule a ty before st tests body = and_then (labels st.env ty before tests) (λ own. arm_behind a st body own)

-- the block of `else`, behind the branches
abbrev pub selection_else : Around → Facts → Node → Statements → Valued → Armed → Answer Stated
selection_else a facts node otherwise v b =
    and_then (block_rule a b.state otherwise) (λ o.
    and_then (covered facts node.at v.of b.labels otherwise) (λ _.
    Ok (stated_as (does (P.Select node (P.ByLabels b.rows) (selecting v.expr P.NoArg) (blocks_of b.blocks o.stmts)) ∷ []) o.state)))

-- the branches, behind the selector
abbrev pub selection_over : Around → State → Place → Branches → Statements → Valued → ℕ → Answer Stated
selection_over a st at all otherwise v next =
    and_then (all_arms a v.of [] (up_to_node st next) all) (λ b. selection_else a st.env.facts (node st.node at) otherwise v b)

abbrev pub selection_behind : Around → State → Place → Branches → Statements → Value → Answer Stated
selection_behind a st at all otherwise v = and_then (selector_rule v.given) (λ s. selection_over a st at all otherwise s v.next)

-- where all parts are typed
abbrev pub covered_by : (lacks_else : Bool) → Facts → Place → Ty → List Label → Answer (Unit {0})
covered_by true facts at ty ls = cover_rule facts at ty None ls
covered_by false facts at ty ls = Ok tt

abbrev pub covered_as : (lacks_else : Bool) → Facts → Node → Valued → List (List Label) → List Stmts → List Label → Stmts → State → Answer Stated
covered_as lacks_else facts node v rows blocks ls otherwise st =
    and_then (covered_by lacks_else facts node.at v.of ls) (λ _.
    Ok (stated_as (does (P.Select node (P.ByLabels rows) (selecting v.expr P.NoArg) (blocks_of blocks otherwise)) ∷ []) st))

-- What the rules say of a statement behind its parts. Contracts of the pass alone speak of it.
use Rattle.std.proofs.Common.{Vec, Global}
use Rattle.std.specs.Prelude.{Result, ℕ, suc, List, [], ◌∷◌, Bool, true, false, Option, None, Ok, length}
use Rattle.arc_base.specs.declared.place.Place.{Place}
use Rattle.arc_base.specs.declared.place.Stop.{Stop}
use Rattle.arc_base.specs.Refusal.{and_then}
use Rattle.nim_tree.specs.declared.stmt.AssignOp.{AssignOp}
use Rattle.nim_tree.specs.Statements.{Statement, proclaims, Statements}
use Rattle.nim_tree.specs.Terms.{Term, Parts}
use Rattle.nim_types.specs.Types as type
use Rattle.nim_types.specs.Types.{Ty}
use Rattle.nim_program.specs.declared.expr.Node.{Node}
use Rattle.nim_program.specs.declared.stmt.Branch.{Branch as RustBranch}
use Rattle.nim_program.specs.declared.stmt.Stmt.{Stmt as RustStmt}
use Rattle.nim_program.specs.Nodes.{one_value, blocks_of}
use Rattle.nim_program.specs.Program as P
use Rattle.nim_program.specs.Program.{Stmts}
use Rattle.nim_program.specs.View.{expr_of, stmts_of, branch_conditions}
use Rattle.expr_rules.specs.Answers.{Answer, Valued, node}
use Rattle.expr_rules.specs.Builtins.{write_rule}
use Rattle.expr_rules.specs.Paths.{path_of}
use Rattle.expr_rules.specs.Typed.{typed}
use Rattle.decl_rules.specs.State.{ResultPlace, Around, State, Step, does, Stated, stated_as, did, up_to_node, deeper, entered, Blocked, blocked}
use Rattle.decl_rules.specs.Stated.{Branched, all_stated, block_by}
use Rattle.decl_rules.specs.Values.{Value, valued_term, target_rule, target_at, source_want, source_rule, assigned, given_want, returned, gives_back}
use Rattle.decl_rules.specs.Values.{condition}
use Rattle.decl_parts.specs.declared.state.ResultPlace.{ResultPlace as RustResultPlace}
use Rattle.decl_parts.specs.declared.state.State.{State as RustState}
use Rattle.decl_parts.specs.declared.state.Around.{Around as RustAround}
use Rattle.decl_parts.specs.View.{Beside, state_of, steps_of, all_stated_as, bodies_in, Stating, Ready, ResultWithin, InsideWithin}
use Rattle.decl_stmts.specs.declared.statements.PlainStmt.{PlainStmt}
use Rattle.decl_stmts.specs.declared.statements.PlainStmt.TheVariants as kind

-- the statements of a list
abbrev pub listed_steps : List Ty → Vec RustStmt Global → List Step
listed_steps ts all = steps_of ts all.items

-- the same, and the state behind them
abbrev pub listed_stated : List Ty → Beside → RustState → Vec RustStmt Global → Stated
listed_stated ts b st all = all_stated_as ts b st all.items

-- a statement of one node
abbrev pub plain_of : PlainStmt → Node → P.Stmt
plain_of kind.Pass n = P.Idle n P.NoArg
plain_of (kind.Leaves leaving) n = P.Leave n leaving P.NoArg

-- ---- results

-- a result behind the type that it has to have
abbrev pub return_behind : State → Place → Term → ResultPlace → Answer Stated
return_behind st at t gives =
    and_then (typed st.env (given_want gives) (suc st.node) t) (λ x.
    and_then (returned gives x.expr) (λ v. Ok (did st (gives_back gives (node st.node at) v.expr) x.next)))

-- ---- assignments

abbrev pub is_char : Ty → Bool
is_char type.char = true
is_char _ = false

-- the value, behind what is written
abbrev pub assign_source : State → Node → AssignOp → (source : Term) → (target : Valued) → ℕ → Answer Stated
assign_source st node op u target next =
    and_then (valued_term st.env (source_want op target.of) next u) (λ w.
    and_then (source_rule op target.of w.given) (λ source. Ok (did st (assigned op node (path_of target.expr) source.expr) w.next)))

abbrev pub assign_checked : State → Node → AssignOp → (target source : Term) → Valued → ℕ → Answer Stated
assign_checked st node op t u target next = and_then (write_rule (target_at st.env t target)) (λ _. assign_source st node op u target next)

abbrev pub assign_behind : State → Node → AssignOp → (target source : Term) → Value → Answer Stated
assign_behind st node op t u v = and_then (target_rule op v.given) (λ target. assign_checked st node op t u target v.next)

-- ---- blocks

-- a block, in a scope of its own
abbrev pub block_rule : Around → State → Statements → Answer Blocked
block_rule a st body = block_by st (all_stated (deeper a) None (entered st) body)

abbrev pub blocked_as : List Ty → Beside → RustState → List RustStmt → Blocked
blocked_as ts b st stmts = blocked (stmts_of ts stmts) (state_of ts b st)

abbrev pub BlockSo : (old new : RustState) → (said : List Ty → State → Answer Blocked) → Result (Vec RustStmt Global) Stop → Type 0
BlockSo old new said r = Stating old new (λ ts b stmts. blocked_as ts b new stmts.items) (λ ts b. said ts (state_of ts b old)) r

abbrev pub branched_as : List Ty → Beside → RustState → List RustBranch → Branched
branched_as ts b st all = record { tests = branch_conditions ts all; blocks = bodies_in ts all; state = state_of ts b st }

-- a branch, and the state behind it
pub record OneBranch : Type 0 where
  pub test : P.Expr
  pub block : Stmts
  pub state : State

abbrev pub branch_as : List Ty → Beside → RustState → RustBranch → OneBranch
branch_as ts b st one = record { test = expr_of ts one.condition; block = stmts_of ts one.body.items; state = state_of ts b st }

-- its block, behind its test
abbrev pub branch_behind : Around → State → Statements → Value → Answer OneBranch
branch_behind a st body c =
    and_then (block_rule a (up_to_node st c.next) body) (λ b.
    Ok (record { test = c.given.expr; block = b.stmts; state = b.state }))

abbrev pub branch_rule : Around → State → Place → Parts → Statements → Answer OneBranch
branch_rule a st at tests body = and_then (condition st.env st.node at tests) (λ c. branch_behind a st body c)

-- the block of `else`, behind the branches
abbrev pub choice_behind : Around → Node → Statements → Branched → Answer Stated
choice_behind a node otherwise b =
    and_then (block_rule a b.state otherwise) (λ o.
    Ok (stated_as (does (P.Select node P.ByConditions b.tests (blocks_of b.blocks o.stmts)) ∷ []) o.state))

-- the body of a loop, behind its condition
abbrev pub repetition_behind : Around → State → Node → Statements → Value → Answer Stated
repetition_behind a st node body c =
    and_then (block_rule a (up_to_node st c.next) body) (λ b.
    Ok (stated_as (does (P.Loop node P.While (one_value c.given.expr) b.stmts) ∷ []) b.state))

-- a procedure stands at the outermost level alone, where it is looked at by itself
abbrev pub IsPlain : (outermost : Bool) → Statement → Type 0
IsPlain true (proclaims at h body) = ⊥
IsPlain true _ = Unit {0}
IsPlain false s = Unit {0}

-- what a statement needs of what stands around it
pub record Fits (st : RustState) (a : RustAround) (gives : Option RustResultPlace) (s : Statement) : Type 0 where
  pub ready : Ready st
  pub around : InsideWithin (length st.types) a.inside
  pub ends : ResultWithin (length st.types) gives
  pub plain : IsPlain a.outermost s

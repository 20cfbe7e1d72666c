-- What reading comes to in the end is a tree, or why there is none.
use Rattle.std.proofs.Common.{◌≡◌, ℕ, List, true, refl, arith}
use Rattle.indent_scanner.specs.declared.token.Token.{Token}
use Rattle.nim_tree.specs.Terms.{Term}
use Rattle.parse_exprs.specs.declared.layout.Layout.{Layout}
use Rattle.parse_exprs.specs.declared.layout.Layout.TheVariants.{Lines}
use Rattle.parse_exprs.specs.Ends.{Ends, e_read, e_deep, e_stuck, enough, AlwaysEnds, Decided, is_read, is_not}
use Rattle.parse_exprs.specs.Faults.{Fault}
use Rattle.parse_exprs.specs.Look.{Origin}
use Rattle.parse_exprs.specs.Outcome.{Out}
use Rattle.parse_exprs.specs.Parsed.{Reads, ReadsCallee, ExprFaults, CalleeFaults, ExprRun, CalleeRun, Agree}
use Rattle.parse_exprs.proofs.Ending.{ends_expr, ends_primary}
use Rattle.parse_exprs.proofs.Laws.{expr_agrees, callee_agrees}

decided_by : {sought : Term → List Token → List Token → Type 0} {faults : Fault → List Token → Type 0} {run : List Token → ℕ → Out Term}
    {most m : ℕ} {o : Out Term} → Agree sought faults run most → (ts : List Token) (k : ℕ) → run ts k ≡ o → Ends m o → Decided sought faults most ts
decided_by agree ts k e (e_read lt) = let d = agree.sound _ ts _ (agree.steady k ts _ e (λ f. cc)) in is_read d.reads d.few
decided_by agree ts k e (e_deep some) = is_not ((agree.deep ts).1 (agree.steady k ts _ e (λ f. cc)))
decided_by agree ts k e e_stuck = is_not ((agree.stuck ts _).1 (agree.steady k ts _ e (λ f. cc)))

-- where the three agree, and reading ends, each list of tokens is decided
pub decided : {sought : Term → List Token → List Token → Type 0} {faults : Fault → List Token → Type 0} {run : List Token → ℕ → Out Term}
    {most : ℕ} → Agree sought faults run most → AlwaysEnds run → (ts : List Token) → Decided sought faults most ts
decided agree ends ts = decided_by agree ts (enough ts) refl (ends ts (enough ts) (omega arith))

pub exprs_end : (x : Origin) (i : Layout) (most : ℕ) → AlwaysEnds (ExprRun x i most)
exprs_end x i most ts k le = ends_expr k x i most ts (omega (arith, le))

pub callees_end : (x : Origin) (spaces : ℕ) → AlwaysEnds (CalleeRun x spaces)
callees_end x spaces ts k le = ends_primary k x (Lines spaces) true 64 ts (omega (arith, le))

pub exprs_decided : (x : Origin) (i : Layout) (most : ℕ) (ts : List Token) → Decided (Reads x i) (ExprFaults x i most) most ts
exprs_decided x i most = decided (expr_agrees x i most) (exprs_end x i most)

pub callees_decided : (x : Origin) (spaces : ℕ) (ts : List Token) → Decided (ReadsCallee x spaces) (CalleeFaults x spaces) 64 ts
callees_decided x spaces = decided (callee_agrees x spaces) (callees_end x spaces)

use Rattle.std.proofs.Common.{◌≡◌, suc, arith, subst}
use Rattle.std.specs.Prelude.{Option, Some}
use Rattle.nim_tree.specs.declared.stmt.AssignOp.{AssignOp}
use Rattle.nim_tree.specs.Terms.{term_of}
use Rattle.nim_tree.specs.Statements.{statement_of}
use Rattle.parse_exprs.specs.Look.{lead_at}
use Rattle.parse_exprs.specs.Input.{from_at, origin_of}
use Rattle.parse_decls.specs.Gives.{Comes}
use Rattle.parse_decls.proofs.ForCallers.{comes_leads, leads_then}
use Rattle.parse_stmts.specs.Look.{assign_on}
use Rattle.parse_stmts.specs.Run.{assigned_by, run_assigned}
use Rattle.parse_stmts.proofs.plain.read_expression.Goals as goal

pub returns-in-Some : goal.returns-in-Some
returns-in-Some c =
    let input = c.args.input.now in let x = origin_of input in let n = c.args.spaces in let target = c.in_ok-target.target in let h = c.in_ok-target.ensures in
    let e : Some c.in-Some.op ≡ assigned_by (lead_at (from_at input c.args.at)) (assign_on x n (from_at input target.next)) = cc in
    comes_leads statement_of _ _ input _ (leads_then _ h.runs) _ (omega (arith, h.goes)) _
    (subst (λ (op : Option AssignOp). Comes statement_of (λ k. run_assigned k op x n (term_of target.value) (from_at input target.next)) input
    (suc target.next) c.read_assigned.result) e c.read_assigned.ensures)

use Rattle.std.proofs.Common.{ap, ◌∙◌, sym, arith}
use Rattle.std.proofs.lemmas.Result.{err_from_is_err_and}
use Rattle.nim_tree.specs.Statements.{statements_of}
use Rattle.parse_exprs.specs.Input.{from_at, origin_of}
use Rattle.parse_decls.proofs.ForCallers.{fails_leads, leads_on, found}
use Rattle.parse_stmts.proofs.Lists.{one_more_statement}
use Rattle.parse_stmts.proofs.Steps.{line_fails, line_more, line_ends, line_on, line_stuck}
use Rattle.parse_stmts.proofs.line.read_line.Goals as goal

pub returns-in_err-first : goal.returns-in_err-first
returns-in_err-first c =
    let p = err_from_is_err_and c.from_residual.result c.from_residual.ensures.1 in
    rw (p.1, p.2) (line_fails (origin_of c.args.input.now) c.args.spaces _ _ _ c.in_err-first.ensures)

pub loop-behind-init : goal.loop-behind-init
loop-behind-init c =
    let h = c.in_ok-first.ensures in
    record {
      leads = line_more (origin_of c.args.input.now) c.args.spaces _ _ _ _ _ (ap statements_of c.in_ok-all.ensures.ok ∙ one_more_statement _ _) h.runs;
      goes = h.goes;
      within = h.within;
    }

pub returns-then-not-stays : goal.returns-then-not-stays
returns-then-not-stays c =
    let input = c.args.input.now in let x = origin_of input in let h = c.in-Some.ensures in let ts = from_at input c.loop-behind.next in let some =
    statements_of c.loop-behind.all.items in
    line_stuck x c.args.spaces some ts _ _ c.loop-behind.invariant.leads h.is h.behind (sym c.stays.ensures ∙ c.if-not-stays.true) _ c.stuck.ensures

pub returns-in_err-one : goal.returns-in_err-one
returns-in_err-one c =
    let p = err_from_is_err_and c.from_residual-in_err-one.result c.from_residual-in_err-one.ensures.1 in
    let input = c.args.input.now in let x = origin_of input in let h = c.in-Some.ensures in let ts = from_at input c.loop-behind.next in let some =
    statements_of c.loop-behind.all.items in
    rw (p.1, p.2)
    (fails_leads _ _ _ (leads_on (line_on x c.args.spaces some ts _ h.is h.behind (sym c.stays.ensures ∙ c.if-not-stays.false))
    c.loop-behind.invariant.leads) _ (line_fails x c.args.spaces _ _ _ c.in_err-one.ensures))

pub loop-behind-preserved : goal.loop-behind-preserved
loop-behind-preserved c =
    let input = c.args.input.now in let x = origin_of input in let h = c.in-Some.ensures in let ts = from_at input c.loop-behind.next in let some =
    statements_of c.loop-behind.all.items in let one = c.in_ok-one.ensures in let so = c.loop-behind.invariant in
    record {
      leads = leads_on (line_more x c.args.spaces some _ _ _ _ (ap statements_of c.in_ok-all-2.ensures.ok ∙ one_more_statement _ _) one.runs)
          (leads_on (line_on x c.args.spaces some ts _ h.is h.behind (sym c.stays.ensures ∙ c.if-not-stays.false)) so.leads);
      goes = omega (arith, h.goes, one.goes, so.goes);
      within = one.within;
    }

pub returns : goal.returns
returns c =
    let so = c.loop-behind.invariant in
    found _ _ (leads_on (line_ends (origin_of c.args.input.now) c.args.spaces _ _ c.in_default.ensures) so.leads) so.goes so.within

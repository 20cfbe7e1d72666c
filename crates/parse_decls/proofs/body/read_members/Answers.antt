use Rattle.std.proofs.Common.{suc, [], ◌∷◌, sym, subst, ◌∙◌, arith}
use Rattle.std.proofs.lemmas.Result.{err_from_is_err_and}
use Rattle.parse_exprs.specs.Input.{origin_of, from_at}
use Rattle.parse_decls.specs.Run.{run_more_members}
use Rattle.parse_decls.specs.Gives.{Comes}
use Rattle.parse_decls.proofs.Coming.{fails_then, fails_leads, comes_leads, leads_on, leads_then, leads_if, leads_else}
use Rattle.parse_decls.proofs.body.read_members.Goals as goal

pub returns-then-not-deeper_at : goal.returns-then-not-deeper_at
returns-then-not-deeper_at c =
    comes_leads (λ all. all.items) _ _ c.args.input.now (suc c.args.at) (leads_else _ _ (sym c.deeper_at.ensures ∙ c.if-not-deeper_at.true)) (suc c.args.at)
    (omega arith) c.read_names.result c.read_names.ensures

pub returns-in_err-first : goal.returns-in_err-first
returns-in_err-first c =
    let p = err_from_is_err_and c.from_residual.result c.from_residual.ensures.1 in
    rw (p.1, p.2) (fails_leads _ _ _ (leads_if _ _ (sym c.deeper_at.ensures ∙ c.if-not-deeper_at.false)) _ (fails_then _ _ _ _ c.in_err-first.ensures))

pub returns : goal.returns
returns c =
    comes_leads (λ all. all.items) _ _ c.args.input.now (suc c.args.at)
    (leads_on (leads_then _ c.in_ok-first.ensures.runs) (leads_if _ _ (sym c.deeper_at.ensures ∙ c.if-not-deeper_at.false))) c.in_ok-first.first.next
    c.in_ok-first.ensures.goes c.read_more_members.result
    (subst (λ n. Comes (λ all. all.items) (λ k. run_more_members k (origin_of c.args.input.now) n (c.in_ok-first.first.value ∷ [])
    (from_at c.args.input.now c.in_ok-first.first.next)) c.args.input.now c.in_ok-first.first.next c.read_more_members.result)
    c.level_at-level.ensures c.read_more_members.ensures)

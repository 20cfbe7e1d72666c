use Rattle.std.proofs.Common.{refl, sym, ap, ◌∙◌, arith}
use Rattle.std.proofs.lemmas.Result.{err_from_is_err_and}
use Rattle.std.specs.Prelude.{map}
use Rattle.nim_tree.specs.Statements.{parameters_of}
use Rattle.parse_exprs.specs.declared.input.Bracket.TheVariants.{Round}
use Rattle.parse_exprs.specs.Look.{closes_at}
use Rattle.parse_decls.proofs.Coming.{fails_then, fails_leads, comes_leads, leads_on, leads_then, leads_if, leads_else, within_at, found_behind, found_is}
use Rattle.parse_decls.proofs.Coming.{none_found}
use Rattle.parse_decls.proofs.HeadSteps.{inside_leads}
use Rattle.parse_decls.proofs.head.read_params.Goals as goal

pub returns-then-not-opens_at : goal.returns-then-not-opens_at
returns-then-not-opens_at c = none_found c.args.input.now c.args.at _ (ap (map parameters_of) c.new.ensures.items)
    (sym c.opens_at.ensures ∙ c.if-not-opens_at.true) c.requires.within

pub returns-then-closes_at : goal.returns-then-closes_at
returns-then-closes_at c =
    let l = inside_leads c.args.input.now c.args.layout c.args.at (sym c.opens_at.ensures ∙ c.if-not-opens_at.false) in
    let e = sym c.closes_at.ensures ∙ c.if-closes_at.true in
    found_is (ap (map parameters_of) c.new-then-closes_at.ensures.items)
    (found_behind c.args.input.now _ _ (leads_on (leads_if _ _ e) l) (omega arith) (within_at (closes_at Round) refl _ c.args.input.now.tokens.now e))

pub returns-in_err-first : goal.returns-in_err-first
returns-in_err-first c =
    let p = err_from_is_err_and c.from_residual.result c.from_residual.ensures.1 in
    let l = inside_leads c.args.input.now c.args.layout c.args.at (sym c.opens_at.ensures ∙ c.if-not-opens_at.false) in
    rw (p.1, p.2)
    (fails_leads _ _ _ (leads_on (leads_else _ _ (sym c.closes_at.ensures ∙ c.if-closes_at.false)) l) _ (fails_then _ _ _ _ c.in_err-first.ensures))

pub returns : goal.returns
returns c =
    let l = inside_leads c.args.input.now c.args.layout c.args.at (sym c.opens_at.ensures ∙ c.if-not-opens_at.false) in
    let m = leads_on (leads_else _ _ (sym c.closes_at.ensures ∙ c.if-closes_at.false)) l in
    let g = c.in_ok-first.ensures.goes in
    comes_leads (λ all. map parameters_of all.items) _ _ c.args.input.now c.args.at (leads_on (leads_then _ c.in_ok-first.ensures.runs) m)
    c.in_ok-first.first.next (omega (arith, g)) c.read_more_params.result c.read_more_params.ensures

use Rattle.std.proofs.Common.{refl, sym, ◌∙◌, arith}
use Rattle.std.proofs.lemmas.Result.{err_from_is_err_and}
use Rattle.parse_exprs.specs.declared.input.Bracket.TheVariants.{Square}
use Rattle.parse_exprs.specs.declared.layout.Layout.TheVariants.{Brackets}
use Rattle.parse_exprs.specs.Look.{closes_at}
use Rattle.parse_exprs.specs.Input.{origin_of}
use Rattle.parse_decls.specs.Run.{run_names}
use Rattle.parse_decls.proofs.Coming.{fails_then, fails_leads, fails_stuck, fails_at, settles_at, leads_on, leads_then, leads_if, leads_unless, behind_at}
use Rattle.parse_decls.proofs.Coming.{within_at, found_behind}
use Rattle.parse_decls.proofs.name.read_generics.Goals as goal

pub returns-in_err-names : goal.returns-in_err-names
returns-in_err-names c =
    let p = err_from_is_err_and c.from_residual.result c.from_residual.ensures.1 in
    let b = behind_at c.args.at c.args.input.now.tokens.now in
    rw (p.1, p.2)
    (fails_leads _ _ _ (leads_if _ _ (sym c.opens_at.ensures ∙ c.if-not-opens_at.false))
    _ (fails_then _ _ _ _ (fails_at (λ ts k. run_names k (origin_of c.args.input.now) Brackets ts) _ _ b c.in_err-names.ensures)))

pub returns-then-not-closes_at : goal.returns-then-not-closes_at
returns-then-not-closes_at c =
    let b = behind_at c.args.at c.args.input.now.tokens.now in
    let h = settles_at (λ ts k. run_names k (origin_of c.args.input.now) Brackets ts) b c.in_ok-names.ensures.runs in
    fails_leads _ _ _ (leads_on (leads_then _ h) (leads_if _ _ (sym c.opens_at.ensures ∙ c.if-not-opens_at.false)))
    _ (fails_stuck _ _ _ (sym c.closes_at.ensures ∙ c.if-not-closes_at.true) _ c.stuck.ensures)

pub returns : goal.returns
returns c =
    let b = behind_at c.args.at c.args.input.now.tokens.now in
    let h = settles_at (λ ts k. run_names k (origin_of c.args.input.now) Brackets ts) b c.in_ok-names.ensures.runs in
    let e = sym c.closes_at.ensures ∙ c.if-not-closes_at.false in
    let g = c.in_ok-names.ensures.goes in
    found_behind c.args.input.now
    _ _ (leads_on (leads_unless _ _ e) (leads_on (leads_then _ h) (leads_if _ _ (sym c.opens_at.ensures ∙ c.if-not-opens_at.false)))) (omega (arith, g))
    (within_at (closes_at Square) refl _ c.args.input.now.tokens.now e)

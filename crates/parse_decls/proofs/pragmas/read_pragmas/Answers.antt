use Rattle.std.proofs.Common.{refl, sym, ◌∙◌, arith}
use Rattle.std.proofs.lemmas.Result.{err_from_is_err_and}
use Rattle.parse_exprs.specs.Look.{kind_at}
use Rattle.parse_exprs.specs.Input.{origin_of}
use Rattle.parse_decls.specs.Look.{is_pragma_close}
use Rattle.parse_decls.specs.Run.{run_pragma}
use Rattle.parse_decls.proofs.Coming.{fails_then, fails_leads, fails_stuck, fails_at, settles_at, leads_on, leads_then, leads_if, leads_unless, behind_at}
use Rattle.parse_decls.proofs.Coming.{within_at, found_behind}
use Rattle.parse_decls.proofs.Repeats.{pragmas_loop, loop_on, loop_fails, loop_ends, begins, only_one}
use Rattle.parse_decls.proofs.pragmas.read_pragmas.Goals as goal

pub returns-in_err-first : goal.returns-in_err-first
returns-in_err-first c =
    let p = err_from_is_err_and c.from_residual.result c.from_residual.ensures.1 in
    let b = behind_at c.args.at c.args.input.now.tokens.now in
    rw (p.1, p.2)
    (fails_leads _ _ _ (leads_if _ _ (sym c.pragmas_at.ensures ∙ c.if-not-pragmas_at.false))
    _ (fails_then _ _ _ _ (fails_at (λ ts k. run_pragma (origin_of c.args.input.now) ts) _ _ b c.in_err-first.ensures)))

pub loop-at-init : goal.loop-at-init
loop-at-init c =
    let b = behind_at c.args.at c.args.input.now.tokens.now in
    let h = settles_at (λ ts k. run_pragma (origin_of c.args.input.now) ts) b c.in_ok-first.ensures.runs in
    let g = c.in_ok-first.ensures.goes in
    begins (pragmas_loop (origin_of c.args.input.now)) _ c.args.input.now _ _ _ _ (only_one _ c.in_ok-pragmas.ensures.ok c.new-2.ensures.items)
    (leads_on (leads_then _ h) (leads_if _ _ (sym c.pragmas_at.ensures ∙ c.if-not-pragmas_at.false))) (omega (arith, g)) c.in_ok-first.ensures.within

pub returns-in_err-one : goal.returns-in_err-one
returns-in_err-one c =
    let p = err_from_is_err_and c.from_residual-in_err-one.result c.from_residual-in_err-one.ensures.1 in
    let b = behind_at c.loop-at.next c.args.input.now.tokens.now in
    rw (p.1, p.2) (loop_fails (pragmas_loop (origin_of c.args.input.now)) _ c.args.input.now _ _ _ _ _ b c.loop-at.invariant
    (sym c.comma_at.ensures ∙ c.loop-at-test.true) c.in_err-one.ensures)

pub loop-at-preserved : goal.loop-at-preserved
loop-at-preserved c =
    let b = behind_at c.loop-at.next c.args.input.now.tokens.now in
    loop_on (pragmas_loop (origin_of c.args.input.now)) _ c.args.input.now _ _ _ _ _ _ _ _ b refl (omega arith) c.loop-at.invariant
    (sym c.comma_at.ensures ∙ c.loop-at-test.true) c.in_ok-one.ensures c.in_ok-pragmas-2.ensures.ok

pub returns-then-not-pragmas_end_at : goal.returns-then-not-pragmas_end_at
returns-then-not-pragmas_end_at c =
    let h = loop_ends (pragmas_loop (origin_of c.args.input.now)) _ c.args.input.now _ _ _ c.loop-at.invariant
    (sym c.comma_at.ensures ∙ c.loop-at-test.false) in
    fails_leads _ _ _ h.leads _ (fails_stuck _ _ _ (sym c.pragmas_end_at.ensures ∙ c.if-not-pragmas_end_at.true) _ c.stuck.ensures)

pub returns : goal.returns
returns c =
    let h = loop_ends (pragmas_loop (origin_of c.args.input.now)) _ c.args.input.now _ _ _ c.loop-at.invariant
    (sym c.comma_at.ensures ∙ c.loop-at-test.false) in
    let e = sym c.pragmas_end_at.ensures ∙ c.if-not-pragmas_end_at.false in
    let g = h.goes in
    found_behind c.args.input.now _ _ (leads_on (leads_unless _ _ e) h.leads) (omega (arith, g))
    (within_at (kind_at is_pragma_close) refl _ c.args.input.now.tokens.now e)

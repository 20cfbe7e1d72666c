use Rattle.std.proofs.Common.{sym, ◌∙◌, refl, arith}
use Rattle.std.proofs.lemmas.Result.{err_from_is_err_and}
use Rattle.parse_exprs.specs.Input.{origin_of}
use Rattle.parse_decls.proofs.Coming.{fails_then, behind_at, found}
use Rattle.parse_decls.proofs.Repeats.{names_loop, loop_on, loop_fails, loop_ends}
use Rattle.parse_decls.proofs.name.read_names.Goals as goal

pub returns-in_err-first : goal.returns-in_err-first
returns-in_err-first c =
    let p = err_from_is_err_and c.from_residual.result c.from_residual.ensures.1 in
    rw (p.1, p.2) (fails_then _ _ _ _ c.in_err-first.ensures)

pub returns-in_err-one : goal.returns-in_err-one
returns-in_err-one c =
    let p = err_from_is_err_and c.from_residual-in_err-one.result c.from_residual-in_err-one.ensures.1 in
    let b = behind_at c.loop-alloc.next c.args.input.now.tokens.now in
    rw (p.1, p.2) (loop_fails (names_loop (origin_of c.args.input.now) c.args.layout) _ c.args.input.now _ _ _ _ _ b c.loop-alloc.invariant
    (sym c.comma_at.ensures ∙ c.loop-alloc-test.true) c.in_err-one.ensures)

pub loop-alloc-preserved : goal.loop-alloc-preserved
loop-alloc-preserved c =
    let b = behind_at c.loop-alloc.next c.args.input.now.tokens.now in
    loop_on (names_loop (origin_of c.args.input.now) c.args.layout) _ c.args.input.now _ _ _ _ _ _ _ _ b refl (omega arith) c.loop-alloc.invariant
    (sym c.comma_at.ensures ∙ c.loop-alloc-test.true) c.in_ok-one.ensures c.in_ok-names-2.ensures.ok

pub returns : goal.returns
returns c =
    let h = loop_ends (names_loop (origin_of c.args.input.now) c.args.layout) _ c.args.input.now _ _ _ c.loop-alloc.invariant
    (sym c.comma_at.ensures ∙ c.loop-alloc-test.false) in
    found _ _ h.leads h.goes h.within

use Rattle.std.proofs.Common.{refl, arith}
use Rattle.std.proofs.lemmas.Result.{err_from_is_err_and}
use Rattle.parse_exprs.specs.Input.{origin_of}
use Rattle.parse_decls.proofs.ForCallers.{found, loop_on, loop_fails, loop_ends}
use Rattle.parse_stmts.proofs.Loops.{modules_loop}
use Rattle.parse_stmts.proofs.simple.read_more_modules.Goals as goal

pub returns-in_err-one : goal.returns-in_err-one
returns-in_err-one c =
    let p = err_from_is_err_and c.from_residual-in_err-one.result c.from_residual-in_err-one.ensures.1 in
    let input = c.args.input.now in
    rw (p.1, p.2) (loop_fails (modules_loop (origin_of input) c.args.spaces) _ input _ _ _ _ _ c.in-Some.ensures.behind c.loop-behind.invariant
    c.in-Some.ensures.is c.in_err-one.ensures)

pub loop-behind-preserved : goal.loop-behind-preserved
loop-behind-preserved c =
    let input = c.args.input.now in
    loop_on (modules_loop (origin_of input) c.args.spaces) _ input _ _ _ _ _ _ _ _ c.in-Some.ensures.behind refl (omega (arith, c.in-Some.ensures.goes))
    c.loop-behind.invariant c.in-Some.ensures.is c.in_ok-one.ensures
    c.in_ok-names-2.ensures.ok

pub returns : goal.returns
returns c =
    let h = loop_ends (modules_loop (origin_of c.args.input.now) c.args.spaces) _ c.args.input.now _ _ _ c.loop-behind.invariant c.in_default.ensures in
    found _ _ h.leads h.goes h.within

use Rattle.std.proofs.Common.{arith}
use Rattle.parse_exprs.specs.Input.{origin_of}
use Rattle.parse_decls.proofs.ForCallers.{fails_then, fails_leads, leads_then, leads_on, leads_if, leads_else, found}
use Rattle.parse_stmts.specs.Run.{run_here}
use Rattle.parse_stmts.proofs.Steps.{fails_at, settles_at}
use Rattle.parse_stmts.proofs.heads.read_course.Goals as goal

pub returns-in-Err : goal.returns-in-Err
returns-in-Err c =
    let x = origin_of c.args.input.now in let h = c.in-Some.ensures in
    fails_leads _ _ _ (leads_on (leads_if _ _ h.is) (leads_then _ c.in_ok-first.ensures.runs))
    _ (fails_then _ _ _ _ (fails_at (λ ts k. run_here k x c.args.spaces ts) x h.behind _ c.in-Err.ensures))

pub returns-in-Some : goal.returns-in-Some
returns-in-Some c =
    let x = origin_of c.args.input.now in let h = c.in-Some.ensures in let last = c.in-Ok.ensures in
    found _ _ (leads_on (leads_then _ (settles_at (λ ts k. run_here k x c.args.spaces ts) h.behind last.runs))
    (leads_on (leads_if _ _ h.is) (leads_then _ c.in_ok-first.ensures.runs)))
    (omega (arith, h.goes, last.goes, c.in_ok-first.ensures.goes)) last.within

pub returns-in-Err-read_here : goal.returns-in-Err-read_here
returns-in-Err-read_here c =
    let x = origin_of c.args.input.now in let h = c.in-Some-past_below.ensures in
    fails_leads _ _ _ (leads_on (leads_if _ _ h.is) (leads_on (leads_else _ _ c.in_default.ensures) (leads_then _ c.in_ok-first.ensures.runs))) _
    (fails_then _ _ _ _ (fails_at (λ ts k. run_here k x c.args.spaces ts) x h.behind _ c.in-Err-read_here.ensures))

pub returns-in-Some-past_below : goal.returns-in-Some-past_below
returns-in-Some-past_below c =
    let x = origin_of c.args.input.now in let h = c.in-Some-past_below.ensures in let end = c.in-Ok-read_here.ensures in
    found _ _ (leads_on (leads_then _ (settles_at (λ ts k. run_here k x c.args.spaces ts) h.behind end.runs))
    (leads_on (leads_if _ _ h.is) (leads_on (leads_else _ _ c.in_default.ensures) (leads_then _ c.in_ok-first.ensures.runs))))
    (omega (arith, h.goes, end.goes, c.in_ok-first.ensures.goes)) end.within

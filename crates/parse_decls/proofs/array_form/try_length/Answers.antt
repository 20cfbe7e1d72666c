use Rattle.std.proofs.Common.{sym, ◌∙◌, arith}
use Rattle.parse_exprs.specs.Input.{from_at}
use Rattle.parse_decls.proofs.LengthSteps.{types_found, length_found, length_fails, opened_fails, stuck_found}
use Rattle.parse_decls.proofs.array_form.try_length.Goals as goal

pub returns-then-not-comma_at : goal.returns-then-not-comma_at
returns-then-not-comma_at c = types_found c.args.input.now (from_at c.args.input.now c.args.whole) c.args.left c.args.at c.in-Ok.ensures.runs
    (sym c.comma_at.ensures ∙ c.if-not-comma_at.true) c.requires.within

pub returns-then-levels-left : goal.returns-then-levels-left
returns-then-levels-left c =
    let e = c.levels.ensures in let t = c.if-levels-left.true in
    length_fails c.args.input.now (from_at c.args.input.now c.args.whole) c.args.left c.args.at c.in-Ok.ensures.runs
    (sym c.comma_at.ensures ∙ c.if-not-comma_at.false) (omega (arith, e, t)) _ c.too_deep.ensures

pub returns-else-levels-left : goal.returns-else-levels-left
returns-else-levels-left c =
    let e = c.levels.ensures in let t = c.if-levels-left.false in let f = c.in-Ok.ensures.reads.few in let g = c.in-Ok.ensures.reads.goes in
    length_found c.args.input.now (from_at c.args.input.now c.args.whole) c.args.left c.args.at _ c.in-Ok.ensures.runs
    (sym c.comma_at.ensures ∙ c.if-not-comma_at.false) (omega (arith, e, t, f)) (omega (arith, g))

pub returns-in-NestTooDeep : goal.returns-in-NestTooDeep
returns-in-NestTooDeep c =
    opened_fails c.args.input.now (from_at c.args.input.now c.args.whole) c.args.left c.args.at _ c.in-Err-Refused.code _ c.in-Err-Refused.field-0-is
    c.in-Err-Refused.ensures.runs c.in-NestTooDeep.is _ c.too_deep-in-NestTooDeep.ensures

pub returns-in_default : goal.returns-in_default
returns-in_default c =
    stuck_found c.args.input.now (from_at c.args.input.now c.args.whole) c.args.left c.args.at _ c.in-Err-Refused.code _ c.in-Err-Refused.field-0-is
    c.in-Err-Refused.ensures.runs c.in_default.not-NestTooDeep c.requires.within

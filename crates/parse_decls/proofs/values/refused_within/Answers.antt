use Rattle.parse_exprs.specs.Input.{origin_of, from_at}
use Rattle.parse_decls.proofs.Steps.{deep_fails, other_fails}
use Rattle.parse_decls.proofs.values.refused_within.Goals as goal

pub returns-in-NestTooDeep : goal.returns-in-NestTooDeep
returns-in-NestTooDeep c =
    deep_fails (origin_of c.args.input.now) (from_at c.args.input.now c.args.whole) (from_at c.args.input.now c.args.at) c.args.stop _ _ c.in-Refused.is
    c.in-NestTooDeep.is _ c.too_deep.ensures

pub returns-in_default : goal.returns-in_default
returns-in_default c =
    other_fails (origin_of c.args.input.now) (from_at c.args.input.now c.args.whole) (from_at c.args.input.now c.args.at) c.args.stop _ _ c.in-Refused.is
    c.in_default.not-NestTooDeep

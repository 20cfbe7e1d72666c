use Rattle.parse_exprs.specs.Input.{origin_of, from_at}
use Rattle.parse_exprs.specs.Parsed.{ExprRun}
use Rattle.parse_decls.proofs.Steps.{none_given, of_settles}
use Rattle.parse_decls.proofs.values.read_within.Goals as goal

pub returns-then-at-tokens : goal.returns-then-at-tokens
returns-then-at-tokens c = none_given c.args.input.now c.args.layout (from_at c.args.input.now c.args.whole) c.args.left c.args.at c.if-at-tokens.true
    _ c.stuck.ensures

pub returns-in-Err : goal.returns-in-Err
returns-in-Err c = c.refused_within.ensures (ExprRun (origin_of c.args.input.now) c.args.layout c.args.left) c.in-Err.ensures.runs

pub returns-in-Ok : goal.returns-in-Ok
returns-in-Ok c = record {
  runs = of_settles (from_at c.args.input.now c.args.whole) c.in-Ok.ensures.runs;
  goes = c.in-Ok.ensures.reads.goes;
  within = c.in-Ok.ensures.reads.within;
}

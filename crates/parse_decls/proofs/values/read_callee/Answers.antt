use Rattle.std.proofs.lemmas.Result.{err_from_is_err_and}
use Rattle.parse_exprs.specs.Input.{origin_of, from_at}
use Rattle.parse_exprs.specs.Parsed.{CalleeRun}
use Rattle.parse_decls.proofs.Steps.{none_called, value_stops, of_settles}
use Rattle.parse_decls.proofs.values.read_callee.Goals as goal

pub returns-then-at-tokens : goal.returns-then-at-tokens
returns-then-at-tokens c = none_called c.args.input.now c.args.spaces c.args.at c.if-at-tokens.true _ c.stuck.ensures

pub returns-in_err-parsed : goal.returns-in_err-parsed
returns-in_err-parsed c =
    let p = err_from_is_err_and c.from_residual.result c.from_residual.ensures.1 in
    rw (p.1, p.2) (value_stops (CalleeRun (origin_of c.args.input.now) c.args.spaces) _ (from_at c.args.input.now c.args.at) _ c.in_err-parsed.ensures.runs)

pub returns : goal.returns
returns c = record {
  runs = of_settles (from_at c.args.input.now c.args.at) c.in_ok-parsed.ensures.runs;
  goes = c.in_ok-parsed.ensures.reads.goes;
  within = c.in_ok-parsed.ensures.reads.within;
}

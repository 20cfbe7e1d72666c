use Rattle.std.proofs.lemmas.Result.{err_from_is_err_and}
use Rattle.parse_exprs.specs.Parsed.{origin}
use Rattle.parse_stmts.proofs.Verdicts.{module_read, module_once}
use Rattle.parse_stmts.proofs.Depth.{module_few}
use Rattle.parse_stmts.proofs.Sizes.{module_nodes}
use Rattle.parse_stmts.proofs.Refusals.{module_refused}
use Rattle.parse_stmts.proofs.tree.parse.Goals as goal

pub returns-in_err-read-clause-refused : goal.returns-in_err-read-clause-refused
returns-in_err-read-clause-refused c =
    let p = err_from_is_err_and c.from_residual.result c.from_residual.ensures.1 in
    rw (p.1, p.2) (module_refused (origin c.args.source.now c.args.«module») c.args.tokens.now _ c.in_err-read.ensures)

pub returns-clause-reads : goal.returns-clause-reads
returns-clause-reads c = module_read c.in_ok-read.ensures.runs

pub returns-clause-only : goal.returns-clause-only
returns-clause-only c = λ all d. module_once d (module_read c.in_ok-read.ensures.runs)

pub returns-clause-few : goal.returns-clause-few
returns-clause-few c = module_few {x = origin c.args.source.now c.args.«module»} {tokens = c.args.tokens.now} (module_read c.in_ok-read.ensures.runs)

pub returns-clause-nodes : goal.returns-clause-nodes
returns-clause-nodes c = module_nodes (module_read c.in_ok-read.ensures.runs)

use Rattle.std.proofs.Common.{sym, ◌∙◌}
use Rattle.std.proofs.lemmas.Result.{err_from_is_err_and}
use Rattle.parse_exprs.specs.Input.{from_at, origin_of}
use Rattle.parse_stmts.proofs.Modules.{module_ends, module_is_stuck, module_fails}
use Rattle.parse_stmts.proofs.tree.read_module.Goals as goal

pub returns-in_err-all : goal.returns-in_err-all
returns-in_err-all c =
    let p = err_from_is_err_and c.from_residual.result c.from_residual.ensures.1 in let input = c.args.input.now in
    rw (p.1, p.2) (module_fails (origin_of input) _ (from_at input 0) c.level_at-spaces.ensures _ c.in_err-all.ensures)

pub returns-then-end_at : goal.returns-then-end_at
returns-then-end_at c = let input = c.args.input.now in let h = c.in_ok-all.ensures in record {
  runs = module_ends (origin_of input) _ (from_at input 0) _ _ c.level_at-spaces.ensures h.runs (sym c.end_at.ensures ∙ c.if-end_at.true);
  goes = h.goes;
  within = h.within;
}

pub returns-else-end_at : goal.returns-else-end_at
returns-else-end_at c = let input = c.args.input.now in
    module_is_stuck (origin_of input) _ (from_at input 0) _ _ c.level_at-spaces.ensures c.in_ok-all.ensures.runs (sym c.end_at.ensures ∙ c.if-end_at.false)
    _ c.stuck.ensures

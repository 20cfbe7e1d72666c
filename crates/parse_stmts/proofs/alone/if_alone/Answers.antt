use Rattle.std.proofs.Common.{sym, ◌∙◌}
use Rattle.parse_exprs.specs.Input.{origin_of, from_at}
use Rattle.parse_decls.proofs.ForCallers.{told_fails}
use Rattle.parse_stmts.proofs.OnlyExpr.{deep_settles}
use Rattle.parse_stmts.proofs.alone.if_alone.Goals as goal

pub returns-then-not-fits-clause-runs : goal.returns-then-not-fits-clause-runs
returns-then-not-fits-clause-runs c = λ run h.
    told_fails (origin_of c.args.input.now)
    (deep_settles c.args.spaces (from_at c.args.input.now c.args.at) h (sym c.line_over.ensures ∙ c.if-not-line_over.false)
    (sym c.fits.ensures ∙ c.if-not-fits.true)) _ c.too_deep.ensures

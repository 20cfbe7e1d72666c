use Rattle.std.proofs.Common.{sym, ◌∙◌, arith}
use Rattle.std.proofs.lemmas.Result.{err_from_is_err_and}
use Rattle.parse_exprs.specs.Input.{from_at}
use Rattle.parse_decls.proofs.Coming.{comes_leads}
use Rattle.parse_decls.proofs.LengthSteps.{try_leads, due_fails, comma_fails, due_found}
use Rattle.parse_decls.proofs.array_form.read_length.Goals as goal

pub returns-then-type_at : goal.returns-then-type_at
returns-then-type_at c =
    comes_leads _ _ _ c.args.input.now _ (try_leads c.args.input.now (from_at c.args.input.now c.args.whole) c.args.left c.args.at
    (sym c.type_at.ensures ∙ c.if-type_at.true)) _ (omega arith) _ c.try_length.ensures

pub returns-in_err-length : goal.returns-in_err-length
returns-in_err-length c =
    let p = err_from_is_err_and c.from_residual.result c.from_residual.ensures.1 in
    rw (p.1, p.2) (due_fails c.args.input.now (from_at c.args.input.now c.args.whole) c.args.left c.args.at (sym c.type_at.ensures ∙ c.if-type_at.false)
    _ c.in_err-length.ensures)

pub returns-then-not-comma_at : goal.returns-then-not-comma_at
returns-then-not-comma_at c =
    comma_fails c.args.input.now (from_at c.args.input.now c.args.whole) c.args.left c.args.at _ _ _ (sym c.type_at.ensures ∙ c.if-type_at.false)
    c.in_ok-length.ensures
    (sym c.comma_at.ensures ∙ c.if-not-comma_at.true) _ c.stuck.ensures

pub returns : goal.returns
returns c =
    due_found c.args.input.now (from_at c.args.input.now c.args.whole) c.args.left c.args.at _ _ _ (sym c.type_at.ensures ∙ c.if-type_at.false)
    c.in_ok-length.ensures
    (sym c.comma_at.ensures ∙ c.if-not-comma_at.false) (omega arith)

use Rattle.std.proofs.Common.{◌∙◌, sym, ap, ap₂}
use Rattle.std.specs.Prelude.{option_map}
use Rattle.nim_program.specs.Program.{ByValue, NoArg}
use Rattle.nim_program.specs.View.{expr_of, operand_before, if_value, picks_of}
use Rattle.nim_program.specs.Folds.{total, totals}
use Rattle.nim_program.specs.FoldParts.{with_parts}
use Rattle.nim_program.proofs.ExprRows.{applied, called, constructed, chosen, selected}
use Rattle.nim_program.proofs.fold_exprs.+exprs.Goals as goal

pub with_parts-returns-in-Apply : goal.with_parts-returns-in-Apply
with_parts-returns-in-Apply g t c =
    let given = c.in-Apply in
    let ts = g.F.Fold.types c.args.fold.now in
    let sum = g.F.Fold.sum c.args.fold.now in
    let with = with_parts sum (g.F.Fold.own c.args.fold.now) c.args.own in
    let whole = ap (λ e. with (expr_of ts e)) given.is ∙ ap with (applied ts given.node given.ty given.operation given.operands) in
    c.plus.ensures ∙ ap (sum.plus c.args.own) c.totals.ensures ∙ sym whole

pub with_parts-returns-in-Call : goal.with_parts-returns-in-Call
with_parts-returns-in-Call g t c =
    let given = c.in-Call in
    let ts = g.F.Fold.types c.args.fold.now in
    let sum = g.F.Fold.sum c.args.fold.now in
    let with = with_parts sum (g.F.Fold.own c.args.fold.now) c.args.own in
    let whole = ap (λ e. with (expr_of ts e)) given.is ∙ ap with (called ts given.node given.ty given.proc given.types given.operands) in
    c.plus-in-Call.ensures ∙ ap (sum.plus c.args.own) c.totals-in-Call.ensures ∙ sym whole

pub with_parts-returns-in-Construct : goal.with_parts-returns-in-Construct
with_parts-returns-in-Construct g t c =
    let given = c.in-Construct in
    let ts = g.F.Fold.types c.args.fold.now in
    let sum = g.F.Fold.sum c.args.fold.now in
    let with = with_parts sum (g.F.Fold.own c.args.fold.now) c.args.own in
    let whole = ap (λ e. with (expr_of ts e)) given.is ∙ ap with (constructed ts given.node given.ty given.fields given.operands) in
    c.plus-in-Construct.ensures ∙ ap (sum.plus c.args.own) c.totals-in-Construct.ensures ∙ sym whole

pub with_parts-returns-in-If : goal.with_parts-returns-in-If
with_parts-returns-in-If g t c =
    let given = c.in-If in
    let ts = g.F.Fold.types c.args.fold.now in
    let sum = g.F.Fold.sum c.args.fold.now in
    let own = g.F.Fold.own c.args.fold.now in
    let with = with_parts sum own c.args.own in
    let whole = ap (λ e. with (expr_of ts e)) given.is ∙ ap with (chosen ts given.node given.ty given.branches given.otherwise) in
    let last = c.plus-last.ensures
    ∙ ap₂ sum.plus (c.total-in-If.ensures ∙ ap (λ e. total sum own (expr_of ts e)) c.deref-in-If.ensures) c.none-in-If.ensures in
    let parts = c.choice_totals.ensures (ByValue (expr_of ts given.otherwise.value) NoArg) last in
    c.plus-in-If.ensures ∙ ap (sum.plus c.args.own) parts ∙ sym whole

pub with_parts-returns-in-Case : goal.with_parts-returns-in-Case
with_parts-returns-in-Case g t c =
    let given = c.in-Case in
    let ts = g.F.Fold.types c.args.fold.now in
    let sum = g.F.Fold.sum c.args.fold.now in
    let own = g.F.Fold.own c.args.fold.now in
    let with = with_parts sum own c.args.own in
    let whole = ap (λ e. with (expr_of ts e)) given.is ∙ ap with (selected ts given.node given.ty given.selector given.branches given.otherwise) in
    let last = if_value ts (option_map (λ v. v.value) given.otherwise) in
    let values = c.pick_totals-values.ensures last c.else_total.ensures in
    let parts = c.operand_total.ensures (picks_of ts given.branches.items last) values
    ∙ ap (λ a. totals sum own (operand_before ts a (picks_of ts given.branches.items last))) c.deref-in-Case.ensures in
    c.plus-in-Case.ensures ∙ ap (sum.plus c.args.own) parts ∙ sym whole

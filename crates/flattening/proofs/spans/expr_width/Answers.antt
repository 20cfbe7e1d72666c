use Rattle.std.proofs.Common.{◌≡◌, length, sym, ap, ◌∙◌, arith}
use Rattle.std.specs.Prelude.{option_map}
use Rattle.nim_program.specs.Folds.{numbers, capped}
use Rattle.nim_program.specs.FoldParts.{seen_of, own_if}
use Rattle.nim_program.specs.Program as T
use Rattle.nim_program.specs.Program.{ByLabels}
use Rattle.nim_program.specs.View.{expr_of, operand_before, picks_of, pick_labels, if_value, if_type}
use Rattle.nim_program.proofs.ForCallers.{selected}
use Rattle.flattening.specs.declared.spans.TheConstants.{MOST}
use Rattle.flattening.specs.Numbering.{own_width}
use Rattle.flattening.proofs.ExprPuts.{pick_count}
use Rattle.flattening.proofs.Widths.{case_one}
use Rattle.flattening.proofs.spans.expr_width.Goals as goal

pub returns-in-Case : goal.returns-in-Case
returns-in-Case c ts =
    let given = c.in-Case in
    let labels = pick_labels given.branches.items in
    let rest = picks_of ts given.branches.items (if_value ts (option_map (λ v. v.value) given.otherwise)) in
    let whole = ap (expr_of ts) given.is ∙ selected ts given.node given.ty given.selector given.branches given.otherwise
    ∙ ap (λ x. T.Choose given.node (if_type ts given.ty) (ByLabels labels) (operand_before ts x rest)) (sym c.deref-selector.ensures) in
    let many : length labels ≡ c.len.result = omega (arith, pick_count given.branches.items, c.len.ensures) in
    c.case_width.ensures ts labels many
    ∙ ap (capped MOST) (sym (ap (λ e. own_if numbers own_width (seen_of e)) whole
    ∙ case_one ts given.node (if_type ts given.ty) labels c.deref-selector.result.now rest))

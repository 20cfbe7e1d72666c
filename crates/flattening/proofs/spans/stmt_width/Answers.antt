use Rattle.std.proofs.Common.{◌≡◌, length, sym, ap, ◌∙◌, arith}
use Rattle.nim_program.specs.Folds.{numbers, capped, is_headed}
use Rattle.nim_program.specs.FoldParts.{seen_first, own_if}
use Rattle.nim_program.specs.Program.{Empty}
use Rattle.nim_program.specs.View.{operands_of, stmt_before, branch_labels}
use Rattle.nim_program.proofs.ForCallers.{selected_statement, repeated}
use Rattle.flattening.specs.declared.spans.TheConstants.{MOST}
use Rattle.flattening.specs.Numbering.{own_width}
use Rattle.flattening.proofs.StmtPuts.{label_count}
use Rattle.flattening.proofs.spans.stmt_width.Goals as goal

pub returns-in-Case : goal.returns-in-Case
returns-in-Case c ts =
    let given = c.in-Case in
    let whole = ap (λ s. stmt_before ts s Empty) given.is ∙ selected_statement ts given.node Empty given.selector given.branches given.otherwise in
    let labels = branch_labels given.branches.items in
    let many : length labels ≡ c.len.result = omega (arith, label_count given.branches.items, c.len.ensures) in
    c.case_width.ensures ts labels many
    ∙ sym (ap (λ b. capped MOST (own_if numbers own_width (seen_first b))) whole)

pub returns-in-Loop : goal.returns-in-Loop
returns-in-Loop c ts =
    let given = c.in-Loop in
    let whole = ap (λ s. stmt_before ts s Empty) given.is ∙ repeated ts given.node Empty given.kind given.head given.body in
    c.loop_width.ensures ts (is_headed (operands_of ts given.head.items))
    ∙ sym (ap (λ b. capped MOST (own_if numbers own_width (seen_first b))) whole)

use Rattle.std.proofs.Common.{[], refl, sym, ap, ◌∙◌}
use Rattle.std.specs.Prelude.{map, Err}
use Rattle.nim_program.specs.View.{expr_of}
use Rattle.expr_rules.specs.Answers.{node}
use Rattle.expr_rules.specs.Builtins.{first_row, operation_by, operation_rule}
use Rattle.expr_parts.specs.View.{operand_of, no_fit_at}
use Rattle.expr_operations.specs.ViewOperations.{rows_in, rows_of}
use Rattle.expr_parts.proofs.ForCallers.{answers_as}
use Rattle.expr_operations.proofs.Written.{misses}
use Rattle.expr_operations.proofs.built_in_calls.operation_rule.Goals as goal

pub returns-in-Some-clause-answers : goal.returns-in-Some-clause-answers
returns-in-Some-clause-answers c = λ ts facts u.
    let n = node c.args.number c.args.at in
    let os = map (operand_of ts) c.args.operands.items in
    answers_as (expr_of ts) (operation_rule n c.args.name.now os) (operation_by c.args.at os (first_row n (rows_of c.in-Some.operation) os)) c.on_given.result
    (ap (λ rows. operation_by c.args.at os (first_row n rows os)) (c.operation_named.ensures ∙ ap rows_in c.in-Some.is))
    (c.on_given.ensures.answers ts facts u (ap (no_fit_at c.args.at) (sym c.as_slice.ensures.value) ∙ c.place_of_no_fit-place.ensures))

pub returns-in-None-clause-answers : goal.returns-in-None-clause-answers
returns-in-None-clause-answers c = λ ts facts u.
    let n = node c.args.number c.args.at in
    let items = c.args.operands.items in
    let os = map (operand_of ts) items in
    answers_as (expr_of ts) (operation_rule n c.args.name.now os) (operation_by c.args.at os (first_row n [] os)) (Err c.refusal.result)
    (ap (λ rows. operation_by c.args.at os (first_row n rows os)) (c.operation_named.ensures ∙ ap rows_in c.in-None.is))
    (misses ts c.args.at c.place_of_no_fit-place.result items (first_row n [] os) c.refusal.result refl
    (ap (no_fit_at c.args.at) (sym c.as_slice.ensures.value) ∙ c.place_of_no_fit-place.ensures) c.refusal.ensures)

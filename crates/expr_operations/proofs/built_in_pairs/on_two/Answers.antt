use Rattle.std.proofs.Common.{◌≡◌, [], ◌∷◌, sym, subst, ap, ◌∙◌}
use Rattle.arc_base.specs.Refusal.{Answers}
use Rattle.nim_types.specs.Table.{type_at}
use Rattle.nim_program.specs.View.{expr_of}
use Rattle.expr_parts.specs.declared.value.Operand.{Operand}
use Rattle.expr_rules.specs.Answers.{node}
use Rattle.expr_rules.specs.Builtins.{first_row, operation_by}
use Rattle.expr_parts.specs.View.{operand_of, no_fit_at}
use Rattle.expr_operations.specs.ViewOperations.{rows_of}
use Rattle.expr_operations.proofs.Written.{misses, open_rows, type_rows}
use Rattle.expr_operations.proofs.built_in_pairs.on_two.Goals as goal

pub returns-in-Value-clause-answers : goal.returns-in-Value-clause-answers
returns-in-Value-clause-answers c = λ ts facts u e.
    let n = node c.args.number c.args.at in
    let r = operand_of ts c.args.right in
    subst
    (λ (o : Operand). Answers (expr_of ts)
    (operation_by c.args.at (operand_of ts o ∷ r ∷ []) (first_row n (rows_of c.args.operation) (operand_of ts o ∷ r ∷ [])))
    c.on_value_and.result)
    (sym c.in-Value.is)
    (c.on_value_and.ensures.answers ts facts u (subst (λ o. no_fit_at c.args.at (o ∷ c.args.right ∷ []) ≡ c.args.place) c.in-Value.is e))

pub returns-in-Input-clause-answers : goal.returns-in-Input-clause-answers
returns-in-Input-clause-answers c = λ ts facts u e.
    let n = node c.args.number c.args.at in
    let r = operand_of ts c.args.right in
    subst
    (λ (o : Operand). Answers (expr_of ts)
    (operation_by c.args.at (operand_of ts o ∷ r ∷ []) (first_row n (rows_of c.args.operation) (operand_of ts o ∷ r ∷ [])))
    c.on_input_and.result)
    (sym c.in-Input.is)
    (c.on_input_and.ensures.answers ts facts u (subst (λ o. no_fit_at c.args.at (o ∷ c.args.right ∷ []) ≡ c.args.place) c.in-Input.is e))

pub returns-in-Open-clause-answers : goal.returns-in-Open-clause-answers
returns-in-Open-clause-answers c = λ ts facts u e.
    let n = node c.args.number c.args.at in
    let r = operand_of ts c.args.right in
    let rows = rows_of c.args.operation in
    misses ts c.args.at c.args.place (c.args.left ∷ c.args.right ∷ []) (first_row n rows (operand_of ts c.args.left ∷ r ∷ [])) c.refusal.result
    (ap (λ (o : Operand). first_row n rows (operand_of ts o ∷ r ∷ [])) c.in-Open.is ∙ open_rows n rows c.in-Open.at c.in-Open.number (r ∷ [])) e
    c.refusal.ensures

pub returns-in-Type-clause-answers : goal.returns-in-Type-clause-answers
returns-in-Type-clause-answers c = λ ts facts u e.
    let n = node c.args.number c.args.at in
    let r = operand_of ts c.args.right in
    let rows = rows_of c.args.operation in
    misses ts c.args.at c.args.place (c.args.left ∷ c.args.right ∷ [])
    (first_row n rows (operand_of ts c.args.left ∷ r ∷ [])) c.refusal-in-Type.result
    (ap (λ (o : Operand). first_row n rows (operand_of ts o ∷ r ∷ [])) c.in-Type.is ∙ type_rows n rows (type_at ts c.in-Type.field-0) r) e
    c.refusal-in-Type.ensures

use Rattle.std.proofs.Common.{[], ◌∷◌, ap, ◌∙◌}
use Rattle.nim_program.specs.View.{expr_of}
use Rattle.expr_operations.specs.declared.built_in.Second.TheVariants as second
use Rattle.expr_parts.specs.declared.value.Operand.TheVariants as operand
use Rattle.expr_rules.specs.Answers.{node, value}
use Rattle.expr_rules.specs.Builtins.{first_row, operation_by}
use Rattle.expr_parts.specs.View.{operand_of, valued_of}
use Rattle.expr_operations.specs.ViewOperations.{rows_of, second_rows}
use Rattle.expr_parts.proofs.ForCallers.{answers_as}
use Rattle.expr_operations.proofs.Written.{misses}
use Rattle.expr_operations.proofs.built_in_pairs.on_value_and.Goals as goal

pub returns-in-Value-clause-answers : goal.returns-in-Value-clause-answers
returns-in-Value-clause-answers c = λ ts facts u e.
    let n = node c.args.number c.args.at in
    let v = valued_of ts c.args.left in
    let o = operand_of ts c.args.right in
    let os = value v ∷ o ∷ [] in
    answers_as (expr_of ts) (operation_by c.args.at os (first_row n (rows_of c.args.operation) os))
    (operation_by c.args.at os (first_row n (second_rows (second.Value c.in-Value.join)) os)) c.on_place_and_value.result
    (ap (operation_by c.args.at os) (c.second_of.ensures ts n v o (c.entry.ensures.means ts facts u) ∙ ap (λ s. first_row n (second_rows s) os) c.in-Value.is))
    (c.on_place_and_value.ensures.answers ts facts u e)

pub returns-in-Place-clause-answers : goal.returns-in-Place-clause-answers
returns-in-Place-clause-answers c = λ ts facts u e.
    let n = node c.args.number c.args.at in
    let v = valued_of ts c.args.left in
    let o = operand_of ts c.args.right in
    let os = value v ∷ o ∷ [] in
    answers_as (expr_of ts) (operation_by c.args.at os (first_row n (rows_of c.args.operation) os))
    (operation_by c.args.at os (first_row n (second_rows second.Place) os)) c.on_places.result
    (ap (operation_by c.args.at os) (c.second_of.ensures ts n v o (c.entry.ensures.means ts facts u) ∙ ap (λ s. first_row n (second_rows s) os) c.in-Place.is))
    (c.on_places.ensures.answers ts facts u e)

pub returns-in-Nothing-clause-answers : goal.returns-in-Nothing-clause-answers
returns-in-Nothing-clause-answers c = λ ts facts u e.
    let n = node c.args.number c.args.at in
    let v = valued_of ts c.args.left in
    let o = operand_of ts c.args.right in
    let os = value v ∷ o ∷ [] in
    misses ts c.args.at c.args.place (operand.Value c.args.left ∷ c.args.right ∷ []) (first_row n (rows_of c.args.operation) os) c.refusal.result
    (c.second_of.ensures ts n v o (c.entry.ensures.means ts facts u) ∙ ap (λ s. first_row n (second_rows s) os) c.in-Nothing.is) e c.refusal.ensures

use Rattle.std.proofs.Common.{[], ◌∷◌, ap, ◌∙◌}
use Rattle.std.specs.Prelude.{Some}
use Rattle.arc_base.specs.declared.place.Code.TheVariants.{NotTyped}
use Rattle.nim_types.specs.Table.{type_at}
use Rattle.nim_program.specs.View.{expr_of}
use Rattle.expr_rules.specs.Answers.{node, a_type}
use Rattle.expr_rules.specs.Builtins.{first_row, operation_by}
use Rattle.expr_operations.specs.ViewOperations.{rows_of, type_rows}
use Rattle.expr_parts.proofs.ForCallers.{answers_as, refuses}
use Rattle.expr_operations.proofs.built_in_calls.on_type.Goals as goal

pub returns-in-Some-clause-answers : goal.returns-in-Some-clause-answers
returns-in-Some-clause-answers c = λ ts facts u.
    let n = node c.args.number c.args.at in
    let t = type_at ts c.args.ty in
    let os = a_type t ∷ [] in
    answers_as (expr_of ts) (operation_by c.args.at os (first_row n (rows_of c.args.operation) os))
    (operation_by c.args.at os (first_row n (type_rows (Some c.in-Some.makes)) os)) c.of_type.result
    (ap (operation_by c.args.at os) (c.makes_of_type.ensures n t ∙ ap (λ o. first_row n (type_rows o) os) c.in-Some.is))
    (c.of_type.ensures.answers ts facts u)

pub returns-in-None-clause-answers : goal.returns-in-None-clause-answers
returns-in-None-clause-answers c = λ ts facts u.
    let n = node c.args.number c.args.at in
    let t = type_at ts c.args.ty in
    let os = a_type t ∷ [] in
    refuses (expr_of ts) (operation_by c.args.at os (first_row n (rows_of c.args.operation) os)) NotTyped c.args.at c.refusal.result c.refusal.ensures
    (ap (operation_by c.args.at os) (c.makes_of_type.ensures n t ∙ ap (λ o. first_row n (type_rows o) os) c.in-None.is))

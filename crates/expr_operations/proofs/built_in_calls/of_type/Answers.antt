use Rattle.std.proofs.Common.{[], ◌∷◌, ap, sym, subst, ◌∙◌, length}
use Rattle.std.specs.Prelude.{Some, Ok}
use Rattle.arc_base.specs.Refusal.{Answers}
use Rattle.nim_types.specs.Table.{type_at, IsBelow}
use Rattle.nim_program.specs.declared.operation.Operation.TheVariants as operation
use Rattle.nim_program.specs.Nodes.{doing}
use Rattle.nim_program.specs.View.{expr_of, operands_of}
use Rattle.expr_rules.specs.Answers.{node, a_type}
use Rattle.expr_rules.specs.Builtins.{first_row, operation_by}
use Rattle.expr_operations.specs.ViewOperations.{type_rows}
use Rattle.expr_operations.proofs.built_in_calls.of_type.Goals as goal

pub returns-in-Least-clause-answers : goal.returns-in-Least-clause-answers
returns-in-Least-clause-answers c = λ ts facts u.
    let n = node c.args.number c.args.at in
    let os = a_type (type_at ts c.args.ty) ∷ [] in
    subst (λ m. Answers (expr_of ts) (operation_by c.args.at os (first_row n (type_rows (Some m)) os)) c.limit.result) (sym c.in-Least.is)
    (c.limit.ensures.answers ts facts u)

pub returns-in-Greatest-clause-answers : goal.returns-in-Greatest-clause-answers
returns-in-Greatest-clause-answers c = λ ts facts u.
    let n = node c.args.number c.args.at in
    let os = a_type (type_at ts c.args.ty) ∷ [] in
    subst (λ m. Answers (expr_of ts) (operation_by c.args.at os (first_row n (type_rows (Some m)) os)) c.limit-in-Greatest.result) (sym c.in-Greatest.is)
    (c.limit-in-Greatest.ensures.answers ts facts u)

pub returns-in-Default-clause-answers : goal.returns-in-Default-clause-answers
returns-in-Default-clause-answers c = λ ts facts u.
    let n = node c.args.number c.args.at in
    let os = a_type (type_at ts c.args.ty) ∷ [] in
    ap (λ m. operation_by c.args.at os (first_row n (type_rows (Some m)) os)) c.in-Default.is
    ∙ ap (λ xs. Ok (doing n (type_at ts c.args.ty) operation.Default (operands_of ts xs))) (sym c.new.ensures.items)
    ∙ ap Ok (sym (c.applied.ensures.expr ts))

pub returns-in-Default-clause-within : goal.returns-in-Default-clause-within
returns-in-Default-clause-within c = subst (IsBelow (length c.args.types.now)) (sym c.applied.ensures.number) c.requires.ty

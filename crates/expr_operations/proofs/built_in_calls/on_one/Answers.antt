use Rattle.std.proofs.Common.{[], ◌∷◌, sym, subst, ap, ◌∙◌, length}
use Rattle.arc_base.specs.declared.place.Code.TheVariants.{NotTyped}
use Rattle.arc_base.specs.Refusal.{Answers}
use Rattle.nim_program.specs.View.{expr_of}
use Rattle.expr_parts.specs.declared.value.Operand.{Operand}
use Rattle.expr_parts.specs.declared.value.Operand.TheVariants as operand
use Rattle.expr_rules.specs.Answers.{node}
use Rattle.expr_rules.specs.Builtins.{first_row, operation_by}
use Rattle.expr_parts.specs.View.{operand_of}
use Rattle.expr_operations.specs.ViewOperations.{rows_of}
use Rattle.expr_parts.proofs.ForCallers.{refuses}
use Rattle.expr_parts.proofs.ForCallers.{text_under, text_below}
use Rattle.expr_operations.proofs.Written.{open_rows}
use Rattle.expr_operations.proofs.built_in_calls.on_one.Goals as goal

pub returns-in-Value-clause-answers : goal.returns-in-Value-clause-answers
returns-in-Value-clause-answers c = λ ts facts u.
    let n = node c.args.number c.args.at in
    subst
    (λ (o : Operand). Answers (expr_of ts)
    (operation_by c.args.at (operand_of ts o ∷ []) (first_row n (rows_of c.args.operation) (operand_of ts o ∷ []))) c.on_value.result)
    (sym c.in-Value.is) (c.on_value.ensures.answers ts facts u)

pub returns-in-Type-clause-answers : goal.returns-in-Type-clause-answers
returns-in-Type-clause-answers c = λ ts facts u.
    let n = node c.args.number c.args.at in
    subst
    (λ (o : Operand). Answers (expr_of ts)
    (operation_by c.args.at (operand_of ts o ∷ []) (first_row n (rows_of c.args.operation) (operand_of ts o ∷ []))) c.on_type.result)
    (sym c.in-Type.is) (c.on_type.ensures.answers ts facts u)

pub returns-in-Input-clause-answers : goal.returns-in-Input-clause-answers
returns-in-Input-clause-answers c = λ ts facts u.
    let n = node c.args.number c.args.at in
    subst
    (λ (o : Operand). Answers (expr_of ts)
    (operation_by c.args.at (operand_of ts o ∷ []) (first_row n (rows_of c.args.operation) (operand_of ts o ∷ []))) c.on_input.result)
    (sym c.in-Input.is) (c.on_input.ensures.answers ts (text_under {k = c.args.kinds} u c.requires.kinds))

pub returns-in-Open-clause-answers : goal.returns-in-Open-clause-answers
returns-in-Open-clause-answers c = λ ts facts u.
    let n = node c.args.number c.args.at in
    let p = c.in-Open.place in
    let said = λ (o : Operand). operation_by c.args.at (operand_of ts o ∷ []) (first_row n (rows_of c.args.operation) (operand_of ts o ∷ [])) in
    refuses (expr_of ts) (said c.args.operand) NotTyped p c.refusal.result c.refusal.ensures
    (ap said c.in-Open.is
    ∙ ap (operation_by c.args.at (operand_of ts (operand.Open p c.in-Open.number) ∷ [])) (open_rows n (rows_of c.args.operation) p c.in-Open.number []))

pub returns-in-Input-clause-within : goal.returns-in-Input-clause-within
returns-in-Input-clause-within c = c.on_input.ensures.within (length c.args.types.now) (text_below {k = c.args.kinds} c.requires.kinds)

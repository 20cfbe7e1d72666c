use Rattle.std.proofs.Common.{[], ◌∷◌, sym, subst, ap}
use Rattle.arc_base.specs.Refusal.{Answers}
use Rattle.nim_program.specs.View.{expr_of}
use Rattle.expr_operations.specs.declared.built_in.Second.TheVariants as second
use Rattle.expr_parts.specs.declared.value.Operand.{Operand}
use Rattle.expr_parts.specs.declared.value.Operand.TheVariants as operand
use Rattle.expr_rules.specs.Answers.{node, value}
use Rattle.expr_rules.specs.Builtins.{first_row, operation_by}
use Rattle.expr_parts.specs.View.{operand_of, valued_of}
use Rattle.expr_operations.specs.ViewOperations.{second_rows}
use Rattle.expr_operations.proofs.Written.{misses}
use Rattle.expr_operations.proofs.built_in_pairs.on_places.Goals as goal

pub returns-in-Value-clause-answers : goal.returns-in-Value-clause-answers
returns-in-Value-clause-answers c = λ ts facts u e.
    let n = node c.args.number c.args.at in
    let v = valued_of ts c.args.left in
    subst
    (λ (o : Operand). Answers (expr_of ts)
    (operation_by c.args.at (value v ∷ operand_of ts o ∷ []) (first_row n (second_rows second.Place) (value v ∷ operand_of ts o ∷ [])))
    c.swap.result)
    (sym c.in-Value.is) (c.swap.ensures.answers ts (c.is_same-are_same.ensures ts facts u))

pub returns-in-Open-clause-answers : goal.returns-in-Open-clause-answers
returns-in-Open-clause-answers c = λ ts facts u e.
    let n = node c.args.number c.args.at in
    let v = valued_of ts c.args.left in
    let rows = second_rows second.Place in
    misses ts c.args.at c.args.place (operand.Value c.args.left ∷ c.args.right ∷ []) (first_row n rows (value v ∷ operand_of ts c.args.right ∷ []))
    c.refusal.result (ap (λ (o : Operand). first_row n rows (value v ∷ operand_of ts o ∷ [])) c.in-Open.is) e c.refusal.ensures

pub returns-in-Type-clause-answers : goal.returns-in-Type-clause-answers
returns-in-Type-clause-answers c = λ ts facts u e.
    let n = node c.args.number c.args.at in
    let v = valued_of ts c.args.left in
    let rows = second_rows second.Place in
    misses ts c.args.at c.args.place (operand.Value c.args.left ∷ c.args.right ∷ []) (first_row n rows (value v ∷ operand_of ts c.args.right ∷ []))
    c.refusal-in-Type.result (ap (λ (o : Operand). first_row n rows (value v ∷ operand_of ts o ∷ [])) c.in-Type.is) e c.refusal-in-Type.ensures

pub returns-in-Input-clause-answers : goal.returns-in-Input-clause-answers
returns-in-Input-clause-answers c = λ ts facts u e.
    let n = node c.args.number c.args.at in
    let v = valued_of ts c.args.left in
    let rows = second_rows second.Place in
    misses ts c.args.at c.args.place (operand.Value c.args.left ∷ c.args.right ∷ []) (first_row n rows (value v ∷ operand_of ts c.args.right ∷ []))
    c.refusal-in-Input.result (ap (λ (o : Operand). first_row n rows (value v ∷ operand_of ts o ∷ [])) c.in-Input.is) e c.refusal-in-Input.ensures

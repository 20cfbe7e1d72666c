use Rattle.std.proofs.Common.{[], ◌∷◌, sym, subst, ap, ◌∙◌, length}
use Rattle.arc_base.specs.Refusal.{Answers}
use Rattle.nim_types.specs.Table.{IsBelow}
use Rattle.nim_program.specs.View.{expr_of}
use Rattle.expr_parts.specs.declared.value.Operand.{Operand}
use Rattle.expr_parts.specs.declared.value.Operand.TheVariants as operand
use Rattle.expr_operations.specs.declared.built_in.BuiltIn.TheVariants as built_in
use Rattle.expr_rules.specs.Answers.{node, the_input}
use Rattle.expr_rules.specs.Builtins.{first_row, is_text, operation_by}
use Rattle.expr_parts.specs.View.{operand_of}
use Rattle.expr_operations.specs.ViewOperations.{line_rows, reading_rows, rows_of}
use Rattle.expr_parts.proofs.ForCallers.{answers_as}
use Rattle.expr_parts.proofs.ForCallers.{if_ok}
use Rattle.expr_parts.proofs.ForCallers.{bool_under, bool_below}
use Rattle.expr_operations.proofs.Written.{misses}
use Rattle.expr_operations.proofs.built_in_pairs.on_input_and.Goals as goal

pub returns-then-not-is_reading-clause-answers : goal.returns-then-not-is_reading-clause-answers
returns-then-not-is_reading-clause-answers c = λ ts facts u e.
    let n = node c.args.number c.args.at in
    let os = the_input ∷ operand_of ts c.args.right ∷ [] in
    misses ts c.args.at c.args.place (operand.Input ∷ c.args.right ∷ []) (first_row n (rows_of c.args.operation) os) c.refusal.result
    (c.is_reading.ensures n (operand_of ts c.args.right ∷ []) ∙ ap (λ b. first_row n (reading_rows b) os) c.if-not-is_reading.true) e c.refusal.ensures

pub returns-in-Value-clause-answers : goal.returns-in-Value-clause-answers
returns-in-Value-clause-answers c = λ ts facts u e.
    let n = node c.args.number c.args.at in
    let os = the_input ∷ operand_of ts c.args.right ∷ [] in
    answers_as (expr_of ts) (operation_by c.args.at os (first_row n (rows_of c.args.operation) os))
    (operation_by c.args.at os (first_row n line_rows os)) c.line_into.result
    (ap (operation_by c.args.at os)
    (c.is_reading.ensures n (operand_of ts c.args.right ∷ []) ∙ ap (λ b. first_row n (reading_rows b) os) c.if-not-is_reading.false))
    (subst
    (λ (o : Operand). Answers (expr_of ts)
    (operation_by c.args.at (the_input ∷ operand_of ts o ∷ []) (first_row n line_rows (the_input ∷ operand_of ts o ∷ [])))
    c.line_into.result)
    (sym c.in-Value.is)
    (c.line_into.ensures.answers ts (ap is_text (c.entry.ensures.means ts facts u) ∙ c.is_text-is_line.ensures ts)
    (bool_under {k = c.args.kinds} u c.requires.kinds)))

pub returns-in-Value-clause-within : goal.returns-in-Value-clause-within
returns-in-Value-clause-within c =
    if_ok c.line_into.result c.line_into.ensures.number
    (λ e h. subst (IsBelow (length c.args.types.now)) (sym h) (bool_below {k = c.args.kinds} c.requires.kinds))

pub returns-in-Open-clause-answers : goal.returns-in-Open-clause-answers
returns-in-Open-clause-answers c = λ ts facts u e.
    let n = node c.args.number c.args.at in
    let os = the_input ∷ operand_of ts c.args.right ∷ [] in
    misses ts c.args.at c.args.place (operand.Input ∷ c.args.right ∷ []) (first_row n (rows_of c.args.operation) os) c.refusal-in-Open.result
    (c.is_reading.ensures n (operand_of ts c.args.right ∷ []) ∙ ap (λ b. first_row n (reading_rows b) os) c.if-not-is_reading.false
    ∙ ap (λ (o : Operand). first_row n (rows_of built_in.ReadLine) (the_input ∷ operand_of ts o ∷ [])) c.in-Open.is)
    e c.refusal-in-Open.ensures

pub returns-in-Type-clause-answers : goal.returns-in-Type-clause-answers
returns-in-Type-clause-answers c = λ ts facts u e.
    let n = node c.args.number c.args.at in
    let os = the_input ∷ operand_of ts c.args.right ∷ [] in
    misses ts c.args.at c.args.place (operand.Input ∷ c.args.right ∷ []) (first_row n (rows_of c.args.operation) os) c.refusal-in-Type.result
    (c.is_reading.ensures n (operand_of ts c.args.right ∷ []) ∙ ap (λ b. first_row n (reading_rows b) os) c.if-not-is_reading.false
    ∙ ap (λ (o : Operand). first_row n (rows_of built_in.ReadLine) (the_input ∷ operand_of ts o ∷ [])) c.in-Type.is)
    e c.refusal-in-Type.ensures

pub returns-in-Input-clause-answers : goal.returns-in-Input-clause-answers
returns-in-Input-clause-answers c = λ ts facts u e.
    let n = node c.args.number c.args.at in
    let os = the_input ∷ operand_of ts c.args.right ∷ [] in
    misses ts c.args.at c.args.place (operand.Input ∷ c.args.right ∷ []) (first_row n (rows_of c.args.operation) os) c.refusal-in-Input.result
    (c.is_reading.ensures n (operand_of ts c.args.right ∷ []) ∙ ap (λ b. first_row n (reading_rows b) os) c.if-not-is_reading.false
    ∙ ap (λ (o : Operand). first_row n (rows_of built_in.ReadLine) (the_input ∷ operand_of ts o ∷ [])) c.in-Input.is)
    e c.refusal-in-Input.ensures

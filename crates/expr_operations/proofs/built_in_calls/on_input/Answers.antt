use Rattle.std.proofs.Common.{[], ◌∷◌, sym, ap, subst, ◌∙◌}
use Rattle.std.specs.Prelude.{Ok}
use Rattle.arc_base.specs.declared.place.Code.TheVariants.{NotTyped}
use Rattle.nim_types.specs.Table.{type_at, IsBelow}
use Rattle.nim_program.specs.declared.operation.Operation.TheVariants as operation
use Rattle.nim_program.specs.Nodes.{doing}
use Rattle.nim_program.specs.Program.{NoArg}
use Rattle.nim_program.specs.View.{expr_of, operands_of}
use Rattle.expr_rules.specs.Answers.{node, the_input}
use Rattle.expr_rules.specs.Builtins.{first_row, operation_by}
use Rattle.expr_operations.specs.ViewOperations.{rows_of, reading_rows}
use Rattle.expr_parts.proofs.ForCallers.{refuses}
use Rattle.expr_operations.proofs.built_in_calls.on_input.Goals as goal

pub returns-then-not-is_reading-clause-answers : goal.returns-then-not-is_reading-clause-answers
returns-then-not-is_reading-clause-answers c = λ ts k.
    let n = node c.args.number c.args.at in
    let os = the_input ∷ [] in
    refuses (expr_of ts) (operation_by c.args.at os (first_row n (rows_of c.args.operation) os)) NotTyped c.args.at c.refusal.result c.refusal.ensures
    (ap (operation_by c.args.at os) (c.is_reading.ensures n [] ∙ ap (λ b. first_row n (reading_rows b) os) c.if-not-is_reading.true))

pub returns-clause-answers : goal.returns-clause-answers
returns-clause-answers c = λ ts k.
    let n = node c.args.number c.args.at in
    let os = the_input ∷ [] in
    ap (operation_by c.args.at os) (c.is_reading.ensures n [] ∙ ap (λ b. first_row n (reading_rows b) os) c.if-not-is_reading.false)
    ∙ ap (λ t. Ok (doing n t operation.ReadLine NoArg)) (sym k)
    ∙ ap (λ xs. Ok (doing n (type_at ts c.args.kinds.text) operation.ReadLine (operands_of ts xs))) (sym c.new.ensures.items)
    ∙ ap Ok (sym (c.applied.ensures.expr ts))

pub returns-clause-within : goal.returns-clause-within
returns-clause-within c = λ n h. subst (IsBelow n) (sym c.applied.ensures.number) h

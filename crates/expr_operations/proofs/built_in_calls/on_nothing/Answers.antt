use Rattle.std.proofs.Common.{[], ap, sym, subst, ◌∙◌}
use Rattle.std.specs.Prelude.{Ok}
use Rattle.arc_base.specs.declared.place.Code.TheVariants.{NotTyped}
use Rattle.nim_types.specs.Table.{IsBelow}
use Rattle.nim_program.specs.declared.operation.Operation.TheVariants as operation
use Rattle.nim_program.specs.Nodes.{acting}
use Rattle.nim_program.specs.View.{expr_of, operands_of}
use Rattle.expr_rules.specs.Answers.{node}
use Rattle.expr_rules.specs.Builtins.{first_row, operation_by}
use Rattle.expr_operations.specs.ViewOperations.{rows_of, quit_rows}
use Rattle.expr_parts.proofs.ForCallers.{refuses}
use Rattle.expr_operations.proofs.built_in_calls.on_nothing.Goals as goal

pub returns-then-not-takes_nothing-clause-answers : goal.returns-then-not-takes_nothing-clause-answers
returns-then-not-takes_nothing-clause-answers c = λ ts.
    let n = node c.args.number c.args.at in
    refuses (expr_of ts) (operation_by c.args.at [] (first_row n (rows_of c.args.operation) [])) NotTyped c.args.at c.refusal.result c.refusal.ensures
    (ap (operation_by c.args.at []) (c.takes_nothing.ensures n ∙ ap (λ b. first_row n (quit_rows b) []) c.if-not-takes_nothing.true))

pub returns-clause-answers : goal.returns-clause-answers
returns-clause-answers c = λ ts.
    let n = node c.args.number c.args.at in
    ap (operation_by c.args.at []) (c.takes_nothing.ensures n ∙ ap (λ b. first_row n (quit_rows b) []) c.if-not-takes_nothing.false)
    ∙ ap (λ xs. Ok (acting n operation.Quit (operands_of ts xs))) (sym c.new.ensures.items)
    ∙ ap Ok (sym (c.applied.ensures.expr ts))

pub returns-clause-within : goal.returns-clause-within
returns-clause-within c = λ n. subst (IsBelow n) (sym c.applied.ensures.number) tt

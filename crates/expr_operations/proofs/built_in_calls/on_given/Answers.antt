use Rattle.std.proofs.Common.{◌≡◌, sym, subst, length}
use Rattle.std.specs.Prelude.{map}
use Rattle.arc_base.specs.Refusal.{Answers}
use Rattle.nim_program.specs.View.{expr_of}
use Rattle.expr_rules.specs.Answers.{node}
use Rattle.expr_rules.specs.Builtins.{first_row, operation_by}
use Rattle.expr_parts.specs.View.{operand_of, no_fit_at, OperandsWithin}
use Rattle.expr_parts.specs.ViewOperands.{IsGiven}
use Rattle.expr_operations.specs.ViewOperations.{rows_of}
use Rattle.expr_operations.proofs.Written.{many_rows, misses}
use Rattle.expr_operations.proofs.built_in_calls.on_given.Goals as goal

pub on_one-requires-clause-operand : goal.on_one-requires-clause-operand
on_one-requires-clause-operand c =
    (subst (OperandsWithin (length c.args.types.now)) (subst (IsGiven c.args.operands.items) c.in-One.is c.taken_apart.ensures) c.requires.operands).0

pub on_two-requires-clause-left : goal.on_two-requires-clause-left
on_two-requires-clause-left c =
    (subst (OperandsWithin (length c.args.types.now)) (subst (IsGiven c.args.operands.items) c.in-Two.is c.taken_apart.ensures) c.requires.operands).0

pub on_two-requires-clause-right : goal.on_two-requires-clause-right
on_two-requires-clause-right c =
    (subst (OperandsWithin (length c.args.types.now)) (subst (IsGiven c.args.operands.items) c.in-Two.is c.taken_apart.ensures) c.requires.operands).1.0

pub returns-in-Nothing-clause-answers : goal.returns-in-Nothing-clause-answers
returns-in-Nothing-clause-answers c = λ ts facts u e.
    let n = node c.args.number c.args.at in
    let all = subst (IsGiven c.args.operands.items) c.in-Nothing.is c.taken_apart.ensures in
    subst
    (λ os. Answers (expr_of ts) (operation_by c.args.at (map (operand_of ts) os) (first_row n (rows_of c.args.operation) (map (operand_of ts) os)))
    c.on_nothing.result)
    (sym all) (c.on_nothing.ensures.answers ts)

pub returns-in-One-clause-answers : goal.returns-in-One-clause-answers
returns-in-One-clause-answers c = λ ts facts u e.
    let n = node c.args.number c.args.at in
    let all = subst (IsGiven c.args.operands.items) c.in-One.is c.taken_apart.ensures in
    subst
    (λ os. Answers (expr_of ts) (operation_by c.args.at (map (operand_of ts) os) (first_row n (rows_of c.args.operation) (map (operand_of ts) os)))
    c.on_one.result)
    (sym all) (c.on_one.ensures.answers ts facts u)

pub returns-in-Two-clause-answers : goal.returns-in-Two-clause-answers
returns-in-Two-clause-answers c = λ ts facts u e.
    let n = node c.args.number c.args.at in
    let all = subst (IsGiven c.args.operands.items) c.in-Two.is c.taken_apart.ensures in
    subst
    (λ os. Answers (expr_of ts) (operation_by c.args.at (map (operand_of ts) os) (first_row n (rows_of c.args.operation) (map (operand_of ts) os)))
    c.on_two.result)
    (sym all) (c.on_two.ensures.answers ts facts u (subst (λ os. no_fit_at c.args.at os ≡ c.args.place) all e))

pub returns-in-More-clause-answers : goal.returns-in-More-clause-answers
returns-in-More-clause-answers c = λ ts facts u e.
    let n = node c.args.number c.args.at in
    let os = c.args.operands.items in
    let more = subst (IsGiven os) c.in-More.is c.taken_apart.ensures in
    misses ts c.args.at c.args.place os (first_row n (rows_of c.args.operation) (map (operand_of ts) os)) c.refusal.result
    (many_rows ts n (rows_of c.args.operation) os more) e c.refusal.ensures

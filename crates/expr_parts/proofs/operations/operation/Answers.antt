use Rattle.std.proofs.Common.{sym, ap, ◌∙◌, length, Some}
use Rattle.std.specs.Prelude.{Ok}
use Rattle.nim_types.specs.Table.{type_at}
use Rattle.nim_program.specs.declared.operation.Operation.TheVariants as operation
use Rattle.nim_program.specs.Nodes.{doing, two_values}
use Rattle.nim_program.specs.Program.{Early}
use Rattle.nim_program.specs.View.{expr_of}
use Rattle.expr_rules.specs.Answers.{node}
use Rattle.expr_rules.specs.Operators.{binary_by}
use Rattle.expr_parts.specs.declared.operators.Meaning.{Meaning}
use Rattle.expr_parts.specs.View.{valued_of, meaning_in}
use Rattle.expr_parts.proofs.Making.{below_as, made_as}
use Rattle.expr_parts.proofs.TypeNumbers.{bool_under, text_under, bool_below, text_below}
use Rattle.expr_parts.proofs.operations.operation.Goals as goal

pub returns-in-Computes-clause-answers : goal.returns-in-Computes-clause-answers
returns-in-Computes-clause-answers c = λ ts facts u env op.
    let n = node c.args.number c.args.at in
    let l = c.args.left in
    let r = c.args.right in
    let by = λ (m : Meaning). binary_by env c.args.number c.args.at op (meaning_in (type_at ts l.ty) m) (valued_of ts l) (valued_of ts r) in
    made_as ts (by c.args.meaning)
    (λ ts. doing n (type_at ts l.ty) (operation.Binary c.in-Computes.operator) (two_values (expr_of ts l.expr) (expr_of ts r.expr))) c.on_two.result
    (ap by c.in-Computes.is)
    c.on_two.ensures.expr c.on_two.ensures.memory

pub returns-in-StopsEarly-clause-answers : goal.returns-in-StopsEarly-clause-answers
returns-in-StopsEarly-clause-answers c = λ ts facts u env op.
    let n = node c.args.number c.args.at in
    let l = c.args.left in
    let r = c.args.right in
    let by = λ (m : Meaning). binary_by env c.args.number c.args.at op (meaning_in (type_at ts l.ty) m) (valued_of ts l) (valued_of ts r) in
    made_as ts (by c.args.meaning)
    (λ ts. Early n (type_at ts c.args.kinds.bool) c.in-StopsEarly.short (expr_of ts l.expr) (expr_of ts r.expr)) c.early.result
    (ap by c.in-StopsEarly.is
    ∙ ap (λ t. Ok (Early n t c.in-StopsEarly.short (expr_of ts l.expr) (expr_of ts r.expr))) (sym (bool_under {k = c.args.kinds} u c.requires.kinds)))
    c.early.ensures.expr c.early.ensures.memory

pub returns-in-Joins-clause-answers : goal.returns-in-Joins-clause-answers
returns-in-Joins-clause-answers c = λ ts facts u env op.
    let n = node c.args.number c.args.at in
    let l = c.args.left in
    let r = c.args.right in
    let by = λ (m : Meaning). binary_by env c.args.number c.args.at op (meaning_in (type_at ts l.ty) m) (valued_of ts l) (valued_of ts r) in
    made_as ts (by c.args.meaning)
    (λ ts. doing n (type_at ts c.args.kinds.text) operation.Join (two_values (expr_of ts l.expr) (expr_of ts r.expr))) c.on_two-in-Joins.result
    (ap by c.in-Joins.is
    ∙ ap (λ t. Ok (doing n t operation.Join (two_values (expr_of ts l.expr) (expr_of ts r.expr)))) (sym (text_under {k = c.args.kinds} u c.requires.kinds)))
    c.on_two-in-Joins.ensures.expr c.on_two-in-Joins.ensures.memory

pub returns-in-Compares-clause-answers : goal.returns-in-Compares-clause-answers
returns-in-Compares-clause-answers c = λ ts facts u env op.
    let n = node c.args.number c.args.at in
    let l = c.args.left in
    let r = c.args.right in
    let by = λ (m : Meaning). binary_by env c.args.number c.args.at op (meaning_in (type_at ts l.ty) m) (valued_of ts l) (valued_of ts r) in
    made_as ts (by c.args.meaning)
    (λ ts. doing n (type_at ts c.args.kinds.bool) (operation.Compare c.in-Compares.comparison)
    (two_values (expr_of ts l.expr) (expr_of ts r.expr))) c.on_two-in-Compares.result
    (ap by c.in-Compares.is
    ∙ ap (λ t. Ok (doing n t (operation.Compare c.in-Compares.comparison) (two_values (expr_of ts l.expr) (expr_of ts r.expr))))
    (sym (bool_under {k = c.args.kinds} u c.requires.kinds)))
    c.on_two-in-Compares.ensures.expr c.on_two-in-Compares.ensures.memory

pub returns-in-Computes-clause-within : goal.returns-in-Computes-clause-within
returns-in-Computes-clause-within c =
    below_as (length c.args.types.now) (Some c.args.left.ty) c.on_two.result c.requires.left c.on_two.ensures.number

pub returns-in-StopsEarly-clause-within : goal.returns-in-StopsEarly-clause-within
returns-in-StopsEarly-clause-within c =
    below_as (length c.args.types.now) (Some c.args.kinds.bool) c.early.result (bool_below {k = c.args.kinds} c.requires.kinds) c.early.ensures.number

pub returns-in-Joins-clause-within : goal.returns-in-Joins-clause-within
returns-in-Joins-clause-within c =
    below_as (length c.args.types.now) (Some c.args.kinds.text) c.on_two-in-Joins.result
    (text_below {k = c.args.kinds} c.requires.kinds) c.on_two-in-Joins.ensures.number

pub returns-in-Compares-clause-within : goal.returns-in-Compares-clause-within
returns-in-Compares-clause-within c =
    below_as (length c.args.types.now) (Some c.args.kinds.bool) c.on_two-in-Compares.result
    (bool_below {k = c.args.kinds} c.requires.kinds) c.on_two-in-Compares.ensures.number

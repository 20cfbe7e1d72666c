use Rattle.std.proofs.Common.{subst, ap, ap₂, ◌∙◌, sym}
use Rattle.nim_types.specs.Types.{same}
use Rattle.nim_types.specs.Table.{type_at, meant}
use Rattle.nim_program.specs.View.{expr_of}
use Rattle.expr_rules.specs.Answers.{value}
use Rattle.expr_rules.specs.Operators.{binary_by, binary_rule, borrowed_by, borrowed_name, meaning_of}
use Rattle.expr_parts.specs.View.{env_of, valued_of, meaning_in}
use Rattle.expr_calls.specs.ViewCalls.{IfMeaning}
use Rattle.expr_parts.proofs.ForCallers.{answers_as}
use Rattle.expr_calls.proofs.operator_calls.binary_values.Goals as goal

pub operation-requires-clause-meaning : goal.operation-requires-clause-meaning
operation-requires-clause-meaning c = subst (IfMeaning c.meaning_on-meaning.result) c.if-not-has_meaning.false c.has_meaning.ensures

pub returns-then-not-has_meaning-clause-answers : goal.returns-then-not-has_meaning-clause-answers
returns-then-not-has_meaning-clause-answers c = λ ts facts u.
    let env = env_of ts facts c.args.scope.now in
    let v = valued_of ts c.args.left in
    let w = valued_of ts c.args.right in
    let l = c.entry.ensures.means ts facts u in
    let r = c.entry-2.ensures.means ts facts u in
    let is = c.meaning_on-meaning.ensures ts (sym (ap₂ same l r) ∙ c.is_same-are_same.ensures ts facts u) in
    let none = subst (IfMeaning c.meaning_on-meaning.result) c.if-not-has_meaning.true c.has_meaning.ensures in
    answers_as (expr_of ts) (binary_rule env c.args.number c.args.at c.args.op (value v) (value w))
    (borrowed_by env c.args.number c.args.at (borrowed_name c.args.op) v w) c.borrowed_by.result
    (ap (λ m. binary_by env c.args.number c.args.at c.args.op m v w)
    (ap₂ (meaning_of c.args.op) l r ∙ is ∙ ap (meaning_in (meant ts c.entry.result.now)) none))
    (c.borrowed_by.ensures.answers ts facts u)

pub returns-clause-answers : goal.returns-clause-answers
returns-clause-answers c = λ ts facts u.
    let env = env_of ts facts c.args.scope.now in
    let v = valued_of ts c.args.left in
    let w = valued_of ts c.args.right in
    let l = c.entry.ensures.means ts facts u in
    let r = c.entry-2.ensures.means ts facts u in
    let is = c.meaning_on-meaning.ensures ts (sym (ap₂ same l r) ∙ c.is_same-are_same.ensures ts facts u) in
    answers_as (expr_of ts) (binary_rule env c.args.number c.args.at c.args.op (value v) (value w))
    (binary_by env c.args.number c.args.at c.args.op (meaning_in (type_at ts c.args.left.ty) c.meaning_on-meaning.result) v w) c.operation.result
    (ap (λ m. binary_by env c.args.number c.args.at c.args.op m v w)
    (ap₂ (meaning_of c.args.op) l r ∙ is ∙ ap (λ t. meaning_in t c.meaning_on-meaning.result) (sym l)))
    (c.operation.ensures.answers ts facts u env c.args.op)

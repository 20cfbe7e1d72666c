use Rattle.std.proofs.Common.{ap, ◌∙◌, Bool}
use Rattle.nim_types.specs.Table.{type_at}
use Rattle.expr_parts.specs.View.{valued_of}
use Rattle.expr_parts.proofs.ForCallers.{answers_as}
use Rattle.decl_rules.specs.Values.{is_target, accepted_if}
use Rattle.decl_stmts.proofs.assignments.target_rule.Goals as goal

pub returns-clause-answers : goal.returns-clause-answers
returns-clause-answers c = λ ts facts u.
    let v = valued_of ts c.args.value in
    let by = λ (k : Bool). accepted_if k v in
    answers_as (valued_of ts) (by (is_target c.args.op (type_at ts c.args.value.ty))) (by c.is_target.result) c.accepted_if.result
    (ap by (ap (is_target c.args.op) (c.entry.ensures.means ts facts u) ∙ c.is_target.ensures ts)) (c.accepted_if.ensures.answers ts)

use Rattle.std.proofs.Common.{ap, ap₂, sym, ◌∙◌}
use Rattle.std.specs.Prelude.{map}
use Rattle.nim_types.specs.Table.{type_at}
use Rattle.nim_program.specs.Nodes.{construct}
use Rattle.nim_program.specs.View.{operands_of}
use Rattle.expr_rules.specs.Answers.{node}
use Rattle.expr_parts.proofs.ForCallers.{exprs_are}
use Rattle.expr_builds.proofs.Planning.{numbers_are}
use Rattle.expr_builds.proofs.plans.construct_rule.Goals as goal

pub returns-clause-expr : goal.returns-clause-expr
returns-clause-expr c = λ ts.
    let fs = c.args.plan.chosen.items in
    let vs = c.args.values.items in
    c.constructed.ensures.expr ts
    ∙ ap₂ (construct (node c.args.number c.args.at) (type_at ts c.args.plan.ty))
    (c.in_ok-fields.ensures.numbers ∙ ap (map (λ f. f.number)) c.as_slice.ensures.value ∙ sym (numbers_are ts fs))
    (ap (operands_of ts) c.in_ok-operands.ensures.operands ∙ sym (exprs_are ts vs))

use Rattle.std.proofs.Common.{ap, ◌∙◌, to_z-of_z}
use Rattle.nim_types.specs.Table.{type_at}
use Rattle.nim_program.specs.Program.{Number}
use Rattle.nim_program.specs.Nodes.{literal}
use Rattle.expr_rules.specs.Answers.{node}
use Rattle.expr_parts.proofs.TypeNumbers.{int_under}
use Rattle.expr_parts.proofs.literals.int_literal.Goals as goal

pub returns-clause-expr : goal.returns-clause-expr
returns-clause-expr c = λ ts facts u.
    let n = node c.args.number c.args.at in
    c.constant.ensures.expr ts ∙ ap (λ z. literal n (type_at ts c.args.kinds.int) (Number z)) (to_z-of_z c.ranges.value)
    ∙ ap (λ t. literal n t (Number c.args.value)) (int_under {k = c.args.kinds} u c.requires)

use Rattle.std.proofs.Common.{ap, ◌∙◌, w32, arith}
use Rattle.std.specs.Prelude.{pos}
use Rattle.std.proofs.Math.Facts.{to_z_pos}
use Rattle.nim_types.specs.Table.{type_at}
use Rattle.nim_program.specs.Program.{Number}
use Rattle.nim_program.specs.Nodes.{literal}
use Rattle.expr_rules.specs.Answers.{node}
use Rattle.expr_parts.proofs.TypeNumbers.{char_under}
use Rattle.expr_parts.proofs.literals.char_literal.Goals as goal

pub returns-clause-expr : goal.returns-clause-expr
returns-clause-expr c = λ ts facts u.
    let n = node c.args.number c.args.at in
    c.constant.ensures.expr ts ∙ ap (λ z. literal n (type_at ts c.args.kinds.char) (Number z)) (to_z_pos w32 (omega (arith, c.ranges.value.fits)))
    ∙ ap (λ t. literal n t (Number (pos c.args.value))) (char_under {k = c.args.kinds} u c.requires)

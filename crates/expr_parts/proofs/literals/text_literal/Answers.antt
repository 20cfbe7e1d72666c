use Rattle.std.proofs.Common.{ap₂, ◌∙◌}
use Rattle.nim_program.specs.Nodes.{literal}
use Rattle.nim_program.specs.Program.{Characters}
use Rattle.expr_rules.specs.Answers.{node}
use Rattle.expr_parts.proofs.TypeNumbers.{text_under}
use Rattle.expr_parts.proofs.literals.text_literal.Goals as goal

pub returns-clause-expr : goal.returns-clause-expr
returns-clause-expr c = λ ts facts u.
    c.constant.ensures.expr ts
    ∙ ap₂ (λ t s. literal (node c.args.number c.args.at) t (Characters s)) (text_under {k = c.args.kinds} u c.requires) c.in_ok-bytes.ensures.computed

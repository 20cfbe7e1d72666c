use Rattle.std.proofs.Common.{ap, sym}
use Rattle.nim_program.specs.declared.expr.Node.{Node}
use Rattle.nim_program.specs.View.{expr_of, literal_of}
use Rattle.expr_rules.specs.Constants.{constant_rule, if_comes, value_in}
use Rattle.expr_parts.specs.View.{valued_of}
use Rattle.expr_parts.proofs.ForCallers.{answers_as}
use Rattle.expr_constants.proofs.constant_rules.constant_rule.Goals as goal

pub returns : goal.returns
returns c = λ ts facts u.
    let v = value_in facts (expr_of ts c.args.value.expr) in
    answers_as literal_of (constant_rule facts (valued_of ts c.args.value)) (if_comes c.node.result.at v) c.constant_at-literal.result
    (ap (λ (n : Node). if_comes n.at v) (sym (c.node.ensures ts))) (c.constant_at-literal.ensures ts facts u)

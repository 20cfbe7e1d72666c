use Rattle.std.proofs.Common.{length}
use Rattle.expr_rules.specs.Operators.{binary_rule}
use Rattle.expr_parts.specs.View.{env_of, operand_of}
use Rattle.expr_parts.proofs.ForCallers.{grown_same}
use Rattle.expr_steps.proofs.endings.binary_from.Goals as goal

pub returns : goal.returns
returns c = record {
  grown = grown_same c.args.types.now;
  answers = λ ts facts u.
      c.typed_from.ensures.answers ts
      (binary_rule (env_of ts facts c.args.scope.now) c.args.number c.args.at c.args.op (operand_of ts c.args.left.operand)
      (operand_of ts c.args.right.operand))
      (c.binary_rule-answer.ensures.answers ts facts u);
  fits = c.typed_from.ensures.within (length c.args.types.now) c.binary_rule-answer.ensures.within;
}

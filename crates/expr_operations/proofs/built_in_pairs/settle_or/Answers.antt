use Rattle.std.proofs.Common.{sym, ◌∙◌}
use Rattle.nim_types.specs.Table.{type_at}
use Rattle.expr_rules.specs.Answers.{settled}
use Rattle.expr_parts.specs.View.{operand_of}
use Rattle.expr_operations.proofs.Written.{either_first, either_second}
use Rattle.expr_operations.proofs.built_in_pairs.settle_or.Goals as goal

pub returns-then-settles : goal.returns-then-settles
returns-then-settles c = record {
  given = λ ts facts u.
      let o = operand_of ts c.args.operand in
      c.settle.ensures.given ts facts u
      ∙ sym (either_first (settled (type_at ts c.args.first) o) (settled (type_at ts c.args.second) o)
      (c.settles.ensures.means ts facts u ∙ c.if-settles.true));
}

pub returns : goal.returns
returns c = record {
  given = λ ts facts u.
      let o = operand_of ts c.args.operand in
      c.settle-2.ensures.given ts facts u
      ∙ sym (either_second (settled (type_at ts c.args.first) o) (settled (type_at ts c.args.second) o)
      (c.settles.ensures.means ts facts u ∙ c.if-settles.false));
}

use Rattle.std.proofs.Common.{length}
use Rattle.std.specs.Prelude.{map}
use Rattle.nim_types.specs.Table.{type_at}
use Rattle.expr_rules.specs.Names.{new_sequence_rule}
use Rattle.expr_parts.specs.View.{operand_of}
use Rattle.expr_steps.proofs.endings.new_sequence_from.Goals as goal

pub returns : goal.returns
returns c = record {
  grown = c.new_sequence_rule.ensures.grown;
  answers = λ ts facts u.
      c.typed_from.ensures.answers ts
      (new_sequence_rule c.args.number c.args.at (type_at ts c.args.of) (map (operand_of ts) c.args.given.all.items))
      (c.new_sequence_rule.ensures.answers ts facts u);
  fits = c.typed_from.ensures.within (length c.new_sequence_rule.new.types) c.new_sequence_rule.ensures.within;
}

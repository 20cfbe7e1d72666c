use Rattle.std.proofs.Common.{length}
use Rattle.std.specs.Prelude.{map}
use Rattle.expr_rules.specs.Constructions.{sequence_rule}
use Rattle.expr_parts.specs.View.{valued_of, want_of}
use Rattle.expr_steps.proofs.endings.sequence_from.Goals as goal

pub returns : goal.returns
returns c = record {
  grown = c.sequence_rule.ensures.grown;
  answers = λ ts facts u.
      c.typed_from.ensures.answers ts
      (sequence_rule (want_of ts c.args.want) c.args.number c.args.at (map (valued_of ts) c.args.given.all.items))
      (c.sequence_rule.ensures.answers ts facts u);
  fits = c.typed_from.ensures.within (length c.sequence_rule.new.types) c.sequence_rule.ensures.within;
}

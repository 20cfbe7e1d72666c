use Rattle.std.proofs.Common.{length}
use Rattle.std.specs.Prelude.{map}
use Rattle.expr_rules.specs.Constructions.{array_rule}
use Rattle.expr_parts.specs.View.{env_of, valued_of}
use Rattle.expr_steps.proofs.endings.array_from.Goals as goal

pub returns : goal.returns
returns c = record {
  grown = c.array_rule.ensures.grown;
  answers = λ ts facts u.
      c.typed_from.ensures.answers ts
      (array_rule (env_of ts facts c.args.scope.now) c.args.number c.args.at (map (valued_of ts) c.args.given.all.items))
      (c.array_rule.ensures.answers ts (env_of ts facts c.args.scope.now) u);
  fits = c.typed_from.ensures.within (length c.array_rule.new.types) c.array_rule.ensures.within;
}

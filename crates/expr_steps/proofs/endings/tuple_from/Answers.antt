use Rattle.std.proofs.Common.{length}
use Rattle.std.specs.Prelude.{map}
use Rattle.nim_tree.specs.Terms.{parts_of}
use Rattle.expr_rules.specs.Constructions.{part_names, tuple_rule}
use Rattle.expr_parts.specs.View.{env_of, valued_of, want_of}
use Rattle.expr_steps.proofs.endings.tuple_from.Goals as goal

pub returns : goal.returns
returns c = record {
  grown = c.tuple_rule.ensures.grown;
  answers = λ ts facts u.
      c.typed_from.ensures.answers ts
      (tuple_rule (env_of ts facts c.args.scope.now) (want_of ts c.args.want) c.args.number c.args.at (part_names
      (parts_of c.args.parts.now)) (map (valued_of ts) c.args.given.all.items))
      (c.tuple_rule.ensures.answers ts (env_of ts facts c.args.scope.now) u);
  fits = c.typed_from.ensures.within (length c.tuple_rule.new.types) c.tuple_rule.ensures.within;
}

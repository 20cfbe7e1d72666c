use Rattle.std.proofs.Common.{length}
use Rattle.expr_rules.specs.Typed.{unary_call}
use Rattle.expr_parts.specs.View.{env_of, valued_of}
use Rattle.expr_parts.proofs.ForCallers.{grown_same}
use Rattle.expr_steps.proofs.endings.unary_from.Goals as goal

pub returns : goal.returns
returns c = record {
  grown = grown_same c.args.types.now;
  answers = λ ts facts u.
      c.typed_from.ensures.answers ts
      (unary_call (env_of ts facts c.args.scope.now) c.args.number c.args.at c.args.op (valued_of ts c.args.given.value))
      (c.unary_call.ensures.answers ts facts u);
  fits = c.typed_from.ensures.within (length c.args.types.now) c.unary_call.ensures.within;
}

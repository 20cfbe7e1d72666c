use Rattle.std.proofs.Common.{length, Some}
use Rattle.std.specs.Prelude.{map}
use Rattle.nim_types.specs.Table.{type_at}
use Rattle.expr_rules.specs.Constructions.{conversion_rule}
use Rattle.expr_parts.specs.View.{env_of, operand_of}
use Rattle.expr_parts.proofs.ForCallers.{below_as, grown_same}
use Rattle.expr_steps.proofs.endings.conversion_from.Goals as goal

pub returns : goal.returns
returns c =
    let n = length c.args.types.now in record {
      grown = grown_same c.args.types.now;
      answers = λ ts facts u.
          c.typed_from.ensures.answers ts
          (conversion_rule (env_of ts facts c.args.scope.now) c.args.number c.args.at (type_at ts c.args.ty) (map (operand_of ts) c.args.given.all.items))
          (c.conversion.ensures.answers ts (env_of ts facts c.args.scope.now) u);
      fits = c.typed_from.ensures.within n (below_as n (Some c.args.ty) c.conversion.result c.requires.ty c.conversion.ensures.number);
    }

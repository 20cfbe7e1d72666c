use Rattle.std.proofs.Common.{length, Some}
use Rattle.std.specs.Prelude.{map, Ok}
use Rattle.nim_types.specs.Table.{type_at}
use Rattle.nim_program.specs.View.{expr_of}
use Rattle.expr_rules.specs.Constructions.{construct_rule}
use Rattle.expr_parts.specs.View.{found_of, valued_of}
use Rattle.expr_parts.proofs.ForCallers.{below_as, grown_same, if_ok, makes}
use Rattle.expr_steps.proofs.endings.object_from.Goals as goal

pub returns : goal.returns
returns c =
    let n = length c.args.types.now in
    let p = c.args.plan in record {
      grown = grown_same c.args.types.now;
      answers = λ ts facts u.
          let made = construct_rule c.args.number c.args.at (type_at ts p.ty) (map (found_of ts) p.chosen.items)
          (map (valued_of ts) c.args.given.all.items) in
          c.typed_from.ensures.answers ts (Ok made)
          (makes (expr_of ts) made c.construct_rule.result (if_ok c.construct_rule.result c.construct_rule.ensures.expr (λ e h. h ts))
          c.construct_rule.ensures.memory);
      fits = c.typed_from.ensures.within n (below_as n (Some p.ty) c.construct_rule.result c.requires.plan.0 c.construct_rule.ensures.number);
    }

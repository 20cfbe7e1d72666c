use Rattle.std.proofs.Common.{sym}
use Rattle.expr_parts.proofs.ForCallers.{grown_same}
use Rattle.expr_steps.proofs.Finishing.{if_both}
use Rattle.expr_steps.proofs.endings.index_from.Goals as goal

pub returns : goal.returns
returns c = record {
  grown = grown_same c.args.types.now;
  answers = λ ts facts u. c.index_rule.ensures.answers ts facts u;
  fits = if_both c.index_rule.result c.index_rule.ensures.number c.index_rule.ensures.within (λ t h w. (sym h, w));
}

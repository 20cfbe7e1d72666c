use Rattle.std.proofs.Common.{ap, sym, ◌∙◌}
use Rattle.expr_rules.specs.Constants.{number_in}
use Rattle.expr_constants.proofs.evaluation.index_number.Goals as goal

pub returns : goal.returns
returns c = λ ts facts u. sym (c.number_in.ensures ∙ ap number_in (c.in_ok-value.ensures ts facts u))

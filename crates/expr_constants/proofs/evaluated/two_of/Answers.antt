use Rattle.std.proofs.Common.{ap, ◌∙◌}
use Rattle.expr_rules.specs.Constants.{in_pair, on_one}
use Rattle.expr_constants.specs.ViewConstants.{evaluated_of, values_of}
use Rattle.expr_constants.proofs.evaluated.two_of.Goals as goal

pub returns-in-Comes : goal.returns-in-Comes
returns-in-Comes c = λ go. ap (λ e. on_one (in_pair go) (evaluated_of values_of e)) c.in-Comes.is ∙ c.pair_of.ensures go

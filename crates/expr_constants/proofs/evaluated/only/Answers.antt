use Rattle.std.proofs.Common.{ap, ◌∙◌}
use Rattle.expr_rules.specs.Constants.{alone, on_one}
use Rattle.expr_constants.specs.ViewConstants.{evaluated_of, values_of}
use Rattle.expr_constants.proofs.evaluated.only.Goals as goal

pub returns-in-Comes : goal.returns-in-Comes
returns-in-Comes c = λ go. ap (λ e. on_one (alone go) (evaluated_of values_of e)) c.in-Comes.is ∙ c.one_of.ensures go

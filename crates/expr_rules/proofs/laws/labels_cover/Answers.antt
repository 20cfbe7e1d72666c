use Rattle.expr_rules.proofs.Covering.{covering}
use Rattle.expr_rules.proofs.laws.labels_cover.Goals as goal

pub returns : goal.returns
returns c = covering

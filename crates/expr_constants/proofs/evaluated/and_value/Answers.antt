use Rattle.std.proofs.Common.{ap, ◌∙◌}
use Rattle.nim_program.specs.View.{literals_of}
use Rattle.expr_rules.specs.Constants.{comes_to}
use Rattle.plain_values.proofs.ForCallers.{literals_last}
use Rattle.expr_constants.proofs.evaluated.and_value.Goals as goal

pub returns : goal.returns
returns c = ap comes_to (ap literals_of c.in_ok-push.ensures.items ∙ literals_last c.args.all.items c.args.value)

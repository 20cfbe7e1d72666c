use Rattle.std.proofs.Common.{ap, sym, ◌∙◌}
use Rattle.nim_program.specs.Program.{ElementsOf}
use Rattle.expr_rules.specs.Constants.{limited, on_one}
use Rattle.expr_constants.specs.ViewConstants.{evaluated_of, values_of}
use Rattle.nim_program.proofs.ForCallers.{elements_of}
use Rattle.expr_constants.proofs.evaluated.as_elements.Goals as goal

pub returns-in-Comes : goal.returns-in-Comes
returns-in-Comes c =
    c.limited.ensures ∙ ap limited (elements_of c.in-Comes.all)
    ∙ sym (ap (λ e. on_one (λ all. limited (ElementsOf all)) (evaluated_of values_of e)) c.in-Comes.is)

use Rattle.std.proofs.Common.{[], ◌∷◌, ap, ◌∙◌}
use Rattle.expr_rules.specs.Answers.{value}
use Rattle.expr_rules.specs.Builtins.{first_row}
use Rattle.expr_operations.specs.ViewOperations.{rows_of}
use Rattle.expr_operations.proofs.built_in.second_of.Goals as goal

pub returns-in-Add : goal.returns-in-Add
returns-in-Add c = λ ts n v o e. ap (λ b. first_row n (rows_of b) (value v ∷ o ∷ [])) c.in-Add.is ∙ c.added_to.ensures ts n v o e

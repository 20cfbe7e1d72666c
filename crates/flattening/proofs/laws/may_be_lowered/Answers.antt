use Rattle.std.proofs.Common.{sym, subst, ap, ◌∙◌}
use Rattle.nim_types.specs.Types.{base_in, fact_of, int}
use Rattle.flat_code.proofs.ForCallers.{AreSorted, sorted_table}
use Rattle.flattening.proofs.AlikeLines.{all_alike}
use Rattle.flattening.proofs.Shaped.{typed_shaped, undeclared_in}
use Rattle.flattening.proofs.BuiltPrograms.{all_built}
use Rattle.flattening.proofs.WaitNodes.{all_once}
use Rattle.flattening.proofs.laws.may_be_lowered.Goals as goal

pub returns-clause-alike : goal.returns-clause-alike
returns-clause-alike c = λ table program said typed plan.
    all_alike program plan (typed_shaped program (ap (λ facts. base_in (fact_of facts int)) said ∙ undeclared_in table) typed)

pub returns-clause-once : goal.returns-clause-once
returns-clause-once c = λ table program said typed numbered plan.
    all_once program plan numbered (typed_shaped program (ap (λ facts. base_in (fact_of facts int)) said ∙ undeclared_in table) typed)

pub returns-clause-built : goal.returns-clause-built
returns-clause-built c = λ table program said typed numbered built few most sums plan.
    all_built program plan typed (subst AreSorted (sym said) (sorted_table table)) most numbered built few sums

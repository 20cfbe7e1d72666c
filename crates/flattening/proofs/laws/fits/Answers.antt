use Rattle.std.proofs.Common.{subst, sym}
use Rattle.flat_code.proofs.ForCallers.{AreSorted, sorted_table}
use Rattle.flattening.proofs.FitPrograms.{program_fits}
use Rattle.flattening.proofs.CodeHandedOn.{code_given}
use Rattle.flattening.proofs.NoHooks.{none_hooks}
use Rattle.flattening.proofs.LedParts.{code_whole}
use Rattle.flattening.proofs.laws.fits.Goals as goal

pub returns-clause-given : goal.returns-clause-given
returns-clause-given c = λ program typed plan. code_given program plan typed

pub returns-clause-fits : goal.returns-clause-fits
returns-clause-fits c = λ table program said typed numbered built plan.
    (program_fits program plan typed numbered built (subst AreSorted (sym said) (sorted_table table))).0

pub returns-clause-waits : goal.returns-clause-waits
returns-clause-waits c = λ table program said typed numbered built plan.
    (program_fits program plan typed numbered built (subst AreSorted (sym said) (sorted_table table))).1

pub returns-clause-leads : goal.returns-clause-leads
returns-clause-leads c = λ table program said typed numbered built plan.
    (program_fits program plan typed numbered built (subst AreSorted (sym said) (sorted_table table))).2

pub returns-clause-hooks : goal.returns-clause-hooks
returns-clause-hooks c = λ table program said typed built plan.
    none_hooks program plan typed (subst AreSorted (sym said) (sorted_table table)) built

pub returns-clause-whole : goal.returns-clause-whole
returns-clause-whole c = λ program plan known. code_whole program plan known

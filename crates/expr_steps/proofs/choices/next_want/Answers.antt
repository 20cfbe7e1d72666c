use Rattle.std.proofs.Common.{sym, subst, ap, ◌∙◌}
use Rattle.expr_rules.specs.Choices.{branch_want}
use Rattle.expr_parts.specs.View.{branching_of}
use Rattle.expr_parts.specs.ViewReady.{BranchesWithin}
use Rattle.expr_steps.proofs.choices.next_want.Goals as goal

pub returns-in-Decided-clause-want : goal.returns-in-Decided-clause-want
returns-in-Decided-clause-want c = λ ts. c.want_or.ensures.want ts ∙ sym (ap (λ b. branch_want (branching_of ts b)) c.in-Decided.is)

pub returns-in-Decided-clause-within : goal.returns-in-Decided-clause-within
returns-in-Decided-clause-within c = λ n h. let w = subst (BranchesWithin n) c.in-Decided.is h in c.want_or.ensures.within n w.0 w.1

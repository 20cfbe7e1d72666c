use Rattle.std.proofs.Common.{sym, ap, ◌∙◌}
use Rattle.std.specs.Prelude.{not}
use Rattle.expr_rules.specs.Names.{is_field}
use Rattle.expr_steps.proofs.given.has_no_field.Goals as goal

pub returns-clause-is : goal.returns-clause-is
returns-clause-is c = λ ts facts u. ap (λ o. not (is_field o)) (sym (c.in_ok-field.ensures.found ts facts u)) ∙ c.is_none.ensures ts

use Rattle.std.proofs.Common.{◌∙◌, ap, Bool}
use Rattle.expr_rules.specs.Demands.{is_selector}
use Rattle.expr_parts.specs.View.{valued_of}
use Rattle.expr_parts.proofs.ForCallers.{answers_as}
use Rattle.decl_rules.specs.Values.{accepted_if, selector_rule}
use Rattle.decl_parts.proofs.values.selector_rule.Goals as goal

pub returns-clause-answers : goal.returns-clause-answers
returns-clause-answers c = λ ts facts u.
    let v = valued_of ts c.args.value in
    let by = λ (k : Bool). accepted_if k v in
    answers_as (valued_of ts) (selector_rule v) (by c.is_selector.result) c.accepted_if.result
    (ap by (ap is_selector (c.entry.ensures.means ts facts u) ∙ c.is_selector.ensures ts)) (c.accepted_if.ensures.answers ts)

use Rattle.std.proofs.Common.{refl, sym, ap, ap₂, ◌∙◌}
use Rattle.std.specs.Prelude.{is_some, map, ◌&&◌}
use Rattle.expr_rules.specs.Calls.{arguments_for}
use Rattle.expr_parts.specs.View.{operand_of, parameter_of, do_fit}
use Rattle.expr_parts.proofs.Choosing.{both_fit}
use Rattle.expr_parts.proofs.calls.+fits.Goals as goal

pub returns-then-settles-clause-means : goal.returns-then-settles-clause-means
returns-then-settles-clause-means t c = λ ts facts u.
    both_fit ts c.in-Some-Some.param.now c.in-Some-Some.params.now c.in-Some-Some.operand.now c.in-Some-Some.operands.now c.args.params.now
    c.args.operands.now c.settles.result c.fits.result c.in-Some-Some.ensures.cases.0 c.in-Some-Some.ensures'.cases.0 (c.settles.ensures.means ts facts u)
    (c.fits.ensures.means ts facts u)
    ∙ ap (λ b. b && c.fits.result) c.if-settles.true

pub returns-else-settles-clause-means : goal.returns-else-settles-clause-means
returns-else-settles-clause-means t c = λ ts facts u.
    let rest = is_some (arguments_for (map (parameter_of ts) c.in-Some-Some.params.now) (map (operand_of ts) c.in-Some-Some.operands.now)) in
    both_fit ts c.in-Some-Some.param.now c.in-Some-Some.params.now c.in-Some-Some.operand.now c.in-Some-Some.operands.now c.args.params.now
    c.args.operands.now c.settles.result rest c.in-Some-Some.ensures.cases.0 c.in-Some-Some.ensures'.cases.0 (c.settles.ensures.means ts facts u) refl
    ∙ ap (λ b. b && rest) c.if-settles.false ∙ sym c.if-settles.false

pub returns-then-settles-clause-numbers : goal.returns-then-settles-clause-numbers
returns-then-settles-clause-numbers t c =
    let ds = c.args.types.now in
    ap₂ (do_fit ds) c.in-Some-Some.ensures.cases.0 c.in-Some-Some.ensures'.cases.0
    ∙ ap₂ (λ a b. a && b) (c.settles.ensures.number ∙ c.if-settles.true) c.fits.ensures.numbers

pub returns-else-settles-clause-numbers : goal.returns-else-settles-clause-numbers
returns-else-settles-clause-numbers t c =
    let ds = c.args.types.now in
    ap₂ (do_fit ds) c.in-Some-Some.ensures.cases.0 c.in-Some-Some.ensures'.cases.0
    ∙ ap (λ a. a && do_fit ds c.in-Some-Some.params.now c.in-Some-Some.operands.now) (c.settles.ensures.number ∙ c.if-settles.false)
    ∙ sym c.if-settles.false

use Rattle.std.proofs.Common.{ap, sym, ◌∙◌}
use Rattle.nim_program.specs.View.{if_type, literal_of}
use Rattle.expr_rules.specs.Constants.{binary_of, compare_of, computing, converted, first_type, if_computed, join_of, measure_of, on_one, shown, unary_of}
use Rattle.expr_constants.specs.ViewConstants.{evaluated_of, values_of}
use Rattle.expr_parts.proofs.ForCallers.{if_ok}
use Rattle.expr_constants.proofs.evaluation.operate.Goals as goal

pub returns-in-Unary : goal.returns-in-Unary
returns-in-Unary c = λ ts facts u tys h.
    c.unary.ensures ∙ sym (c.only.ensures (unary_of c.in-Unary.operator))
    ∙ sym (ap (λ o. if_computed (computing facts (if_type ts c.args.ty) tys o) (evaluated_of values_of c.args.values)) c.in-Unary.is)

pub returns-in-Binary : goal.returns-in-Binary
returns-in-Binary c = λ ts facts u tys h.
    c.binary.ensures ∙ sym (c.two_of.ensures (binary_of c.in-Binary.operator))
    ∙ sym (ap (λ o. if_computed (computing facts (if_type ts c.args.ty) tys o) (evaluated_of values_of c.args.values)) c.in-Binary.is)

pub returns-in-Compare : goal.returns-in-Compare
returns-in-Compare c = λ ts facts u tys h.
    c.compare.ensures ∙ sym (c.two_of-in-Compare.ensures (compare_of c.in-Compare.comparison))
    ∙ sym (ap (λ o. if_computed (computing facts (if_type ts c.args.ty) tys o) (evaluated_of values_of c.args.values)) c.in-Compare.is)

pub returns-in-Convert : goal.returns-in-Convert
returns-in-Convert c = λ ts facts u tys h.
    c.convert.ensures ts facts u ∙ sym (c.only-in-Convert.ensures (converted facts (if_type ts c.args.ty)))
    ∙ sym (ap (λ o. if_computed (computing facts (if_type ts c.args.ty) tys o) (evaluated_of values_of c.args.values)) c.in-Convert.is)

pub returns-in-Join : goal.returns-in-Join
returns-in-Join c = if_ok c.join.result c.join.ensures (λ e is ts facts u tys h.
    is ∙ sym (c.two_of-in-Join.ensures (join_of))
    ∙ sym (ap (λ o. if_computed (computing facts (if_type ts c.args.ty) tys o) (evaluated_of values_of c.args.values)) c.in-Join.is))

pub returns-in-Show : goal.returns-in-Show
returns-in-Show c = if_ok c.show.result c.show.ensures (λ e is ts facts u tys h.
    is ts facts u ∙ ap (λ o. on_one (shown facts o) (evaluated_of literal_of c.only-in-Show.result)) (sym h)
    ∙ sym (c.only-in-Show.ensures (shown facts (first_type tys)))
    ∙ sym (ap (λ o. if_computed (computing facts (if_type ts c.args.ty) tys o) (evaluated_of values_of c.args.values)) c.in-Show.is))

pub returns-in-Measure : goal.returns-in-Measure
returns-in-Measure c = if_ok c.measure.result c.measure.ensures (λ e is ts facts u tys h.
    is ∙ sym (c.only-in-Measure.ensures (measure_of c.in-Measure.of))
    ∙ sym (ap (λ o. if_computed (computing facts (if_type ts c.args.ty) tys o) (evaluated_of values_of c.args.values)) c.in-Measure.is))

pub returns-in-Make : goal.returns-in-Make
returns-in-Make c = λ ts facts u tys h. c.as_parts.ensures
    ∙ sym (ap (λ o. if_computed (computing facts (if_type ts c.args.ty) tys o) (evaluated_of values_of c.args.values)) c.in-Make.is)

pub returns-in-Sequence : goal.returns-in-Sequence
returns-in-Sequence c = λ ts facts u tys h. c.as_elements.ensures
    ∙ sym (ap (λ o. if_computed (computing facts (if_type ts c.args.ty) tys o) (evaluated_of values_of c.args.values)) c.in-Sequence.is)

use Rattle.std.proofs.Common.{◌≡◌, [], ◌∷◌, refl, subst, length}
use Rattle.std.specs.Prelude.{map, Some}
use Rattle.expr_rules.specs.Calls.{arguments_for, borrowed_call}
use Rattle.expr_parts.specs.View.{operand_of, parameter_of, valued_of, ParametersWithin}
use Rattle.expr_parts.proofs.ForCallers.{fit_first}
use Rattle.expr_calls.proofs.Operating.{last_borrowed_of}
use Rattle.expr_calls.proofs.calls_borrowed.borrowed_one.Goals as goal

pub settled-value-requires-clause-ty : goal.settled-value-requires-clause-ty
settled-value-requires-clause-ty c = (subst (ParametersWithin (length c.args.types.now)) c.in-Some.ensures.cases.0 c.requires.params).0

pub settled-value-requires-clause-fits : goal.settled-value-requires-clause-fits
settled-value-requires-clause-fits c =
    (fit_first c.args.types.now c.args.params.now (c.args.operand ∷ []) c.in-Some.param.now c.in-Some._rest.now c.args.operand []
    c.in-Some.ensures.cases.0 refl c.requires.fits).0

pub returns-clause-answers : goal.returns-clause-answers
returns-clause-answers c = λ ts facts u given h.
    let p = c.in-Some.param.now in
    let w = valued_of ts c.settled-value.result in
    last_borrowed_of ts p _ c.args.operand given w (borrowed_call c.args.number c.args.at c.args.comparison) c.borrowed_on_one.result
    (subst (λ all. arguments_for (map (parameter_of ts) all) (operand_of ts c.args.operand ∷ []) ≡ Some given) c.in-Some.ensures.cases.0 h)
    (c.settled-value.ensures.given ts facts u)
    (c.borrowed_on_one.ensures.answers ts facts u (parameter_of ts p))

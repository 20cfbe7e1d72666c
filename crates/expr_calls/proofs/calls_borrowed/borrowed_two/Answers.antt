use Rattle.std.proofs.Common.{◌≡◌, [], ◌∷◌, refl, subst, length}
use Rattle.std.specs.Prelude.{map, Some}
use Rattle.expr_rules.specs.Calls.{arguments_for, borrowed_call}
use Rattle.expr_parts.specs.View.{operand_of, parameter_of, valued_of, ParametersWithin}
use Rattle.expr_parts.proofs.ForCallers.{fit_first}
use Rattle.expr_calls.proofs.Operating.{first_borrowed_of}
use Rattle.expr_calls.proofs.calls_borrowed.borrowed_two.Goals as goal

pub settled-value-requires-clause-ty : goal.settled-value-requires-clause-ty
settled-value-requires-clause-ty c = (subst (ParametersWithin (length c.args.types.now)) c.in-Some.ensures.cases.0 c.requires.params).0

pub settled-value-requires-clause-fits : goal.settled-value-requires-clause-fits
settled-value-requires-clause-fits c =
    (fit_first c.args.types.now c.args.params.now (c.args.left ∷ c.args.right ∷ []) c.in-Some.param.now c.in-Some.others.now c.args.left
    (c.args.right ∷ []) c.in-Some.ensures.cases.0 refl c.requires.fits).0

pub borrowed_behind-requires-clause-params : goal.borrowed_behind-requires-clause-params
borrowed_behind-requires-clause-params c = (subst (ParametersWithin (length c.args.types.now)) c.in-Some.ensures.cases.0 c.requires.params).1

pub borrowed_behind-requires-clause-fits : goal.borrowed_behind-requires-clause-fits
borrowed_behind-requires-clause-fits c =
    (fit_first c.args.types.now c.args.params.now (c.args.left ∷ c.args.right ∷ []) c.in-Some.param.now c.in-Some.others.now c.args.left
    (c.args.right ∷ []) c.in-Some.ensures.cases.0 refl c.requires.fits).1

pub returns-clause-answers : goal.returns-clause-answers
returns-clause-answers c = λ ts facts u given h.
    let p = c.in-Some.param.now in
    let ps = c.in-Some.others.now in
    let w = valued_of ts c.settled-value.result in
    let params : c.args.params.now ≡ p ∷ ps = c.in-Some.ensures.cases.0 in
    first_borrowed_of ts p ps c.args.left (c.args.right ∷ []) given w (borrowed_call c.args.number c.args.at c.args.comparison)
    c.borrowed_behind.result
    (subst (λ all. arguments_for (map (parameter_of ts) all) (operand_of ts c.args.left ∷ operand_of ts c.args.right ∷ []) ≡ Some given) params h)
    (c.settled-value.ensures.given ts facts u)
    (λ more m. c.borrowed_behind.ensures.answers ts facts u (parameter_of ts p) more m)

use Rattle.expr_operations.proofs.built_in.taken_by.Goals as goal

pub returns-in-Elements-clause-within : goal.returns-in-Elements-clause-within
returns-in-Elements-clause-within c = λ n k w. c.elements_of.ensures.within n w

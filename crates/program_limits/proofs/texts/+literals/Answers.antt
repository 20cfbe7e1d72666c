use Rattle.std.proofs.Common.{◌∙◌, sym, ap, subst}
use Rattle.nim_program.specs.View.{literal_of}
use Rattle.nim_program.proofs.ForCallers.{parts_of, elements_of}
use Rattle.program_limits.specs.Meeting.{Met, literal_before}
use Rattle.program_limits.proofs.texts.+literals.Goals as goal

pub of_literal-returns-in-Parts : goal.of_literal-returns-in-Parts
of_literal-returns-in-Parts t c met h =
    let whole = ap literal_of c.in-Parts.is ∙ parts_of c.in-Parts.all in
    subst (λ l. Met c.of_literals.new.texts (literal_before l met)) (sym whole) (c.of_literals.ensures met h)

pub of_literal-returns-in-Elements : goal.of_literal-returns-in-Elements
of_literal-returns-in-Elements t c met h =
    let whole = ap literal_of c.in-Elements.is ∙ elements_of c.in-Elements.all in
    subst (λ l. Met c.of_literals-in-Elements.new.texts (literal_before l met)) (sym whole) (c.of_literals-in-Elements.ensures met h)

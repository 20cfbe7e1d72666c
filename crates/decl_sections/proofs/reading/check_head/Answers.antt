use Rattle.std.proofs.Common.{◌≡◌, ℕ, List, ap, subst}
use Rattle.std.specs.Prelude.{Ok, Err}
use Rattle.arc_base.specs.Refusal.{and_then, Answers}
use Rattle.indent_scanner.specs.Words.{normal}
use Rattle.expr_parts.proofs.ForCallers.{answers_as, stops}
use Rattle.decl_rules.specs.Sections.{new_in_section, if_single}
use Rattle.decl_sections.proofs.reading.check_head.Goals as goal

pub returns-in-Err-clause-answers : goal.returns-in-Err-clause-answers
returns-in-Err-clause-answers c = λ names st h d.
    let x = c.args.def.now in
    let new = subst (λ y. Answers {A = Unit {0}} (λ (_ : List ℕ). tt) (new_in_section st names x.name.at (normal y)) (Err c.in-Err.stop)) c.as_slice.ensures
    (c.in-Err.ensures.answers names st h d) in
    stops (λ (_ : Unit {0}). tt) (λ (_ : List ℕ). tt) (new_in_section st names x.name.at (normal x.name.text))
    (λ _. if_single x.parameters.items x.name.at) c.in-Err.stop new

pub returns-clause-answers : goal.returns-clause-answers
returns-clause-answers c = λ names st h d.
    let x = c.args.def.now in
    let said = new_in_section st names x.name.at (normal x.name.text) in
    let new = subst (λ y. new_in_section st names x.name.at (normal y) ≡ Ok tt) c.as_slice.ensures (c.in-Ok.ensures.answers names st h d) in
    answers_as (λ (_ : Unit {0}). tt) (and_then said (λ _. if_single x.parameters.items x.name.at)) (if_single x.parameters.items x.name.at)
    c.check_single.result (ap (λ z. and_then z (λ _. if_single x.parameters.items x.name.at)) new)
    (subst (λ ps. Answers {A = Unit {0}} (λ (_ : Unit {0}). tt) (if_single ps x.name.at) c.check_single.result) c.as_slice-2.ensures.value
    c.check_single.ensures)

use Rattle.std.proofs.Common.{ap, ◌∙◌, ◌++◌, ◌∷◌, []}
use Rattle.std.specs.Prelude.{Ok}
use Rattle.nim_program.specs.View.{label_of}
use Rattle.expr_rules.specs.Choices.{new_label}
use Rattle.expr_parts.proofs.ForCallers.{goes, if_ok, makes, stops}
use Rattle.expr_steps.specs.ViewChoices.{tests_of}
use Rattle.expr_steps.proofs.Branched.{tests_by}
use Rattle.expr_steps.proofs.choices.with_label.Goals as goal

pub returns-in-Ok : goal.returns-in-Ok
returns-in-Ok c =
    let t = tests_of c.args.before in
    let l = label_of c.args.label in
    goes {S = Unit {0}} tests_of (λ _. l) (new_label c.args.at t.all l) (λ l. Ok (tests_by (t.own ++ l ∷ []) (t.all ++ l ∷ []))) tt c.with_own.result
    c.in-Ok.ensures.answers
    (makes tests_of (tests_by (t.own ++ l ∷ []) (t.all ++ l ∷ [])) c.with_own.result
    (if_ok c.with_own.result c.with_own.ensures.made (λ d h. h ∙ ap (tests_by (t.own ++ l ∷ [])) c.in-Ok.ensures.taken)) c.with_own.ensures.memory)

pub returns-in-Err : goal.returns-in-Err
returns-in-Err c =
    let t = tests_of c.args.before in
    let l = label_of c.args.label in
    stops {S = Unit {0}} tests_of (λ _. l) (new_label c.args.at t.all l) (λ l. Ok (tests_by (t.own ++ l ∷ []) (t.all ++ l ∷ [])))
    c.in-Err.stop c.in-Err.ensures.answers

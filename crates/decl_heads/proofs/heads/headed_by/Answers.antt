use Rattle.std.proofs.Common.{◌∙◌, ap, ℕ, true, false}
use Rattle.std.specs.Prelude.{Ok, Option}
use Rattle.arc_base.specs.declared.place.Code.TheVariants.{Redefined}
use Rattle.arc_base.specs.Refusal.{and_then}
use Rattle.expr_parts.proofs.ForCallers.{answers_as, refuses}
use Rattle.decl_rules.specs.State.{if_typed}
use Rattle.decl_rules.specs.Heads.{headed, Headed}
use Rattle.decl_heads.specs.declared.completion.Completion.{Completion}
use Rattle.decl_heads.specs.ViewHeads.{completed_by, signature_of, headed_of}
use Rattle.decl_heads.proofs.Heading.{headed_as, headed_new, headed_old}
use Rattle.decl_heads.proofs.heads.headed_by.Goals as goal

pub returns-in-Nothing-clause-answers : goal.returns-in-Nothing-clause-answers
returns-in-Nothing-clause-answers c = λ ts s st h n e.
    let at = c.args.at in
    let go = λ (o : Option ℕ). and_then (if_typed c.args.fits at) (λ _. Ok (headed st h (signature_of ts s) o)) in
    answers_as (headed_of ts s) (and_then (completed_by at c.args.completion) go)
    (and_then (if_typed c.args.fits at) (λ _. Ok (headed_as (signature_of ts s) c.args.number true c.args.borrowed))) c.headed_if.result
    (ap (λ (k : Completion). and_then (completed_by at k) go) c.in-Nothing.is
    ∙ ap (λ (k : Headed). and_then (if_typed c.args.fits at) (λ _. Ok k)) (headed_new st h (signature_of ts s) c.args.number c.args.borrowed n e))
    (c.headed_if.ensures.answers ts s)

pub returns-in-Of-clause-answers : goal.returns-in-Of-clause-answers
returns-in-Of-clause-answers c = λ ts s st h n e.
    let at = c.args.at in
    let go = λ (o : Option ℕ). and_then (if_typed c.args.fits at) (λ _. Ok (headed st h (signature_of ts s) o)) in
    answers_as (headed_of ts s) (and_then (completed_by at c.args.completion) go)
    (and_then (if_typed c.args.fits at) (λ _. Ok (headed_as (signature_of ts s) c.in-Of.number false c.args.borrowed))) c.headed_if-in-Of.result
    (ap (λ (k : Completion). and_then (completed_by at k) go) c.in-Of.is
    ∙ ap (λ (k : Headed). and_then (if_typed c.args.fits at) (λ _. Ok k)) (headed_old st h (signature_of ts s) c.in-Of.number c.args.borrowed e))
    (c.headed_if-in-Of.ensures.answers ts s)

pub returns-in-Never-clause-answers : goal.returns-in-Never-clause-answers
returns-in-Never-clause-answers c = λ ts s st h n e.
    let at = c.args.at in
    let go = λ (o : Option ℕ). and_then (if_typed c.args.fits at) (λ _. Ok (headed st h (signature_of ts s) o)) in
    refuses (headed_of ts s) (and_then (completed_by at c.args.completion) go) Redefined at c.refusal.result c.refusal.ensures
    (ap (λ (k : Completion). and_then (completed_by at k) go) c.in-Never.is)

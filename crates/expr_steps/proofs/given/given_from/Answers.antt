use Rattle.std.proofs.Common.{◌<◌, subst, ap}
use Rattle.std.specs.Prelude.{Ok, IfOk}
use Rattle.arc_base.specs.Refusal.{and_then, Answers}
use Rattle.expr_rules.specs.Typed.{as_value}
use Rattle.expr_parts.specs.View.{valued_of}
use Rattle.expr_parts.proofs.ForCallers.{stops}
use Rattle.expr_steps.specs.ViewTyping.{given_of}
use Rattle.expr_steps.proofs.given.given_from.Goals as goal

pub returns-in-Ok-clause-answers : goal.returns-in-Ok-clause-answers
returns-in-Ok-clause-answers c = λ ts said h.
    ap (λ a. and_then a (λ v. Ok (as_value v c.args.next))) (subst (λ r. Answers (valued_of ts) said r) c.in-Ok.is h)

pub returns-in-Err-clause-answers : goal.returns-in-Err-clause-answers
returns-in-Err-clause-answers c = λ ts said h.
    stops (given_of ts) (valued_of ts) said (λ v. Ok (as_value v c.args.next)) c.in-Err.stop
    (subst (λ r. Answers (valued_of ts) said r) c.in-Err.is h)

pub returns-in-Ok-clause-within : goal.returns-in-Ok-clause-within
returns-in-Ok-clause-within c = λ n h. subst (λ r. IfOk r (λ v. v.ty < n)) c.in-Ok.is h

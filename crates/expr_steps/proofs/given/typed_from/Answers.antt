use Rattle.std.proofs.Common.{sym, subst, ap, ◌∙◌}
use Rattle.std.specs.Prelude.{Ok, IfOk}
use Rattle.arc_base.specs.Refusal.{and_then, Answers}
use Rattle.nim_types.specs.Table.{IsBelow}
use Rattle.nim_program.specs.View.{expr_of}
use Rattle.expr_rules.specs.Answers.{gives}
use Rattle.expr_parts.specs.View.{number_of, typed_of}
use Rattle.expr_parts.proofs.ForCallers.{stops}
use Rattle.expr_steps.proofs.given.typed_from.Goals as goal

pub returns-in-Ok-clause-answers : goal.returns-in-Ok-clause-answers
returns-in-Ok-clause-answers c = λ ts said h.
    ap (λ a. and_then a (λ e. gives e c.args.next)) (subst (λ r. Answers (expr_of ts) said r) c.in-Ok.is h) ∙ ap Ok (sym (c.gives.ensures.typed ts))

pub returns-in-Err-clause-answers : goal.returns-in-Err-clause-answers
returns-in-Err-clause-answers c = λ ts said h.
    stops (typed_of ts) (expr_of ts) said (λ e. gives e c.args.next) c.in-Err.stop (subst (λ r. Answers (expr_of ts) said r) c.in-Err.is h)

pub returns-in-Ok-clause-within : goal.returns-in-Ok-clause-within
returns-in-Ok-clause-within c = λ n h. (
  c.gives.ensures.ty,
  subst (IsBelow n) (sym (c.gives.ensures.ty ∙ ap number_of c.gives.ensures.expr))
      (subst (λ r. IfOk r (λ e. IsBelow n (number_of e))) c.in-Ok.is h),
)

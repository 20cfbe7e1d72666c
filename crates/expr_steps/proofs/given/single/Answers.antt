use Rattle.std.proofs.Common.{sym, subst, ap, ◌∙◌}
use Rattle.std.specs.Prelude.{Ok}
use Rattle.nim_types.specs.Table.{IsBelow}
use Rattle.nim_program.specs.View.{expr_of}
use Rattle.expr_rules.specs.Answers.{typed_as}
use Rattle.expr_parts.specs.View.{number_of}
use Rattle.expr_steps.proofs.given.single.Goals as goal

pub returns-in-Ok-clause-answers : goal.returns-in-Ok-clause-answers
returns-in-Ok-clause-answers c = λ ts.
    ap Ok (ap (typed_as (expr_of ts c.args.expr)) (sym c.in-Ok.ensures.next) ∙ sym (c.gives.ensures.typed ts))

pub returns-in-Ok-clause-within : goal.returns-in-Ok-clause-within
returns-in-Ok-clause-within c = λ n h.
    (c.gives.ensures.ty, subst (IsBelow n) (sym (c.gives.ensures.ty ∙ ap number_of c.gives.ensures.expr)) h)

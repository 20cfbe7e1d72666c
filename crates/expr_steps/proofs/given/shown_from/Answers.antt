use Rattle.std.proofs.Common.{subst, ap}
use Rattle.arc_base.specs.Refusal.{Answers}
use Rattle.nim_types.specs.Table.{type_at}
use Rattle.nim_program.specs.View.{expr_of}
use Rattle.expr_rules.specs.Answers.{value, valued}
use Rattle.expr_rules.specs.Typed as Typed
use Rattle.expr_parts.proofs.ForCallers.{stops}
use Rattle.expr_steps.specs.ViewTyping.{part_of, text_part}
use Rattle.expr_steps.proofs.given.shown_from.Goals as goal

pub returns-in-Ok-clause-answers : goal.returns-in-Ok-clause-answers
returns-in-Ok-clause-answers c = λ ts said h.
    ap (λ a. text_part a (type_at ts c.args.ty) c.args.next) (subst (λ r. Answers (expr_of ts) said r) c.in-Ok.is h)

pub returns-in-Err-clause-answers : goal.returns-in-Err-clause-answers
returns-in-Err-clause-answers c = λ ts said h.
    stops (part_of ts) (expr_of ts) said (λ e. Typed.part_of (value (valued e (type_at ts c.args.ty))) c.args.next) c.in-Err.stop
    (subst (λ r. Answers (expr_of ts) said r) c.in-Err.is h)

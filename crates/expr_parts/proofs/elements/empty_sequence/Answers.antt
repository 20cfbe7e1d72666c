use Rattle.std.proofs.Common.{sym, subst}
use Rattle.std.specs.Prelude.{Option, ℕ}
use Rattle.arc_base.specs.Refusal.{Answers}
use Rattle.nim_program.specs.View.{expr_of, if_type}
use Rattle.expr_rules.specs.Constructions.{empty_rule}
use Rattle.expr_parts.proofs.elements.empty_sequence.Goals as goal

pub returns-in-Some-clause-answers : goal.returns-in-Some-clause-answers
returns-in-Some-clause-answers c = λ ts facts u.
    subst (λ (o : Option ℕ). Answers (expr_of ts) (empty_rule c.args.number c.args.at (if_type ts o)) c.sequence_without.result) (sym c.in-Some.is)
    (c.sequence_without.ensures.answers ts (c.entry.ensures.means ts facts u))

use Rattle.std.proofs.Common.{sym, subst}
use Rattle.std.specs.Prelude.{Ok}
use Rattle.nim_types.specs.Table.{IsBelow}
use Rattle.nim_program.specs.Nodes.{selecting}
use Rattle.nim_program.specs.Program.{Choose, ByLabels, NoArg}
use Rattle.nim_program.specs.View.{expr_of, if_type, picks_of, pick_labels}
use Rattle.expr_rules.specs.Answers.{node}
use Rattle.expr_parts.proofs.ForCallers.{if_ok, makes}
use Rattle.expr_steps.proofs.endings.case_with.Goals as goal

pub returns-clause-answers : goal.returns-clause-answers
returns-clause-answers c = λ ts.
    let made = Choose (node c.args.number c.args.at) (if_type ts c.args.ty) (ByLabels (pick_labels c.args.picks.items))
    (selecting (expr_of ts c.args.selector) (picks_of ts c.args.picks.items NoArg)) in
    c.typed_from.ensures.answers ts (Ok made)
    (makes (expr_of ts) made c.selected.result (if_ok c.selected.result c.selected.ensures.expr (λ x h. h ts)) c.selected.ensures.memory)

pub returns-clause-within : goal.returns-clause-within
returns-clause-within c = λ n h. c.typed_from.ensures.within n (if_ok c.selected.result c.selected.ensures.number (λ e k. subst (IsBelow n) (sym k) h))

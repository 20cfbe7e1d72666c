use Rattle.std.proofs.Common.{sym, subst, ap, ◌∙◌}
use Rattle.nim_program.specs.View.{if_type}
use Rattle.expr_rules.specs.Demands.{want_in}
use Rattle.expr_parts.specs.View.{want_of}
use Rattle.expr_steps.specs.ViewTyping.{asks_of, AsksWithin}
use Rattle.expr_steps.proofs.Asking.{elements_want}
use Rattle.expr_steps.proofs.asks.Asks.want.Goals as goal

pub returns-in-Elements-clause-want : goal.returns-in-Elements-clause-want
returns-in-Elements-clause-want c = λ ts.
    c.want_or.ensures.want ts ∙ sym (elements_want (want_of ts c.in-Elements.want) (if_type ts c.in-Elements.ty))
    ∙ sym (ap (λ a. want_in (asks_of ts c.args.left.now a)) c.in-Elements.is)

pub returns-in-Elements-clause-within : goal.returns-in-Elements-clause-within
returns-in-Elements-clause-within c = λ n h.
    let w = subst (AsksWithin n c.args.left.now) c.in-Elements.is h in c.want_or.ensures.within n w.0 w.1

pub returns-in-Exactly-clause-within : goal.returns-in-Exactly-clause-within
returns-in-Exactly-clause-within c = λ n h. subst (AsksWithin n c.args.left.now) c.in-Exactly.is h

pub returns-in-Parts-clause-within : goal.returns-in-Parts-clause-within
returns-in-Parts-clause-within c = λ n h. c.first_want.ensures.within n (subst (AsksWithin n c.args.left.now) c.in-Parts.is h)

pub returns-in-Fields-clause-within : goal.returns-in-Fields-clause-within
returns-in-Fields-clause-within c = λ n h. c.first_want-in-Fields.ensures.within n (subst (AsksWithin n c.args.left.now) c.in-Fields.is h)

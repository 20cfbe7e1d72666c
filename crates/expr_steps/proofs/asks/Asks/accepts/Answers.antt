use Rattle.std.proofs.Common.{ap, ◌∙◌}
use Rattle.nim_types.specs.Table.{type_at}
use Rattle.expr_rules.specs.Demands.{accepts, is_selector}
use Rattle.expr_steps.specs.ViewTyping.{asks_of}
use Rattle.expr_steps.proofs.asks.Asks.accepts.Goals as goal

pub returns-in-Exactly : goal.returns-in-Exactly
returns-in-Exactly c = λ ts facts u. ap (λ a. accepts (asks_of ts c.args.left.now a) (type_at ts c.args.ty)) c.in-Exactly.is ∙ c.is_same.ensures ts facts u

pub returns-in-Selector : goal.returns-in-Selector
returns-in-Selector c = λ ts facts u.
    ap (λ a. accepts (asks_of ts c.args.left.now a) (type_at ts c.args.ty)) c.in-Selector.is
    ∙ ap is_selector (c.entry.ensures.means ts facts u) ∙ c.is_selector.ensures ts

pub returns-in-Fields : goal.returns-in-Fields
returns-in-Fields c = λ ts facts u. ap (λ a. accepts (asks_of ts c.args.left.now a) (type_at ts c.args.ty)) c.in-Fields.is ∙ c.is_first.ensures ts facts u

pub returns-in-Elements : goal.returns-in-Elements
returns-in-Elements c = λ ts facts u.
    ap (λ a. accepts (asks_of ts c.args.left.now a) (type_at ts c.args.ty)) c.in-Elements.is
    ∙ c.is_one_of.ensures ts facts u

use Rattle.std.proofs.Common.{sym, ap, ◌∙◌, length}
use Rattle.std.specs.Prelude.{map}
use Rattle.nim_types.specs.Table.{type_at}
use Rattle.expr_steps.specs.ViewTyping.{is_inner}
use Rattle.expr_steps.proofs.Asking.{inner_first}
use Rattle.expr_steps.proofs.asks.is_first.Goals as goal

pub is_inner-requires-clause-want : goal.is_inner-requires-clause-want
is_inner-requires-clause-want c = c.first_want.ensures.within (length c.args.types.now) c.requires.left

pub returns : goal.returns
returns c = λ ts facts u.
    let t = type_at ts c.args.ty in
    inner_first (map (type_at ts) c.args.left.now) t ∙ ap (λ w. is_inner w t) (sym (c.first_want.ensures.field ts)) ∙ c.is_inner.ensures ts facts u

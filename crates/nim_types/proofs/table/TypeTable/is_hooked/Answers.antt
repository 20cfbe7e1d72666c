use Rattle.std.proofs.Common.{sym, ap, ◌∙◌}
use Rattle.std.specs.Prelude.{false}
use Rattle.nim_types.specs.Kept.{at_number}
use Rattle.nim_types.proofs.Sizes.{has_hooks, no_hooks}
use Rattle.nim_types.proofs.table.TypeTable.is_hooked.Goals as goal

pub returns-in-Some : goal.returns-in-Some
returns-in-Some c =
    let t = c.self.inside in
    let at = sym (c.item_at.ensures ∙ ap (λ z. at_number z c.args.id) c.deref.ensures.value) ∙ c.in-Some.is in
    has_hooks t.defs.items c.args.self.now t.known.items c.args.id c.in-Some.storage c.self.view_is c.self.invariant.table
    c.self.invariant.settled c.requires at

pub returns-in-None : goal.returns-in-None
returns-in-None c =
    let t = c.self.inside in
    let at = sym (c.item_at.ensures ∙ ap (λ z. at_number z c.args.id) c.deref.ensures.value) ∙ c.in-None.is in
    no_hooks t.defs.items c.args.self.now t.known.items c.args.id false c.self.view_is c.self.invariant.table c.self.invariant.settled c.requires at

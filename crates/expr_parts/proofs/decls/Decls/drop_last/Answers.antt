use Rattle.std.proofs.Common.{ap, ◌∙◌}
use Rattle.expr_parts.specs.ViewDecls.{slot}
use Rattle.expr_parts.proofs.Indexing.{indexed_pop}
use Rattle.expr_parts.proofs.decls.Decls.drop_last.Goals as goal

pub invariant_of-self : goal.invariant_of-self
invariant_of-self c =
    let t = c.self.inside in
    indexed_pop t.decls.items c.take_last-decl.new.self.items t.lasts.items t.befores.items c.take_last-before.new.self.items c.take_last-decl.result
    c.slot_of.result c.take_last-before.result c.self.invariant (c.slot_of.ensures.is ∙ ap slot c.as_slice.ensures) c.slot_of.ensures.below
    c.take_last-decl.ensures.items c.take_last-before.ensures.items

use Rattle.std.proofs.Common.{◌++◌, ◌∷◌, [], ap, ◌∙◌, arith}
use Rattle.expr_parts.specs.ViewDecls.{at_number, slot}
use Rattle.expr_parts.proofs.Indexing.{indexed_push}
use Rattle.expr_parts.proofs.decls.Decls.push.Goals as goal

pub invariant_of-self-2 : goal.invariant_of-self-2
invariant_of-self-2 c =
    let t = c.self.inside in
    let d = c.args.decl in
    indexed_push t.decls.items c.push_reserved-2.new.self.items t.lasts.items t.befores.items c.push_reserved.new.self.items d c.slot_of-slot.result
    c.len-count.result c.number_at.result c.self.invariant
    (c.slot_of-slot.ensures.is ∙ ap slot c.as_slice.ensures) c.slot_of-slot.ensures.below (omega arith) (omega arith)
    (c.number_at.ensures ∙ ap (λ z. at_number z c.slot_of-slot.result) c.deref.ensures.value)
    (c.push_reserved-2.ensures.items ∙ ap (λ z. z ++ d ∷ []) c.reserve-2.ensures.items)
    (c.push_reserved.ensures.items ∙ ap (λ z. z ++ c.number_at.result ∷ []) c.reserve.ensures.items)

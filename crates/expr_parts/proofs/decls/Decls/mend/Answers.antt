use Rattle.std.proofs.Common.{◌≡◌, List, length, drop, sym, ap, ◌∙◌, arith, subst}
use Rattle.expr_parts.specs.declared.scope.Decl.{Decl}
use Rattle.expr_parts.specs.ViewDecls.{mended, IsIndexed}
use Rattle.expr_parts.proofs.Indexing.{indexed_mended, mended_length, written}
use Rattle.expr_parts.proofs.decls.Decls.mend.Goals as goal

pub invariant_of-self : goal.invariant_of-self
invariant_of-self c =
    let t = c.self.inside in
    let ds = t.decls.items in
    let i = c.args.number in
    let w = c.args.what in
    let new = c.give.new.decls in
    let done : new ≡ mended ds i w = c.give.ensures ∙ ap (λ z. mended z i w) c.deref_mut.ensures.value in
    let long : t.decls.len ≡ length new =
    omega (arith, ap length done, mended_length ds i w, c.deref_mut.ensures.len, ap length c.deref_mut.ensures.value) in
    subst (λ (z : List Decl). IsIndexed z t.lasts.items t.befores.items) (sym (written t.decls.len new (drop (length new) ds) long ∙ done))
    (indexed_mended ds t.lasts.items t.befores.items i w c.self.invariant)

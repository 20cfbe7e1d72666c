use Rattle.std.proofs.Common.{◌<◌, ℕ, suc, sym, ◌∙◌, subst}
use Rattle.std.specs.Prelude.{Option}
use Rattle.expr_parts.specs.ViewDecls.{in_slot, slot, is_named}
use Rattle.expr_parts.proofs.Indexing.{named_within, stops_below, skips_below, none_below, found_below, before_in, smaller, up_to}
use Rattle.expr_parts.proofs.slots.named_from.Goals as goal

pub returns-then-is_named : goal.returns-then-is_named
returns-then-is_named c = λ n e.
    let ds = c.args.decls.now in
    let x = c.args.name.now in
    let r = c.loop-next.invariant n e in
    sym (r.2 ∙ stops_below (in_slot ds (slot x)) (is_named ds x) r.0 c.in-Some.number (named_within ds x) (sym r.1 ∙ c.in-Some.is)
    (sym c.if-is_named.ensures))

pub loop-next-smaller : goal.loop-next-smaller
loop-next-smaller c =
    let befores = c.args.befores.now in
    let i = c.in-Some.number in
    subst (λ (o : Option ℕ). up_to c.number_at-next.result < up_to o) (sym c.in-Some.is)
    (subst (λ (o : Option ℕ). up_to o < suc i) (sym c.number_at-next.ensures) (smaller c.args.decls.now befores i c.requires))

pub loop-next-preserved : goal.loop-next-preserved
loop-next-preserved c = λ n e.
    let ds = c.args.decls.now in
    let x = c.args.name.now in
    let i = c.in-Some.number in
    let r = c.loop-next.invariant n e in
    let at = found_below (in_slot ds (slot x)) r.0 i (sym r.1 ∙ c.in-Some.is) in (
      i,
      c.number_at-next.ensures ∙ before_in ds c.args.befores.now (slot x) i c.requires at.0,
      r.2 ∙ skips_below (in_slot ds (slot x)) (is_named ds x) r.0 i (named_within ds x) (sym r.1 ∙ c.in-Some.is) (sym c.if-is_named.ensures),
    )

pub returns : goal.returns
returns c = λ n e.
    let ds = c.args.decls.now in
    let x = c.args.name.now in
    let r = c.loop-next.invariant n e in
    sym (r.2 ∙ none_below (in_slot ds (slot x)) (is_named ds x) r.0 (named_within ds x) (sym r.1 ∙ c.in_default.is))

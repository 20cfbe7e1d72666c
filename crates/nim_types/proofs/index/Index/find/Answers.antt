use Rattle.std.proofs.Common.{◌≡◌, ℕ, sym, ap, ap₂, ◌∙◌, subst}
use Rattle.std.specs.Prelude.{Option}
use Rattle.nim_types.specs.Kept.{at_number, slot}
use Rattle.nim_types.proofs.Slots.{Ahead, all_ahead, goes_on, nothing_ahead}
use Rattle.nim_types.proofs.index.Index.find.Goals as goal

pub loop-next-init : goal.loop-next-init
loop-next-init c =
    let ds = c.args.defs.now in
    let heads = c.args.self.now.heads.items in
    let nexts = c.args.self.now.nexts.items in
    let d = c.args.def.now in
    let first : at_number heads (slot d) ≡ c.item_at-next.result =
    sym (c.item_at-next.ensures ∙ ap₂ (λ a b. at_number a b) c.deref.ensures.value c.slot_of.ensures) in
    subst (λ (o : Option ℕ). Ahead ds nexts d o) first (all_ahead ds heads nexts d c.requires)

pub loop-next-preserved : goal.loop-next-preserved
loop-next-preserved c =
    let ds = c.args.defs.now in
    let nexts = c.args.self.now.nexts.items in
    let d = c.args.def.now in
    let id = c.in-Some.id in
    let next : at_number nexts id ≡ c.item_at-next-in-Some.result =
    sym (c.item_at-next-in-Some.ensures ∙ ap (λ a. at_number a id) c.deref-in-Some.ensures.value) in
    let ahead = subst (λ (o : Option ℕ). Ahead ds nexts d o) c.in-Some.is c.loop-next.invariant in
    subst (λ (o : Option ℕ). Ahead ds nexts d o) next (goes_on ds nexts d id ahead (sym c.if-has_at.ensures))

pub returns-clause-none : goal.returns-clause-none
returns-clause-none c =
    let ds = c.args.defs.now in
    let nexts = c.args.self.now.nexts.items in
    let d = c.args.def.now in
    nothing_ahead ds nexts d (subst (λ (o : Option ℕ). Ahead ds nexts d o) c.in_default.is c.loop-next.invariant)

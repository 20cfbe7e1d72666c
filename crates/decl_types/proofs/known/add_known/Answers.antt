use Rattle.std.proofs.Common.{◌≡◌, length, sym, subst, ap, ◌∙◌}
use Rattle.decl_types.specs.ViewKnown.{AddsMeant, Kept, Ordered, NodesIn, MeaningWithin}
use Rattle.decl_types.proofs.Declaring.{kept_grown}
use Rattle.decl_types.proofs.Becoming.{NodesAre, kept_known, becomes, typed_as}
use Rattle.decl_types.proofs.known.add_known.Goals as goal

pub types_of-requires-clause-ordered : goal.types_of-requires-clause-ordered
types_of-requires-clause-ordered c = subst (Ordered 0) (sym c.as_slice.ensures.value) c.requires.ordered.nodes

pub types_of-requires-clause-nodes : goal.types_of-requires-clause-nodes
types_of-requires-clause-nodes c =
    subst (NodesIn (length c.args.types.now) (length c.args.known.now)) (sym c.as_slice.ensures.value) c.requires.sound.nodes

pub add_meant-requires-clause-meaning : goal.add_meant-requires-clause-meaning
add_meant-requires-clause-meaning c =
    let n : length c.args.definition.now.nodes.items ≡ length c.as_slice-2.result.now =
    sym (ap length c.as_slice-2.ensures.value ∙ c.in_ok-ids.ensures.count ∙ ap length c.as_slice.ensures.value) in
    subst (λ k. MeaningWithin k c.args.definition.now.meaning) n c.requires.ordered.meaning

pub add_meant-requires-clause-one_each : goal.add_meant-requires-clause-one_each
add_meant-requires-clause-one_each c = c.requires.sound.fields

pub returns-in_err-ids-clause-kept : goal.returns-in_err-ids-clause-kept
returns-in_err-ids-clause-kept c = kept_grown c.args.types.now c.types_of.new.types c.types_of.ensures.grown

pub returns-clause-kept : goal.returns-clause-kept
returns-clause-kept c =
    subst (Kept c.args.types.now) (sym c.in-Err.ensures.same) (kept_grown c.args.types.now c.types_of.new.types c.types_of.ensures.grown)

pub returns-in-Ok-clause-kept : goal.returns-in-Ok-clause-kept
returns-in-Ok-clause-kept c =
    let mid = c.types_of.new.types in
    let new = c.add_meant.new.types in
    let d = c.args.definition.now in
    let adds = subst (λ is. AddsMeant mid new is d d.meaning c.in-Ok.id) c.as_slice-2.ensures.value c.in-Ok.ensures.adds in
    kept_known c.args.types.now mid new c.in_ok-ids.ids.items c.in-Ok.id d c.types_of.ensures.grown c.count-before.ensures.table c.count-behind.ensures.table
    c.in_ok-ids.ensures.within adds (λ whole ty f h. c.table_growth.ensures.forms mid new whole ty f c.in-Ok.ensures.grows h)

pub returns-in-Ok-clause-typed : goal.returns-in-Ok-clause-typed
returns-in-Ok-clause-typed c = λ ts facts u.
    let d = c.args.definition.now in
    typed_as c.types_of.new.types c.add_meant.new.types c.as_slice-2.result.now c.in-Ok.id d d.meaning ts facts c.in-Ok.ensures.adds u

pub returns-in-Ok-clause-becomes : goal.returns-in-Ok-clause-becomes
returns-in-Ok-clause-becomes c =
    let mid = c.types_of.new.types in
    let new = c.add_meant.new.types in
    let d = c.args.definition.now in
    let known = c.args.known.now in
    let adds = subst (λ is. AddsMeant mid new is d d.meaning c.in-Ok.id) c.as_slice-2.ensures.value c.in-Ok.ensures.adds in
    becomes c.args.types.now mid new known c.in_ok-ids.ids.items c.in-Ok.id d c.types_of.ensures.grown c.count-before.ensures.table
    c.in_ok-ids.ensures.within (subst (NodesAre mid known c.in_ok-ids.ids.items) c.as_slice.ensures.value c.in_ok-ids.ensures.means)
    (subst (λ l. MeaningWithin l d.meaning) (sym (c.in_ok-ids.ensures.count ∙ ap length c.as_slice.ensures.value)) c.requires.ordered.meaning)
    c.requires.named adds

use Rattle.std.proofs.Common.{◌<◌, length, sym, subst, ap, ap₂, ◌∙◌, arith}
use Rattle.std.specs.Prelude.{map}
use Rattle.nim_types.specs.Types as type
use Rattle.nim_types.specs.Table.{type_at, types_at, AllBelow}
use Rattle.expr_parts.proofs.ForCallers.{if_ok}
use Rattle.decl_rules.specs.Meanings.{renamed}
use Rattle.decl_types.specs.ViewNodes.{node_type}
use Rattle.decl_types.specs.ViewKnown.{NodeIn, MadeBelow}
use Rattle.decl_types.specs.ViewMarks.{node_mark, is_unknown}
use Rattle.std.proofs.lemmas.List.{length-map}
use Rattle.decl_types.proofs.Renaming.{each_renamed, named_means}
use Rattle.decl_types.proofs.known.type_of.Goals as goal

pub returns-in-Known-clause-within : goal.returns-in-Known-clause-within
returns-in-Known-clause-within c = subst (NodeIn (length c.args.types.now) (length c.args.known.now)) c.in-Known.is c.requires.node

pub returns-in-Known-clause-means : goal.returns-in-Known-clause-means
returns-in-Known-clause-means c = λ n m w ts facts u keys by done before known stays e f.
    let is = subst (NodeIn n m) c.in-Known.is w in
    sym (stays c.in-Known.id is) ∙ ap (λ node. renamed by (node_type ts keys done node)) (sym c.in-Known.is)

pub type_of_named-requires-clause-number : goal.type_of_named-requires-clause-number
type_of_named-requires-clause-number c = subst (NodeIn (length c.args.types.now) (length c.args.known.now)) c.in-Named.is c.requires.node

pub returns-in-Named-clause-means : goal.returns-in-Named-clause-means
returns-in-Named-clause-means c = named_means c.type_of_named.result (λ marked. c.type_of_named.ensures.known marked)
    (λ id at. λ n m w ts facts u keys by done before known stays e f.
    known c.in-Named.number id (at (ap (node_mark (map is_unknown c.args.known.now) before) (sym c.in-Named.is) ∙ f))
    ∙ ap (λ node. renamed by (node_type ts keys done node)) (sym c.in-Named.is))

pub sequence_of-requires : goal.sequence_of-requires
sequence_of-requires c = subst (MadeBelow (length c.args.ids.now)) c.in-Sequence.is c.requires.ordered

pub array_of-requires : goal.array_of-requires
array_of-requires c = subst (MadeBelow (length c.args.ids.now)) c.in-Array.is c.requires.ordered

pub tuple_of-requires : goal.tuple_of-requires
tuple_of-requires c =
    subst (AllBelow (length c.args.ids.now)) (sym c.as_slice-in-Tuple.ensures)
    (subst (MadeBelow (length c.args.ids.now)) c.in-Tuple.is c.requires.ordered)

pub add-requires-clause-within : goal.add-requires-clause-within
add-requires-clause-within c = c.sequence_of.ensures.within (length c.args.types.now) c.requires.below

pub add-requires-in-Array-clause-within : goal.add-requires-in-Array-clause-within
add-requires-in-Array-clause-within c = c.array_of.ensures.within (length c.args.types.now) c.requires.below

pub add-requires-in-Tuple-clause-within : goal.add-requires-in-Tuple-clause-within
add-requires-in-Tuple-clause-within c = c.in_ok-tuple_of-in-Tuple.ensures.within (length c.args.types.now) c.requires.below

pub returns-in-Sequence-clause-means : goal.returns-in-Sequence-clause-means
returns-in-Sequence-clause-means c =
    if_ok c.add.result c.add.ensures.means (λ id is n m w ts facts u keys by done before known stays e f.
    let marks = map is_unknown c.args.known.now in
    let of = c.in-Sequence.of in
    let made = subst (MadeBelow (length c.args.ids.now)) c.in-Sequence.is c.requires.ordered in
    let inside : of < length (map (type_at ts) c.args.ids.now) = omega (arith, made, length-map c.args.ids.now (type_at ts)) in
    is ts facts u ∙ c.sequence_of.ensures.means ts ∙ ap type.sequence (e of inside (ap (node_mark marks before) (sym c.in-Sequence.is) ∙ f))
    ∙ ap (λ node. renamed by (node_type ts keys done node)) (sym c.in-Sequence.is))

pub returns-in-Array-clause-means : goal.returns-in-Array-clause-means
returns-in-Array-clause-means c =
    if_ok c.add-in-Array.result c.add-in-Array.ensures.means (λ id is n m w ts facts u keys by done before known stays e f.
    let marks = map is_unknown c.args.known.now in
    let of = c.in-Array.of in
    let made = subst (MadeBelow (length c.args.ids.now)) c.in-Array.is c.requires.ordered in
    let inside : of < length (map (type_at ts) c.args.ids.now) = omega (arith, made, length-map c.args.ids.now (type_at ts)) in
    is ts facts u ∙ c.array_of.ensures.means ts ∙ ap (type.array c.in-Array.len) (e of inside (ap (node_mark marks before) (sym c.in-Array.is) ∙ f))
    ∙ ap (λ node. renamed by (node_type ts keys done node)) (sym c.in-Array.is))

pub returns-in_ok-tuple_of-in-Tuple-clause-means : goal.returns-in_ok-tuple_of-in-Tuple-clause-means
returns-in_ok-tuple_of-in-Tuple-clause-means c =
    if_ok c.add-in-Tuple.result c.add-in-Tuple.ensures.means (λ id is n m w ts facts u keys by done before known stays e f.
    let marks = map is_unknown c.args.known.now in
    let us = map (type_at ts) c.args.ids.now in
    let parts = c.in-Tuple.parts in
    let made = subst (MadeBelow (length c.args.ids.now)) c.in-Tuple.is c.requires.ordered in
    let inside : AllBelow (length us) parts = subst (λ k. AllBelow k parts) (sym (length-map c.args.ids.now (type_at ts))) made in
    is ts facts u ∙ c.in_ok-tuple_of-in-Tuple.ensures.means ts
    ∙ ap₂ (λ names is. type.tuple names (types_at us is)) c.as_slice.ensures c.as_slice-in-Tuple.ensures
    ∙ ap (type.tuple c.in-Tuple.names) (each_renamed by before us done parts e inside (ap (node_mark marks before) (sym c.in-Tuple.is) ∙ f))
    ∙ ap (λ node. renamed by (node_type ts keys done node)) (sym c.in-Tuple.is))

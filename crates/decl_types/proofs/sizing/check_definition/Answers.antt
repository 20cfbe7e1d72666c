use Rattle.std.proofs.Common.{◌≡◌, length, sym, ap, subst, ◌∙◌}
use Rattle.std.specs.Prelude.{Ok, Err, map}
use Rattle.arc_base.specs.Refusal.{and_then, Answers}
use Rattle.nim_types.specs.Table.{type_at, AllBelow}
use Rattle.expr_parts.proofs.ForCallers.{answers_as, stops}
use Rattle.decl_rules.specs.Meanings.{renamed}
use Rattle.decl_rules.specs.Sections.{formed_within, meant_within}
use Rattle.decl_types.specs.ViewKnown.{NodesIn, Ordered, key_by, meant_by, meaning_by}
use Rattle.decl_types.specs.ViewNodes.{formed_nodes, node_types}
use Rattle.decl_types.specs.ViewSized.{nodes_sized}
use Rattle.decl_types.proofs.Declaring.{kept_grown}
use Rattle.decl_types.proofs.Ordering.{below_more, stands_more}
use Rattle.std.proofs.lemmas.List.{length-map}
use Rattle.decl_types.specs.ViewMarks.{is_unknown}
use Rattle.decl_types.proofs.Renaming.{all_renamed, types_count}
use Rattle.decl_types.proofs.Sizes.{sized_is}
use Rattle.decl_types.proofs.sizing.check_definition.Goals as goal

pub returns-in-Ok-clause-answers : goal.returns-in-Ok-clause-answers
returns-in-Ok-clause-answers c = λ n m ts facts keys k u sound known same.
    let d = c.args.definition.now in
    let nodes = d.nodes.items in
    let us = map (type_at ts) c.in_ok-ids.ids.items in
    let slice = c.as_slice.result.now in
    let count : length us ≡ length (node_types ts keys slice) =
    length-map c.in_ok-ids.ids.items (type_at ts) ∙ c.in_ok-ids.ensures.count ∙ sym (types_count ts keys slice) in
    let types = all_renamed (meaning_by k) (map is_unknown c.args.known.now) slice us (node_types ts keys slice) count c.requires.all
    (c.in_ok-ids.ensures.means n m (subst (NodesIn n m) (sym c.as_slice.ensures.value) sound.nodes) ts facts u keys (meaning_by k) known same)
    ∙ ap (λ ns. map (renamed (meaning_by k)) (node_types ts keys ns)) c.as_slice.ensures.value in
    let sized = sized_is ts keys facts k nodes us types in
    let rest = meant_within facts (key_by d) (meant_by ts keys d) in
    let done : nodes_sized facts nodes us ≡ Ok tt =
    subst (λ ns. nodes_sized facts ns us ≡ Ok tt) c.as_slice-2.ensures.value
    (subst (λ is. nodes_sized facts c.as_slice-2.result.now (map (type_at ts) is) ≡ Ok tt) c.as_slice-3.ensures.value (c.in-Ok.ensures ts facts u)) in
    answers_as (λ (_ : Unit {0}). tt) (and_then (formed_within facts k (formed_nodes ts keys nodes)) (λ _. rest)) rest c.check_meant.result
    (ap (λ z. and_then z (λ _. rest)) (sized ∙ done)) (c.check_meant.ensures ts facts keys u)

pub returns-clause-answers : goal.returns-clause-answers
returns-clause-answers c = λ n m ts facts keys k u sound known same.
    let d = c.args.definition.now in
    let nodes = d.nodes.items in
    let us = map (type_at ts) c.in_ok-ids.ids.items in
    let slice = c.as_slice.result.now in
    let count : length us ≡ length (node_types ts keys slice) =
    length-map c.in_ok-ids.ids.items (type_at ts) ∙ c.in_ok-ids.ensures.count ∙ sym (types_count ts keys slice) in
    let types = all_renamed (meaning_by k) (map is_unknown c.args.known.now) slice us (node_types ts keys slice) count c.requires.all
    (c.in_ok-ids.ensures.means n m (subst (NodesIn n m) (sym c.as_slice.ensures.value) sound.nodes) ts facts u keys (meaning_by k) known same)
    ∙ ap (λ ns. map (renamed (meaning_by k)) (node_types ts keys ns)) c.as_slice.ensures.value in
    let sized = sized_is ts keys facts k nodes us types in
    let rest = meant_within facts (key_by d) (meant_by ts keys d) in
    let stopped = subst (λ ns. Answers {A = Unit {0}} {T = Unit {0}} (λ _. tt) (nodes_sized facts ns us) (Err c.in-Err.stop)) c.as_slice-2.ensures.value
    (subst (λ is. Answers {A = Unit {0}} {T = Unit {0}} (λ _. tt) (nodes_sized facts c.as_slice-2.result.now (map (type_at ts) is)) (Err c.in-Err.stop))
    c.as_slice-3.ensures.value (c.in-Err.ensures ts facts u)) in
    answers_as (λ (_ : Unit {0}). tt) (and_then (formed_within facts k (formed_nodes ts keys nodes)) (λ _. rest))
    (and_then (nodes_sized facts nodes us) (λ _. rest)) (Err c.in-Err.stop) (ap (λ z. and_then z (λ _. rest)) sized)
    (stops (λ (_ : Unit {0}). tt) (λ (_ : Unit {0}). tt) (nodes_sized facts nodes us) (λ _. rest) c.in-Err.stop stopped)

pub types_of-requires-clause-ordered : goal.types_of-requires-clause-ordered
types_of-requires-clause-ordered c = subst (Ordered 0) (sym c.as_slice.ensures.value) c.requires.ordered.nodes

pub types_of-requires-clause-nodes : goal.types_of-requires-clause-nodes
types_of-requires-clause-nodes c =
    subst (NodesIn (length c.args.types.now) (length c.args.known.now)) (sym c.as_slice.ensures.value) c.requires.sound.nodes

pub check_meant-requires-clause-below : goal.check_meant-requires-clause-below
check_meant-requires-clause-below c =
    below_more (length c.args.types.now) (length c.types_of.new.types) c.args.known.now c.types_of.ensures.grown.length c.requires.known

pub check_meant-requires-clause-stands : goal.check_meant-requires-clause-stands
check_meant-requires-clause-stands c =
    stands_more c.args.types.now c.types_of.new.types c.args.known.now c.args.number c.args.definition.now
    (kept_grown c.args.types.now c.types_of.new.types c.types_of.ensures.grown) c.requires.stands

pub check_nodes-requires-clause-formed : goal.check_nodes-requires-clause-formed
check_nodes-requires-clause-formed c = c.types_of.ensures.grown.formed c.requires.formed

pub check_nodes-requires-clause-within : goal.check_nodes-requires-clause-within
check_nodes-requires-clause-within c =
    subst (AllBelow (length c.types_of.new.types)) (sym c.as_slice-3.ensures.value) c.in_ok-ids.ensures.within

pub check_nodes-requires-clause-count : goal.check_nodes-requires-clause-count
check_nodes-requires-clause-count c =
    ap length c.as_slice-3.ensures.value ∙ c.in_ok-ids.ensures.count ∙ ap length (c.as_slice.ensures.value ∙ sym c.as_slice-2.ensures.value)

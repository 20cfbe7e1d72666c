use Rattle.std.proofs.Common.{sym, ap, subst, ◌∙◌}
use Rattle.nim_types.specs.Table.{type_at}
use Rattle.expr_parts.proofs.ForCallers.{answers_as}
use Rattle.decl_rules.specs.Written.{within_size}
use Rattle.decl_rules.specs.Sections.{meant_within}
use Rattle.decl_types.specs.ViewKnown.{HasType, meant_of, key_by, meant_by}
use Rattle.decl_types.proofs.Counting.{known_there}
use Rattle.decl_types.specs.ViewNodes.{node_types}
use Rattle.decl_types.proofs.sizing.check_meant.Goals as goal

pub returns-in-Object : goal.returns-in-Object
returns-in-Object c = λ ts facts keys u.
    let d = c.args.definition.now in
    let id = c.known_type-id.result in
    let done = node_types ts keys d.nodes.items in
    let ty = subst (λ m. HasType d m (type_at ts id)) c.in-Object.is (c.requires.stands id c.known_type-id.ensures ts facts u) in
    answers_as (λ (_ : Unit {0}). tt) (meant_within facts (key_by d) (meant_by ts keys d)) (within_size facts d.at (type_at ts id))
    c.check_size.result
    (ap (λ m. meant_within facts (key_by d) (meant_of done m)) c.in-Object.is ∙ ap (within_size facts d.at) (sym ty))
    (c.check_size.ensures ts facts u)

pub check_size-requires-clause-within : goal.check_size-requires-clause-within
check_size-requires-clause-within c = c.requires.below c.args.number c.known_type-id.result c.known_type-id.ensures

pub known_type-id-requires : goal.known_type-id-requires
known_type-id-requires c = known_there c.args.known.now c.args.number c.requires.room (c.requires.all c.args.number)

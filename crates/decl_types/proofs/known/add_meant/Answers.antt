use Rattle.std.proofs.Common.{length, refl, sym, ap, subst, ◌∙◌}
use Rattle.expr_parts.proofs.ForCallers.{if_ok}
use Rattle.decl_types.specs.declared.known.Meaning.{Meaning}
use Rattle.decl_types.specs.declared.known.Meaning.TheVariants as M
use Rattle.nim_types.specs.Table.{AllBelow}
use Rattle.decl_types.specs.ViewKnown.{AddsMeant, MeaningWithin, OneEach}
use Rattle.decl_types.proofs.Becoming.{object_meant}
use Rattle.decl_types.proofs.known.add_meant.Goals as goal

pub add_fields-requires-clause-nodes : goal.add_fields-requires-clause-nodes
add_fields-requires-clause-nodes c =
    subst (AllBelow (length c.args.ids.now)) (sym c.as_slice-in-Object.ensures)
    (subst (MeaningWithin (length c.args.ids.now)) c.in-Object.is c.requires.meaning).0

pub add_fields-requires-clause-one_each : goal.add_fields-requires-clause-one_each
add_fields-requires-clause-one_each c =
    ap length c.as_slice.ensures ∙ subst OneEach c.in-Object.is c.requires.one_each ∙ sym (ap length c.as_slice-in-Object.ensures)

pub add_base-requires-clause-base : goal.add_base-requires-clause-base
add_base-requires-clause-base c = subst (MeaningWithin (length c.args.ids.now)) c.in-Distinct.is c.requires.meaning

pub id_at-requires : goal.id_at-requires
id_at-requires c = subst (MeaningWithin (length c.args.ids.now)) c.in-Alias.is c.requires.meaning

pub returns-in-Object-clause-adds : goal.returns-in-Object-clause-adds
returns-in-Object-clause-adds c = if_ok c.add_fields.result c.add_fields.ensures.declares (λ id a.
    object_meant c.args.types.now c.add_fields.new.types c.args.ids.now id c.args.definition.now c.args.definition.now.meaning c.in-Object.fields
    c.as_slice.result.now c.in-Object.nodes c.as_slice-in-Object.result.now c.in-Object.is c.as_slice.ensures c.as_slice-in-Object.ensures a)

pub returns-in-Enum-clause-adds : goal.returns-in-Enum-clause-adds
returns-in-Enum-clause-adds c = if_ok c.add_enum.result c.add_enum.ensures.declares (λ id a.
    subst (λ (m : Meaning). AddsMeant c.args.types.now c.add_enum.new.types c.args.ids.now c.args.definition.now m id)
    (ap M.Enum c.as_slice-in-Enum.ensures ∙ sym c.in-Enum.is) a)

pub returns-in-Distinct-clause-adds : goal.returns-in-Distinct-clause-adds
returns-in-Distinct-clause-adds c = if_ok c.add_base.result c.add_base.ensures.declares (λ id a.
    subst (λ (m : Meaning). AddsMeant c.args.types.now c.add_base.new.types c.args.ids.now c.args.definition.now m id) (sym c.in-Distinct.is) a)

pub returns-in-Alias-clause-adds : goal.returns-in-Alias-clause-adds
returns-in-Alias-clause-adds c =
    subst (λ (m : Meaning). AddsMeant c.args.types.now c.args.types.now c.args.ids.now c.args.definition.now m c.id_at.result)
    (sym c.in-Alias.is) (c.id_at.ensures, refl)

pub returns-in-Alias-clause-grows : goal.returns-in-Alias-clause-grows
returns-in-Alias-clause-grows c = c.table_growth.ensures.same c.args.types.now

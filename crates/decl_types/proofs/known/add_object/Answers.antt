use Rattle.std.proofs.Common.{◌∷◌, [], length, ap, ◌∙◌, arith, length-append}
use Rattle.std.specs.Prelude.{false}
use Rattle.nim_types.specs.declared.types.TypeDef.TheVariants as D
use Rattle.nim_types.proofs.ForCallers.{all_more}
use Rattle.decl_types.proofs.Numbering.{object_declared}
use Rattle.decl_types.proofs.known.add_object.Goals as goal

pub complete-requires-clause-below : goal.complete-requires-clause-below
complete-requires-clause-below c =
    let m = c.in-Ok.ensures.declares in
    let d = D.Object c.in_ok-from_slice.field-0 c.args.definition.now.at c.new.result c.in_ok-field_copies.field-0 false c.new-2.result in
    let l = ap length m.more in
    all_more (length c.args.types.now) (length c.add_new.new.types) c.args.parts (omega (arith, l, length-append c.args.types.now (d ∷ []))) c.requires.within

pub returns-in-Ok-clause-grows : goal.returns-in-Ok-clause-grows
returns-in-Ok-clause-grows c =
    c.table_growth.ensures.further c.args.types.now c.add_new.new.types c.complete.new.self c.in-Ok.ensures.grows c.complete.ensures.grows

pub returns-in-Ok-clause-declares : goal.returns-in-Ok-clause-declares
returns-in-Ok-clause-declares c =
    object_declared c.args.types.now c.add_new.new.types c.complete.new.self c.in-Ok.id c.in_ok-from_slice.field-0 c.args.definition.now.name
    c.args.definition.now.at c.new.result c.in_ok-field_copies.field-0 c.args.fields.now c.new-2.result c.args.parts c.in-Ok.ensures.declares
    (c.in_ok-from_slice.ensures ∙ c.as_slice.ensures) c.new.ensures c.in_ok-field_copies.ensures c.complete.ensures.completed

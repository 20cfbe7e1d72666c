use Rattle.std.proofs.Common.{sym, ap, ◌∙◌}
use Rattle.std.specs.Prelude.{option_map}
use Rattle.nim_types.specs.Types.{fields_in}
use Rattle.nim_types.specs.Table.{fields_fact}
use Rattle.expr_rules.specs.Constructions.{field_among}
use Rattle.expr_parts.specs.View.{found_of, field_from}
use Rattle.expr_parts.proofs.Fields.{field_is, all_known, none_known}
use Rattle.expr_parts.proofs.parts.object_field.Goals as goal

pub returns-then-count-parts-clause-found : goal.returns-then-count-parts-clause-found
returns-then-count-parts-clause-found c = λ ts env key own_hooks h.
    let x = c.args.name.now in
    sym (ap (λ o. field_among env key x 0 (fields_in (fields_fact o own_hooks))) (none_known ts c.args.fields.now c.args.parts.now c.if-count-parts.true))

pub returns-clause-found : goal.returns-clause-found
returns-clause-found c = λ ts env key own_hooks h.
    let x = c.args.name.now in
    let fs = c.args.fields.now in
    let ps = c.args.parts.now in
    ap (option_map (found_of ts)) (c.field_from.ensures.found ∙ ap (λ b. field_from x b 0 fs ps) (sym h)) ∙ field_is ts env key x 0 fs ps
    ∙ sym (ap (λ o. field_among env key x 0 (fields_in (fields_fact o own_hooks))) (all_known ts fs ps c.if-count-parts.false))

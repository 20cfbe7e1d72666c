use Rattle.std.proofs.Common.{◌+◌, ◌++◌, ap, sym, ◌∙◌, drop, arith, append-nil, append_assoc}
use Rattle.std.specs.Prelude.{map}
use Rattle.nim_tree.specs.Types.{fields_of}
use Rattle.expr_parts.proofs.ForCallers.{next_item, none_left}
use Rattle.decl_sections.specs.ViewBodies.{field_name, all_field_names}
use Rattle.decl_sections.proofs.bodies.field_names.Goals as goal

pub loop-field-preserved : goal.loop-field-preserved
loop-field-preserved c =
    let at = c.loop-field in
    let x = c.field-item.result in
    let rest = all_field_names (fields_of (drop (at.field-index + 1) c.args.fields.now)) in
    let e = next_item c.args.fields.now at.field-index x c.field-item.is c.loop-field-test.true in
    ap (λ fs. fs ++ rest) (c.in_ok-add_fields.ensures.names ∙ ap (λ ds. at.names ++ map field_name ds) c.as_slice.ensures.value)
    ∙ append_assoc at.names (map field_name x.names.items) rest
    ∙ ap (λ ds. at.names ++ all_field_names (fields_of ds)) (sym e) ∙ at.invariant

pub returns-clause-names : goal.returns-clause-names
returns-clause-names c =
    let at = c.loop-field in
    let none = none_left c.args.fields.now at.field-index (omega (arith, c.loop-field-test.false)) in
    sym (append-nil at.names) ∙ ap (λ ds. at.names ++ all_field_names (fields_of ds)) (sym none) ∙ at.invariant

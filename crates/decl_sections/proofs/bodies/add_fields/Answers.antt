use Rattle.std.proofs.Common.{◌+◌, ◌∷◌, ◌++◌, [], ap, sym, ◌∙◌, drop, arith, append-nil, append_assoc}
use Rattle.std.specs.Prelude.{map}
use Rattle.expr_parts.proofs.ForCallers.{next_item, none_left}
use Rattle.decl_sections.specs.ViewBodies.{field_name}
use Rattle.decl_sections.proofs.Saying.{named_field}
use Rattle.decl_sections.proofs.bodies.add_fields.Goals as goal

pub loop-field-preserved : goal.loop-field-preserved
loop-field-preserved c =
    let at = c.loop-field in
    let x = c.field-item.result in
    let rest = map field_name (drop (at.field-index + 1) c.args.declared.now) in
    let e = next_item c.args.declared.now at.field-index x c.field-item.is c.loop-field-test.true in
    let f = named_field c.in_ok-name.name x (c.in_ok-name.ensures ∙ c.as_slice.ensures) in
    ap (λ fs. fs ++ rest) (c.in_ok-push.ensures.ok ∙ ap (λ y. at.names ++ y ∷ []) f)
    ∙ append_assoc at.names (field_name x ∷ []) rest
    ∙ ap (λ ds. at.names ++ map field_name ds) (sym e) ∙ at.invariant

pub returns-clause-names : goal.returns-clause-names
returns-clause-names c =
    let at = c.loop-field in
    let none = none_left c.args.declared.now at.field-index (omega (arith, c.loop-field-test.false)) in
    sym (append-nil at.names) ∙ ap (λ ds. at.names ++ map field_name ds) (sym none) ∙ at.invariant

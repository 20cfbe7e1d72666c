use Rattle.std.proofs.Common.{◌+◌, ◌∷◌, ◌++◌, [], drop, sym, ap, ◌∙◌, arith, append-nil, append_assoc}
use Rattle.expr_parts.proofs.ForCallers.{next_item, none_left}
use Rattle.decl_types.proofs.Numbering.{same_field}
use Rattle.decl_types.proofs.known.field_copies.Goals as goal

pub loop-field-preserved : goal.loop-field-preserved
loop-field-preserved c =
    let at = c.loop-field in
    let x = c.field-item.result in
    let rest = drop (at.field-index + 1) c.args.fields.now in
    let e = next_item c.args.fields.now at.field-index x c.field-item.is c.loop-field-test.true in
    ap (λ all. all ++ rest) (c.in_ok-push.ensures.ok ∙ ap (λ f. at.copies ++ f ∷ []) (same_field c.in_ok-name.name x (c.in_ok-name.ensures
    ∙ c.as_slice.ensures)))
    ∙ append_assoc at.copies (x ∷ []) rest
    ∙ ap (λ all. at.copies ++ all) (sym e) ∙ at.invariant

pub returns : goal.returns
returns c =
    let at = c.loop-field in
    let none = none_left c.args.fields.now at.field-index (omega (arith, c.loop-field-test.false)) in
    sym (append-nil at.copies) ∙ ap (λ all. at.copies ++ all) (sym none) ∙ at.invariant

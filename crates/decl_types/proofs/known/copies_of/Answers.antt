use Rattle.std.proofs.Common.{◌+◌, ◌∷◌, ◌++◌, [], drop, sym, ap, ◌∙◌, arith, append-nil, append_assoc}
use Rattle.expr_parts.proofs.ForCallers.{next_item, none_left}
use Rattle.decl_types.proofs.known.copies_of.Goals as goal

pub loop-text-preserved : goal.loop-text-preserved
loop-text-preserved c =
    let at = c.loop-text in
    let x = c.text-item.result in
    let rest = drop (at.text-index + 1) c.args.texts.now in
    let e = next_item c.args.texts.now at.text-index x c.text-item.is c.loop-text-test.true in
    ap (λ all. all ++ rest) c.in_ok-push.ensures.ok
    ∙ append_assoc at.copies (c.in_ok-from_slice.field-0 ∷ []) rest
    ∙ ap (λ t. at.copies ++ t ∷ rest) (c.in_ok-from_slice.ensures ∙ c.as_slice.ensures)
    ∙ ap (λ all. at.copies ++ all) (sym e) ∙ at.invariant

pub returns : goal.returns
returns c =
    let at = c.loop-text in
    let none = none_left c.args.texts.now at.text-index (omega (arith, c.loop-text-test.false)) in
    sym (append-nil at.copies) ∙ ap (λ all. at.copies ++ all) (sym none) ∙ at.invariant

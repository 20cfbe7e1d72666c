use Rattle.std.proofs.Common.{◌+◌, ◌∷◌, ◌++◌, [], ap, sym, ◌∙◌, drop, arith, append-nil, append_assoc}
use Rattle.expr_parts.proofs.ForCallers.{next_item, none_left}
use Rattle.decl_rules.specs.Sections.{texts_of}
use Rattle.decl_sections.proofs.bodies.texts_of.Goals as goal

pub loop-member-preserved : goal.loop-member-preserved
loop-member-preserved c =
    let at = c.loop-member in
    let x = c.member-item.result in
    let rest = texts_of (drop (at.member-index + 1) c.args.members.now) in
    let e = next_item c.args.members.now at.member-index x c.member-item.is c.loop-member-test.true in
    ap (λ ts. ts ++ rest) c.in_ok-push.ensures.ok
    ∙ append_assoc at.texts (c.in_ok-from_slice.field-0 ∷ []) rest
    ∙ ap (λ t. at.texts ++ t ∷ rest) (c.in_ok-from_slice.ensures ∙ c.as_slice.ensures)
    ∙ ap (λ ms. at.texts ++ texts_of ms) (sym e) ∙ at.invariant

pub returns-clause-texts : goal.returns-clause-texts
returns-clause-texts c =
    let at = c.loop-member in
    let none = none_left c.args.members.now at.member-index (omega (arith, c.loop-member-test.false)) in
    sym (append-nil at.texts) ∙ ap (λ ms. at.texts ++ texts_of ms) (sym none) ∙ at.invariant

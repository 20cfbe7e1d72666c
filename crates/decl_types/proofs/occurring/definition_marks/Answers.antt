use Rattle.std.proofs.Common.{◌+◌, ◌++◌, ◌∷◌, [], drop, sym, ap, ◌∙◌, arith, append-nil, append_assoc}
use Rattle.std.specs.Prelude.{map}
use Rattle.expr_parts.proofs.ForCallers.{next_item, none_left}
use Rattle.decl_types.specs.ViewMarks.{definition_mark}
use Rattle.decl_types.proofs.occurring.definition_marks.Goals as goal

pub loop-definition-preserved : goal.loop-definition-preserved
loop-definition-preserved c =
    let at = c.loop-definition in
    let f = definition_mark c.args.marks.now in
    let x = c.definition-item.result in
    let rest = map f (drop (at.definition-index + 1) c.args.read.now) in
    let e = next_item c.args.read.now at.definition-index x c.definition-item.is c.loop-definition-test.true in
    ap (λ all. all ++ rest) c.in_ok-push.ensures.items
    ∙ append_assoc at.all.items (c.in_ok-mark.mark ∷ []) rest
    ∙ ap (λ b. at.all.items ++ b ∷ rest) c.in_ok-mark.ensures.mark
    ∙ ap (λ ds. at.all.items ++ map f ds) (sym e) ∙ at.invariant

pub returns : goal.returns
returns c =
    let at = c.loop-definition in
    let f = definition_mark c.args.marks.now in
    let none = none_left c.args.read.now at.definition-index (omega (arith, c.loop-definition-test.false)) in
    sym (append-nil at.all.items) ∙ ap (λ ds. at.all.items ++ map f ds) (sym none) ∙ at.invariant

use Rattle.std.proofs.Common.{◌≡◌, [], ◌∷◌, ◌++◌, length, sym, ap, subst, ◌∙◌, append_assoc, List}
use Rattle.expr_parts.specs.declared.value.Operand.{Operand}
use Rattle.std.specs.Vec.{vec_len}
use Rattle.expr_parts.specs.ViewOperands.{IsGiven}
use Rattle.expr_parts.proofs.ForCallers.{nothing_left}
use Rattle.expr_parts.proofs.operand_lists.before_last.Goals as goal

pub returns-in-Some : goal.returns-in-Some
returns-in-Some c =
    let first = c.in-Some.first in
    let last = c.args.last in
    let others = c.pop.new.self.items in
    subst (λ os. IsGiven os c.two_or_more.result)
    (ap (λ (os : List Operand). os ++ first ∷ last ∷ []) c.as_slice.ensures.value ∙ sym (append_assoc others (first ∷ []) (last ∷ []))
    ∙ ap (λ (os : List Operand). os ++ last ∷ []) (sym c.in-Some.ensures.items))
    c.two_or_more.ensures

pub returns : goal.returns
returns c =
    let counted : vec_len c.args.operands ≡ length c.args.operands.items = search in
    ap (λ (os : List Operand). os ++ c.args.last ∷ []) (nothing_left c.args.operands.items (sym counted ∙ c.in-None.ensures.cases.0))

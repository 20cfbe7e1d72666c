use Rattle.std.proofs.Common.{◌≡◌, [], ◌∷◌, length, sym, ap, subst, ◌∙◌, arith, ◌++◌, List}
use Rattle.expr_parts.specs.declared.value.Operand.{Operand}
use Rattle.std.specs.Vec.{vec_len}
use Rattle.expr_parts.specs.ViewOperands.{IsOnly}
use Rattle.expr_parts.proofs.operand_lists.only_operand.Goals as goal

pub returns-in-Some : goal.returns-in-Some
returns-in-Some c =
    subst (λ os. IsOnly os c.unless_others.result)
    (ap (λ (os : List Operand). os ++ c.in-Some.last ∷ []) c.as_slice.ensures.value ∙ sym c.in-Some.ensures.items) c.unless_others.ensures

pub returns : goal.returns
returns c = λ o e.
    let counted : vec_len c.args.operands ≡ length c.args.operands.items = search in
    let none : length c.args.operands.items ≡ 0 = sym counted ∙ c.in-None.ensures.cases.0 in
    let one = ap length e in
    omega (arith, none, one)

use Rattle.std.proofs.Common.{[], ◌∷◌, ◌++◌, ap, length, arith, length-append, List}
use Rattle.expr_parts.specs.declared.value.Operand.{Operand}
use Rattle.expr_parts.proofs.ForCallers.{nothing_left}
use Rattle.expr_parts.proofs.operand_lists.unless_others.Goals as goal

pub returns-then-count-gt0 : goal.returns-then-count-gt0
returns-then-count-gt0 c = λ o e.
    let one = ap length e in
    omega (arith, one, c.if-count-gt0.true, length-append c.args.others.now (c.args.last ∷ []))

pub returns : goal.returns
returns c = ap (λ (os : List Operand). os ++ c.args.last ∷ []) (nothing_left c.args.others.now (omega (arith, c.if-count-gt0.false)))

use Rattle.std.proofs.Common.{[], ◌∷◌, ◌++◌, ap, arith, length-append, List}
use Rattle.expr_parts.specs.declared.value.Operand.{Operand}
use Rattle.expr_parts.proofs.ForCallers.{nothing_left}
use Rattle.expr_parts.proofs.operand_lists.two_or_more.Goals as goal

pub returns-then-count-gt0 : goal.returns-then-count-gt0
returns-then-count-gt0 c = omega (arith, c.if-count-gt0.true, length-append c.args.others.now (c.args.first ∷ c.args.last ∷ []))

pub returns : goal.returns
returns c = ap (λ (os : List Operand). os ++ c.args.first ∷ c.args.last ∷ []) (nothing_left c.args.others.now (omega (arith, c.if-count-gt0.false)))

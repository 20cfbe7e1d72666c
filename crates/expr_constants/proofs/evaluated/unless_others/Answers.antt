use Rattle.std.proofs.Common.{List, [], ◌∷◌, ◌++◌, ap, arith}
use Rattle.nim_program.specs.declared.expr.Literal.{Literal}
use Rattle.nim_program.specs.View.{literals_of}
use Rattle.expr_rules.specs.Constants.{alone}
use Rattle.expr_parts.proofs.ForCallers.{nothing_left}
use Rattle.expr_constants.proofs.ConstantLists.{not_alone}
use Rattle.expr_constants.proofs.evaluated.unless_others.Goals as goal

pub returns-then-count-gt0 : goal.returns-then-count-gt0
returns-then-count-gt0 c = λ go. not_alone go c.args.others.now c.args.last (omega (arith, c.if-count-gt0.true))

pub returns : goal.returns
returns c = λ go.
    ap (λ (xs : List Literal). alone go (literals_of (xs ++ c.args.last ∷ []))) (nothing_left c.args.others.now (omega (arith, c.if-count-gt0.false)))

use Rattle.std.proofs.Common.{◌≡◌, length, sym, subst, ◌∙◌}
use Rattle.std.specs.Vec.{vec_len}
use Rattle.expr_parts.specs.ViewOperands.{IsGiven}
use Rattle.expr_parts.proofs.ForCallers.{nothing_left}
use Rattle.expr_parts.proofs.operand_lists.taken_apart.Goals as goal

pub returns-in-Some : goal.returns-in-Some
returns-in-Some c = subst (λ os. IsGiven os c.before_last.result) (sym c.in-Some.ensures.items) c.before_last.ensures

pub returns-in-None : goal.returns-in-None
returns-in-None c =
    let counted : vec_len c.args.operands ≡ length c.args.operands.items = search in
    nothing_left c.args.operands.items (sym counted ∙ c.in-None.ensures.cases.0)

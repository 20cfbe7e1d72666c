use Rattle.std.proofs.Common.{subst, Option, ℕ}
use Rattle.nim_program.specs.View.{if_type}
use Rattle.expr_constants.specs.ViewFixed.{IsFixed}
use Rattle.expr_constants.proofs.Fixing.{some_fixed}
use Rattle.expr_constants.proofs.shown.shown.Goals as goal

pub shown_number-requires : goal.shown_number-requires
shown_number-requires c =
    some_fixed c.args.types.now c.in-Some.ty
    (subst (λ (o : Option ℕ). IsFixed c.args.types.now (λ ts. if_type ts o)) c.in-Some.is c.requires)

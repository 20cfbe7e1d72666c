use Rattle.std.proofs.Common.{ℕ, ap, ◌∙◌}
use Rattle.std.specs.Prelude.{map}
use Rattle.nim_plan.specs.Order.{skip_of, with_skip}
use Rattle.nim_plan.proofs.Kept.{no_skip}
use Rattle.nim_plan.proofs.Orders.{skips_with}
use Rattle.nim_plan.proofs.sets.SkipSet.add.Goals as goal

pub returns-in_err-insert-clause-there : goal.returns-in_err-insert-clause-there
returns-in_err-insert-clause-there c has =
    absurd (no_skip c.self.inside.skips c.args.self.now (c.args.place, c.args.exit) c.self.view_is c.in_err-insert.ensures.absent has)

pub returns-clause-ok : goal.returns-clause-ok
returns-clause-ok c =
    let skip : ℕ × ℕ = (c.args.place, c.args.exit) in
    ap (map skip_of) c.in_ok-insert.ensures.keys ∙ skips_with skip c.self.inside.skips.keys ∙ ap (λ l. with_skip l (skip_of skip)) c.self.view_is

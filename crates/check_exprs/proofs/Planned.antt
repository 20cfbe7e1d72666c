-- A plan of an object stands in a longer table.
use Rattle.std.proofs.Common.{ℕ, ◌≤◌, arith}
use Rattle.expr_builds.specs.declared.plans.Plan.{Plan}
use Rattle.expr_builds.specs.ViewBuilt.{PlanWithin}
use Rattle.expr_steps.proofs.ForCallers.{found_more}

pub plan_more : {n m : ℕ} → n ≤ m → (p : Plan) → PlanWithin n p → PlanWithin m p
plan_more h p b = (let c = b.0 in omega (arith, h, c), found_more h p.chosen.items b.1)

use Rattle.std.proofs.Common.{ap}
use Rattle.nim_tree.specs.Terms.{parts_of, sequence}
use Rattle.expr_rules.specs.Demands.{open_at}
use Rattle.expr_steps.proofs.Demanding.{no_trees}
use Rattle.expr_steps.proofs.demands.open_in.Goals as goal

pub returns-in-Some : goal.returns-in-Some
returns-in-Some c = ap (λ ts. open_at (sequence c.args.at (parts_of ts))) c.in-Some.ensures.cases.0

pub returns-in-None : goal.returns-in-None
returns-in-None c = ap (λ ts. open_at (sequence c.args.at (parts_of ts))) (no_trees c.args.parts.now c.in-None.ensures.cases)

use Rattle.std.proofs.Common.{ap}
use Rattle.nim_tree.specs.Terms.{part, parts_of}
use Rattle.expr_rules.specs.Names.{is_single}
use Rattle.expr_steps.proofs.Demanding.{no_trees}
use Rattle.expr_steps.proofs.demands.is_alone.Goals as goal

pub returns-in-Some : goal.returns-in-Some
returns-in-Some c = λ first. ap (λ ts. is_single (part first (parts_of ts))) c.in-Some.ensures.cases.0

pub returns-in-None : goal.returns-in-None
returns-in-None c = λ first. ap (λ ts. is_single (part first (parts_of ts))) (no_trees c.args.rest.now c.in-None.ensures.cases)

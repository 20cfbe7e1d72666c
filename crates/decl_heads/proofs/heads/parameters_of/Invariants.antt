use Rattle.decl_heads.proofs.Heading.{Passed}
use Rattle.decl_heads.proofs.heads.parameters_of.Given as goal

abbrev pub invariant-loop-param : goal.invariant-loop-param
invariant-loop-param l = Passed l.param-index l.all l.params

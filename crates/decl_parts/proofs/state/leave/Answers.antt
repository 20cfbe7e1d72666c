use Rattle.std.proofs.Common.{ap}
use Rattle.expr_parts.specs.declared.scope.Scope.{Scope}
use Rattle.decl_parts.proofs.Growing.{scope_by}
use Rattle.decl_parts.proofs.state.leave.Goals as goal

pub returns : goal.returns
returns c =
    ap (λ (s : Scope). record c.args.state.now { outside = c.args.outside; scope = s })
    (scope_by c.args.state.now.scope c.leave.new.self c.leave.ensures.decls c.leave.ensures.kinds c.leave.ensures.home)

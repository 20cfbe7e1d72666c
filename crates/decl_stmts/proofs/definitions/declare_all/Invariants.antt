use Rattle.std.proofs.Common.{◌≡◌, ◌++◌}
use Rattle.decl_stmts.proofs.definitions.declare_all.Given as goal

abbrev pub invariant-loop-decl : goal.invariant-loop-decl
invariant-loop-decl l = record {
  done : l.state.scope.decls ≡ l.fn.state.scope.decls ++ l.yielded;
  kinds : l.state.scope.kinds ≡ l.fn.state.scope.kinds;
  home : l.state.scope.home ≡ l.fn.state.scope.home;
  same : l.state ≡ record l.fn.state { scope = l.state.scope };
}

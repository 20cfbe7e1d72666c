use Rattle.std.proofs.Common.{◌≡◌, ℕ, List, ◌++◌, drop}
use Rattle.decl_rules.specs.State.{State}
use Rattle.decl_rules.specs.Heads.{group_names}
use Rattle.expr_parts.specs.declared.scope.Decl.{Decl}
use Rattle.decl_parts.specs.View.{own_names}
use Rattle.decl_heads.proofs.Opening.{GroupLeft}
use Rattle.decl_heads.proofs.given.take_names.Given as goal

abbrev pub invariant-loop-name : goal.invariant-loop-name
invariant-loop-name l = record {
  named : (st : State) (before : List (List ℕ)) → own_names l.outside l.fn.scope.decls st before
      → GroupLeft l.outside l.scope.decls st l.has_result (drop l.name-index l.names) (group_names st l.has_result before l.names);
  begins : (more : List Decl) × (l.scope.decls ≡ l.fn.scope.decls ++ more);
  kinds : l.scope.kinds ≡ l.fn.scope.kinds;
  home : l.scope.home ≡ l.fn.scope.home;
}

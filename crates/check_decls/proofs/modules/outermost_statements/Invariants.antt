use Rattle.std.proofs.Common.{drop}
use Rattle.std.specs.Prelude.{None}
use Rattle.nim_tree.specs.Statements.{statements_of}
use Rattle.decl_rules.specs.State.{in_module}
use Rattle.decl_rules.specs.Stated.{all_stated}
use Rattle.check_decls.specs.View.{Carried, Reached}
use Rattle.check_decls.proofs.modules.outermost_statements.Given as goal

abbrev pub invariant-loop-tree : goal.invariant-loop-tree
invariant-loop-tree l = record {
  carried : Carried l.fn.draft l.draft (λ st. all_stated in_module None st (statements_of l.fn.trees))
      (λ st. all_stated in_module None st (statements_of (drop l.tree-index l.trees)));
  reached : Reached l.draft;
}

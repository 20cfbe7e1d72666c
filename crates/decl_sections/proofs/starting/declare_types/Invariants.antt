use Rattle.std.proofs.Common.{◌≡◌, [], ◌++◌, drop}
use Rattle.std.specs.Prelude.{map}
use Rattle.nim_tree.specs.Types.{declaration_of}
use Rattle.expr_parts.specs.ViewDecls.{declares}
use Rattle.decl_types.specs.ViewScoped.{numbers_by, decls_by}
use Rattle.decl_sections.specs.ViewSections.{none_known}
use Rattle.decl_sections.proofs.Starts.{StartsLeft}
use Rattle.decl_sections.proofs.starting.declare_types.Given as goal

abbrev pub invariant-loop-def : goal.invariant-loop-def
invariant-loop-def l = record {
  kinds : l.scope.kinds ≡ l.fn.scope.kinds;
  home : l.scope.home ≡ l.fn.scope.home;
  left : StartsLeft (λ x. declares x (drop l.outside l.fn.scope.decls)) l.outside
      (numbers_by (λ x. declares x (drop l.outside l.fn.scope.decls)) [] 0 (map declaration_of l.defs))
      (l.fn.scope.decls ++ decls_by (λ x. declares x (drop l.outside l.fn.scope.decls)) [] (none_known (map declaration_of l.defs))
      (map declaration_of l.defs))
      (map declaration_of (drop l.def-index l.defs)) l.number l.scope.decls l.numbers.items;
}

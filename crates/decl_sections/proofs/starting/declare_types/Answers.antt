use Rattle.std.proofs.Common.{ℕ, List, ◌+◌, ◌++◌, [], drop, sym, subst, ◌∙◌}
use Rattle.std.specs.Prelude.{map}
use Rattle.nim_tree.specs.Types.{declaration_of}
use Rattle.expr_parts.proofs.ForCallers.{next_item}
use Rattle.expr_parts.specs.ViewDecls.{declares}
use Rattle.decl_types.specs.ViewScoped.{numbers_by, decls_by}
use Rattle.decl_sections.specs.ViewSections.{none_known}
use Rattle.decl_sections.proofs.Starts.{StartsLeft, starts_next}
use Rattle.decl_sections.proofs.starting.declare_types.Goals as goal

pub loop-def-preserved : goal.loop-def-preserved
loop-def-preserved c =
    let at = c.loop-def in
    let defs = c.args.defs.now in
    let i = at.def-index in
    let x = c.def-item.result in
    let own = λ (y : List ℕ). declares y (drop c.args.outside c.args.scope.now.decls) in
    let all = map declaration_of defs in
    let numbers = numbers_by own [] 0 all in
    let decls = c.args.scope.now.decls ++ decls_by own [] (none_known all) all in
    let e = next_item defs i x c.def-item.is c.loop-def-test.true in
    let left = subst (λ l. StartsLeft own c.args.outside numbers decls (map declaration_of l) at.number at.scope.decls at.numbers.items) e
    at.invariant.left in
    let rest = map declaration_of (drop (i + 1) defs) in
    let d = c.in_ok-declare_type.ensures in
    let next = starts_next own c.args.outside numbers decls (declaration_of x) rest at.number at.scope.decls c.declare_type.new.scope.decls
    at.numbers.items c.declare_type.new.numbers.items left d.decls d.numbers in
    record {
      kinds = c.declare_type.ensures.kinds ∙ at.invariant.kinds;
      home = c.declare_type.ensures.home ∙ at.invariant.home;
      left = subst (λ k. StartsLeft own c.args.outside numbers decls rest k c.declare_type.new.scope.decls c.declare_type.new.numbers.items)
          (sym c.in_ok-number.ensures.next) next;
    }

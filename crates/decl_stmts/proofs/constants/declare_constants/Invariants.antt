use Rattle.std.proofs.Common.{◌≡◌, ◌++◌, ◌<◌, ℕ, List, drop}
use Rattle.std.specs.Prelude.{map}
use Rattle.nim_types.specs.Types.{Ty}
use Rattle.nim_types.specs.Table.{type_at}
use Rattle.nim_program.specs.View.{literal_of}
use Rattle.expr_parts.specs.declared.scope.Decl.{Decl}
use Rattle.expr_parts.specs.View.{entry_of, DeclsWithin}
use Rattle.decl_rules.specs.Definitions.{constant_entries}
use Rattle.decl_stmts.proofs.constants.declare_constants.Given as goal

abbrev pub invariant-loop-name : goal.invariant-loop-name
invariant-loop-name l = record {
  behind : (ts : List Ty) → map (entry_of ts) l.fn.state.scope.decls ++ constant_entries (type_at ts l.value.ty) (literal_of l.value.literal) l.names
      ≡ map (entry_of ts) l.state.scope.decls ++ constant_entries (type_at ts l.value.ty) (literal_of l.value.literal) (drop l.name-index l.names);
  begins : (more : List Decl) × (l.state.scope.decls ≡ l.fn.state.scope.decls ++ more);
  within : (n : ℕ) → l.value.ty < n → DeclsWithin n l.fn.state.scope.decls → DeclsWithin n l.state.scope.decls;
  kinds : l.state.scope.kinds ≡ l.fn.state.scope.kinds;
  home : l.state.scope.home ≡ l.fn.state.scope.home;
  same : l.state ≡ record l.fn.state { scope = l.state.scope };
}

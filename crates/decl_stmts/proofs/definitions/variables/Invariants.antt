use Rattle.std.proofs.Common.{drop, length}
use Rattle.std.specs.Prelude.{option_map}
use Rattle.nim_tree.specs.Terms.{term_of}
use Rattle.nim_program.specs.View.{if_type}
use Rattle.expr_parts.specs.View.{DeclsWithin}
use Rattle.decl_rules.specs.Definitions.{variables_rule}
use Rattle.decl_parts.specs.View.{around_of, env_in}
use Rattle.decl_stmts.specs.ViewDefinitions.{Still}
use Rattle.decl_stmts.proofs.Waiting.{NamesDone}
use Rattle.decl_stmts.proofs.definitions.variables.Given as goal

abbrev pub invariant-loop-name : goal.invariant-loop-name
invariant-loop-name l = record {
  still : Still l.fn.state l.state;
  fits : DeclsWithin (length l.state.types) l.all.waits.items;
  done : NamesDone l.fn.state l.state l.all (λ ts. variables_rule (around_of ts l.around) l.at l.binding (env_in ts l.fn.state) (if_type ts l.ty)
      (option_map term_of l.def.value)) l.def.names.items (drop l.name-index l.def.names.items);
}

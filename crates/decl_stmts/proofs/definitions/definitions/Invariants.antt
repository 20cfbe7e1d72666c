use Rattle.std.proofs.Common.{drop}
use Rattle.std.specs.Prelude.{map}
use Rattle.nim_tree.specs.Statements.{definition_of}
use Rattle.decl_rules.specs.Definitions.{definitions_rule}
use Rattle.decl_parts.specs.View.{around_of, state_of}
use Rattle.decl_parts.proofs.ForCallers.{Left, steps_onto}
use Rattle.decl_stmts.proofs.definitions.definitions.Given as goal

abbrev pub invariant-loop-def : goal.invariant-loop-def
invariant-loop-def l = record {
  left : Left l.fn.state l.state (λ ts b. definitions_rule (around_of ts l.around) l.at l.binding (state_of ts b l.fn.state) (map definition_of l.defs))
      (λ ts b. definitions_rule (around_of ts l.around) l.at l.binding (state_of ts b l.state) (map definition_of (drop l.def-index l.defs)))
      (λ ts. steps_onto ts l.all.items);
}

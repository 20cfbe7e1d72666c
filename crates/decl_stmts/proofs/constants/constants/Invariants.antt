use Rattle.std.proofs.Common.{drop}
use Rattle.std.specs.Prelude.{map}
use Rattle.nim_tree.specs.Statements.{definition_of}
use Rattle.decl_rules.specs.State.{State}
use Rattle.decl_rules.specs.Definitions.{constants_rule}
use Rattle.decl_parts.specs.View.{state_of}
use Rattle.decl_parts.proofs.ForCallers.{Left}
use Rattle.decl_stmts.proofs.constants.constants.Given as goal

abbrev pub invariant-loop-def : goal.invariant-loop-def
invariant-loop-def l = record {
  left : Left l.fn.state l.state (λ ts b. constants_rule (state_of ts b l.fn.state) (map definition_of l.defs))
      (λ ts b. constants_rule (state_of ts b l.state) (map definition_of (drop l.def-index l.defs))) (λ ts (st : State). st);
}

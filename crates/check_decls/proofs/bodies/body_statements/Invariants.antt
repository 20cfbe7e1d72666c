use Rattle.std.proofs.Common.{◌≡◌, length, drop}
use Rattle.nim_tree.specs.Statements.{statements_of}
use Rattle.decl_rules.specs.State.{in_body}
use Rattle.decl_rules.specs.Stated.{all_stated}
use Rattle.decl_parts.specs.View.{if_result, state_of}
use Rattle.decl_parts.proofs.ForCallers.{Left, steps_onto}
use Rattle.check_decls.proofs.bodies.body_statements.Given as goal

-- what is done, before what the rest gives, is the whole
abbrev pub invariant-loop-tree : goal.invariant-loop-tree
invariant-loop-tree l = record {
  left : l.left ≡ length (drop l.tree-index l.trees);
  rest : Left l.fn.state l.state
      (λ ts b. all_stated (in_body (if_result ts l.gives)) (if_result ts l.gives) (state_of ts b l.fn.state) (statements_of l.fn.trees))
      (λ ts b. all_stated (in_body (if_result ts l.gives)) (if_result ts l.gives) (state_of ts b l.state) (statements_of (drop l.tree-index l.trees)))
      (λ ts. steps_onto ts l.all.items);
}

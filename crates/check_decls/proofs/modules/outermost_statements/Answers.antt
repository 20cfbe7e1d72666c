use Rattle.std.proofs.Common.{◌+◌, ◌∙◌, ap, drop}
use Rattle.std.proofs.Common.{drop_of_length-le}
use Rattle.std.specs.Prelude.{None}
use Rattle.nim_tree.specs.Statements.{statement_of, statements_of}
use Rattle.decl_rules.specs.State.{in_module}
use Rattle.decl_rules.specs.Stated.{all_stated}
use Rattle.decl_parts.proofs.ForCallers.{next_name}
use Rattle.check_decls.specs.ViewBodies.{noted_rule}
use Rattle.check_decls.proofs.Drafts.{carried_whole, carried_goes, carried_stops, carried_ends, then_noted}
use Rattle.check_decls.proofs.Reaching.{reached_behind}
use Rattle.check_decls.proofs.modules.outermost_statements.Goals as goal

pub loop-tree-init : goal.loop-tree-init
loop-tree-init c = record {
  carried = carried_whole c.args.draft.now (λ st. all_stated in_module None st (statements_of c.args.trees.now)) c.requires.sound;
  reached = c.requires.reached;
}

pub loop-tree-preserved : goal.loop-tree-preserved
loop-tree-preserved c =
    let at = c.loop-tree in
    let item = c.tree-item.result in
    let rest = statements_of (drop (at.tree-index + 1) c.args.trees.now) in
    let e = next_name c.args.trees.now at.tree-index item c.tree-item.is c.loop-tree-test.true in
    record {
      carried = carried_goes (λ st. noted_rule st (statement_of item)) (λ st. all_stated in_module None st rest) at.invariant.carried
          (λ st. ap (λ l. all_stated in_module None st (statements_of l)) e ∙ then_noted st (statement_of item) rest) c.in-Ok.ensures;
      reached = reached_behind (statement_of item) c.in-Ok.ensures at.invariant.reached;
    }

pub returns-clause-carrying : goal.returns-clause-carrying
returns-clause-carrying c =
    let e = drop_of_length-le c.args.trees.now c.loop-tree-test.false in
    carried_ends tt c.loop-tree.invariant.carried (λ st. ap (λ l. all_stated in_module None st (statements_of l)) e)

pub returns-in-Err-clause-carrying : goal.returns-in-Err-clause-carrying
returns-in-Err-clause-carrying c =
    let at = c.loop-tree in
    let item = c.tree-item.result in
    let rest = statements_of (drop (at.tree-index + 1) c.args.trees.now) in
    let e = next_name c.args.trees.now at.tree-index item c.tree-item.is c.loop-tree-test.true in
    carried_stops (λ st. noted_rule st (statement_of item)) (λ st. all_stated in_module None st rest) at.invariant.carried
    (λ st. ap (λ l. all_stated in_module None st (statements_of l)) e ∙ then_noted st (statement_of item) rest) c.in-Err.ensures

pub outermost_statement-requires-clause-sound : goal.outermost_statement-requires-clause-sound
outermost_statement-requires-clause-sound c = c.loop-tree.invariant.carried.sound

pub outermost_statement-requires-clause-reached : goal.outermost_statement-requires-clause-reached
outermost_statement-requires-clause-reached c = c.loop-tree.invariant.reached

pub returns-clause-reached : goal.returns-clause-reached
returns-clause-reached c = c.loop-tree.invariant.reached

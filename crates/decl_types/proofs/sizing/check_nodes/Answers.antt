use Rattle.std.proofs.Common.{◌≡◌, ℕ, ◌+◌, drop, length, ap, ap₂, subst, ◌∙◌, arith}
use Rattle.std.specs.Prelude.{Some, map, slice_get, Err}
use Rattle.arc_base.specs.Refusal.{and_then}
use Rattle.nim_types.specs.Table.{type_at}
use Rattle.expr_parts.proofs.ForCallers.{answers_as, next_item, stops}
use Rattle.decl_types.specs.ViewSized.{node_sized, nodes_sized}
use Rattle.decl_types.proofs.Numbering.{below_at}
use Rattle.decl_types.proofs.Sizes.{types_drop}
use Rattle.decl_types.proofs.sizing.check_nodes.Goals as goal

pub returns-in-Err : goal.returns-in-Err
returns-in-Err c = λ ts facts u.
    let at = c.loop-node in
    let nodes = c.args.nodes.now in
    let ids = c.args.ids.now in
    let i = at.node-index in
    let x = c.node-item.result in
    let id = c.id_at.result in
    let get = subst (λ (k : ℕ). slice_get ids k ≡ Some id) at.invariant.number c.id_at.ensures in
    let e = next_item nodes i x c.node-item.is c.loop-node-test.true in
    let behind = nodes_sized facts (drop (i + 1) nodes) (drop (i + 1) (map (type_at ts) ids)) in
    answers_as (λ (_ : Unit {0}). tt) (nodes_sized facts nodes (map (type_at ts) ids))
    (and_then (node_sized facts x (type_at ts id)) (λ _. behind)) (Err c.in-Err.stop)
    (at.invariant.left ts facts u ∙ ap₂ (nodes_sized facts) e (types_drop ts ids i id get))
    (stops (λ (_ : Unit {0}). tt) (λ (_ : Unit {0}). tt) (node_sized facts x (type_at ts id)) (λ _. behind) c.in-Err.stop (c.in-Err.ensures ts facts u))

pub loop-node-preserved : goal.loop-node-preserved
loop-node-preserved c =
    let at = c.loop-node in
    let nodes = c.args.nodes.now in
    let ids = c.args.ids.now in
    let i = at.node-index in
    let x = c.node-item.result in
    let id = c.id_at.result in
    let get = subst (λ (k : ℕ). slice_get ids k ≡ Some id) at.invariant.number c.id_at.ensures in
    let e = next_item nodes i x c.node-item.is c.loop-node-test.true in
    record {
      number = ap (λ (k : ℕ). k + 1) at.invariant.number;
      left = λ ts facts u.
          let behind = nodes_sized facts (drop (i + 1) nodes) (drop (i + 1) (map (type_at ts) ids)) in
          at.invariant.left ts facts u ∙ ap₂ (nodes_sized facts) e (types_drop ts ids i id get)
          ∙ ap (λ z. and_then z (λ _. behind)) (c.in-Ok.ensures ts facts u);
    }

pub id_at-requires : goal.id_at-requires
id_at-requires c =
    let n = c.loop-node.invariant.number in
    omega (arith, n, c.requires.count, c.loop-node-test.true)

pub check_node-requires-clause-within : goal.check_node-requires-clause-within
check_node-requires-clause-within c =
    below_at (length c.args.types.now) c.args.ids.now c.loop-node.number c.id_at.result c.requires.within c.id_at.ensures

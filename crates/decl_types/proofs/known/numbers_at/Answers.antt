use Rattle.std.proofs.Common.{◌+◌, ◌∷◌, ◌++◌, [], length, drop, get_or, sym, ap, subst, ◌∙◌, arith, append-nil, append_assoc}
use Rattle.std.proofs.Common.{length-append}
use Rattle.std.proofs.lemmas.List.{map-append}
use Rattle.std.specs.Prelude.{map}
use Rattle.nim_types.specs.Table.{type_at, AllBelow}
use Rattle.expr_parts.proofs.ForCallers.{none_left}
use Rattle.expr_parts.proofs.ForCallers.{ids_and}
use Rattle.decl_types.proofs.Numbering.{below_at, copied, first_below, left_behind, number_type}
use Rattle.decl_types.proofs.known.numbers_at.Goals as goal

pub loop-node-init : goal.loop-node-init
loop-node-init c = record {
  left = c.requires;
  within = λ n h. subst (AllBelow n) (sym c.new-all.ensures) tt;
  count = let l = ap length c.new-all.ensures in omega (arith, l);
  each = λ ts.
      let types = map (type_at ts) c.args.ids.now in
      ap (λ all. map (type_at ts) all ++ map (type_at types) c.args.nodes.now) c.new-all.ensures;
}

pub loop-node-preserved : goal.loop-node-preserved
loop-node-preserved c =
    let at = c.loop-node in
    let ids = c.args.ids.now in
    let x = get_or c.args.nodes.now at.node-index 0 in
    let id = c.id_at.result in
    let rest = drop (at.node-index + 1) c.args.nodes.now in
    let e = copied c.args.nodes.now at.node-index c.loop-node-test.true in
    let pushed = c.in_ok-push.ensures.ok in
    record {
      left = left_behind (length ids) x rest (subst (AllBelow (length ids)) e at.invariant.left);
      within = λ n h. subst (AllBelow n) (sym pushed) (ids_and at.all id (at.invariant.within n h) (below_at n ids x id h c.id_at.ensures));
      count =
          let l = ap length pushed in
          let k = ap length e in
          omega (arith, at.invariant.count, l, k, length-append at.all (id ∷ []));
      each = λ ts.
          let types = map (type_at ts) ids in
          ap (λ all. all ++ map (type_at types) rest) (ap (map (type_at ts)) pushed ∙ map-append (type_at ts) at.all (id ∷ []))
          ∙ append_assoc (map (type_at ts) at.all) (type_at ts id ∷ []) (map (type_at types) rest)
          ∙ ap (λ t. map (type_at ts) at.all ++ t ∷ map (type_at types) rest) (sym (number_type ts ids x id c.id_at.ensures))
          ∙ ap (λ is. map (type_at ts) at.all ++ map (type_at types) is) (sym e) ∙ at.invariant.each ts;
    }

pub id_at-requires : goal.id_at-requires
id_at-requires c =
    let at = c.loop-node in
    let n = length c.args.ids.now in
    let x = get_or c.args.nodes.now at.node-index 0 in
    first_below n x (drop (at.node-index + 1) c.args.nodes.now)
    (subst (AllBelow n) (copied c.args.nodes.now at.node-index c.loop-node-test.true) at.invariant.left)

pub returns-clause-each : goal.returns-clause-each
returns-clause-each c = λ ts.
    let at = c.loop-node in
    let types = map (type_at ts) c.args.ids.now in
    let none = none_left c.args.nodes.now at.node-index (omega (arith, c.loop-node-test.false)) in
    sym (append-nil (map (type_at ts) at.all)) ∙ ap (λ is. map (type_at ts) at.all ++ map (type_at types) is) (sym none) ∙ at.invariant.each ts

pub returns-clause-length : goal.returns-clause-length
returns-clause-length c =
    let at = c.loop-node in
    let none = none_left c.args.nodes.now at.node-index (omega (arith, c.loop-node-test.false)) in
    let l = ap length none in
    omega (arith, at.invariant.count, l)

use Rattle.std.proofs.Common.{◌≡◌, ◌+◌, ◌∷◌, ◌++◌, [], length, drop, take, sym, ap, subst, ◌∙◌, arith, length-append, length-drop, length-take}
use Rattle.std.proofs.lemmas.List.{map-append}
use Rattle.std.specs.Prelude.{map}
use Rattle.nim_types.specs.Table.{type_at, AllBelow}
use Rattle.nim_types.proofs.ForCallers.{all_more}
use Rattle.expr_parts.proofs.ForCallers.{grown_on, grown_same, next_item, none_left, take_all}
use Rattle.expr_parts.proofs.ForCallers.{ids_and}
use Rattle.decl_types.specs.ViewMarks.{is_unknown, node_mark, node_marks, RenamedWhere}
use Rattle.decl_types.specs.ViewNodes.{node_type, node_types}
use Rattle.decl_types.proofs.Renaming.{marks_count, marks_next, renamed_last, types_count}
use Rattle.std.proofs.lemmas.List.{length-map}
use Rattle.decl_types.proofs.Numbering.{node_at, types_next}
use Rattle.decl_types.proofs.Ordering.{below_more, made_at, node_more}
use Rattle.decl_types.proofs.known.types_of.Goals as goal

pub loop-node-init : goal.loop-node-init
loop-node-init c = record {
  known = c.requires.known;
  grown = grown_same c.args.types.now;
  within = subst (AllBelow (length c.args.types.now)) (sym c.new-ids.ensures.items) tt;
  count = let l = ap length c.new-ids.ensures.items in omega (arith, l);
  means = λ n m w ts facts u keys by known same.
      subst (λ is. RenamedWhere [] (map (type_at ts) is) by []) (sym c.new-ids.ensures.items) (λ i lt. absurd (omega (arith, lt)));
}

pub loop-node-preserved : goal.loop-node-preserved
loop-node-preserved c =
    let at = c.loop-node in
    let x = c.node-item.result in
    let rest = drop (at.node-index + 1) c.args.nodes.now in
    let e = next_item c.args.nodes.now at.node-index x c.node-item.is c.loop-node-test.true in
    let g = c.type_of.ensures.grown in
    let new = length c.type_of.new.types in
    let pushed = c.in_ok-push-in-Ok.ensures.items in
    record {
      known = below_more (length at.types) new c.args.known.now g.length at.invariant.known;
      grown = grown_on at.invariant.grown g;
      within = subst (AllBelow new) (sym pushed)
          (ids_and at.ids.items c.in-Ok.id (all_more (length at.types) new at.ids.items g.length at.invariant.within) c.in-Ok.ensures.within);
      count =
          let k = ap length pushed in
          let l = ap length e in
          omega (arith, at.invariant.count, k, l, length-append at.ids.items (c.in-Ok.id ∷ []));
      means = λ n m w ts facts u keys by known same.
          let nodes = c.args.nodes.now in
          let i = at.node-index in
          let unknown = map is_unknown c.args.known.now in
          let marks = node_marks unknown (take i nodes) in
          let done = node_types ts keys (take i nodes) in
          let us = map (type_at ts) at.ids.items in
          let all = map (type_at ts) c.push.new.self.items in
          let before = at.invariant.means n m w ts facts (g.under ts facts u) keys by known same in
          let left = length-drop i nodes in
          let taken = length-take i nodes in
          let ids : length us ≡ i = let k = length-map at.ids.items (type_at ts) in omega (arith, k, left, at.invariant.count, c.loop-node-test.true) in
          let front : length (take i nodes) ≡ i = omega (arith, taken, c.loop-node-test.true) in
          let one = c.in-Ok.ensures.means n m (node_at n m nodes i x rest w e) ts facts u keys by done marks known same
          (subst (λ is. RenamedWhere marks (map (type_at ts) is) by done) (sym c.as_slice.ensures.value) before) in
          subst (λ ms. RenamedWhere ms all by (node_types ts keys (take (i + 1) nodes))) (sym (marks_next unknown nodes i x rest e))
          (subst (λ vs. RenamedWhere (marks ++ node_mark unknown marks x ∷ []) all by vs) (sym (types_next ts keys nodes i x rest e))
          (subst (λ ws. RenamedWhere (marks ++ node_mark unknown marks x ∷ []) ws by (done ++ node_type ts keys done x ∷ []))
          (sym (ap (map (type_at ts)) pushed ∙ map-append (type_at ts) at.ids.items (c.in-Ok.id ∷ [])))
          (renamed_last by marks us done (node_mark unknown marks x) (type_at ts c.in-Ok.id) (node_type ts keys done x)
          (marks_count unknown (take i nodes) ∙ front ∙ sym ids) (types_count ts keys (take i nodes) ∙ front ∙ sym ids) before one)));
    }

pub type_of-requires-clause-below : goal.type_of-requires-clause-below
type_of-requires-clause-below c = subst (AllBelow (length c.loop-node.types)) (sym c.as_slice.ensures.value) c.loop-node.invariant.within

pub type_of-requires-clause-ordered : goal.type_of-requires-clause-ordered
type_of-requires-clause-ordered c =
    let at = c.loop-node in
    let x = c.node-item.result in
    let i = at.node-index in
    let nodes = c.args.nodes.now in
    let e = next_item nodes i x c.node-item.is c.loop-node-test.true in
    let s = ap length c.as_slice.ensures.value in
    let n : length c.as_slice.result.now ≡ i = let l = length-drop i nodes in omega (arith, s, l, at.invariant.count, c.loop-node-test.true) in
    made_at nodes i (length c.as_slice.result.now) x (drop (i + 1) nodes) c.requires.ordered e n

pub type_of-requires-clause-node : goal.type_of-requires-clause-node
type_of-requires-clause-node c =
    let at = c.loop-node in
    let x = c.node-item.result in
    let i = at.node-index in
    let nodes = c.args.nodes.now in
    let e = next_item nodes i x c.node-item.is c.loop-node-test.true in
    let n = length c.args.types.now in
    let m = length c.args.known.now in
    node_more n (length at.types) m x at.invariant.grown.length (node_at n m nodes i x (drop (i + 1) nodes) c.requires.nodes e)

pub type_of-requires-clause-known : goal.type_of-requires-clause-known
type_of-requires-clause-known c = c.loop-node.invariant.known

pub returns-in_err-push-in-Ok-clause-grown : goal.returns-in_err-push-in-Ok-clause-grown
returns-in_err-push-in-Ok-clause-grown c = grown_on c.loop-node.invariant.grown c.type_of.ensures.grown

pub returns-in-Err-clause-grown : goal.returns-in-Err-clause-grown
returns-in-Err-clause-grown c = grown_on c.loop-node.invariant.grown c.type_of.ensures.grown

pub returns-clause-count : goal.returns-clause-count
returns-clause-count c =
    let at = c.loop-node in
    let l = ap length (none_left c.args.nodes.now at.node-index (omega (arith, c.loop-node-test.false))) in
    omega (arith, at.invariant.count, l)

pub returns-clause-means : goal.returns-clause-means
returns-clause-means c = λ n m w ts facts u keys by known same.
    let at = c.loop-node in
    subst (λ nodes. RenamedWhere (node_marks (map is_unknown c.args.known.now) nodes) (map (type_at ts) at.ids.items) by (node_types ts keys nodes))
    (take_all c.args.nodes.now at.node-index (omega (arith, c.loop-node-test.false))) (at.invariant.means n m w ts facts u keys by known same)

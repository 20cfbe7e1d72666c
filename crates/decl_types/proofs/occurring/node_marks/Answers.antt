use Rattle.std.proofs.Common.{[], ◌+◌, ◌++◌, ◌∷◌, drop, sym, ap, ◌∙◌, arith}
use Rattle.expr_parts.proofs.ForCallers.{next_item, none_left}
use Rattle.decl_types.specs.ViewMarks.{node_mark, marks_onto}
use Rattle.decl_types.proofs.occurring.node_marks.Goals as goal

pub loop-node-preserved : goal.loop-node-preserved
loop-node-preserved c =
    let at = c.loop-node in
    let marks = c.args.marks.now in
    let x = c.node-item.result in
    let rest = drop (at.node-index + 1) c.args.nodes.now in
    let e = next_item c.args.nodes.now at.node-index x c.node-item.is c.loop-node-test.true in
    at.invariant ∙ ap (marks_onto marks at.all.items) e
    ∙ ap (λ all. marks_onto marks all rest)
    (ap (λ b. at.all.items ++ b ∷ []) (ap (λ before. node_mark marks before x) (sym c.as_slice.ensures.value) ∙ c.node_mark-mark.ensures)
    ∙ sym c.in_ok-push.ensures.items)

pub returns : goal.returns
returns c =
    let at = c.loop-node in
    sym (at.invariant ∙ ap (marks_onto c.args.marks.now at.all.items) (none_left c.args.nodes.now at.node-index (omega (arith, c.loop-node-test.false))))

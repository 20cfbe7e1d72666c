use Rattle.std.proofs.Common.{◌≡◌, drop}
use Rattle.decl_types.specs.ViewMarks.{node_marks, marks_onto}
use Rattle.decl_types.proofs.occurring.node_marks.Given as goal

abbrev pub invariant-loop-node : goal.invariant-loop-node
invariant-loop-node l = node_marks l.marks l.nodes ≡ marks_onto l.marks l.all.items (drop l.node-index l.nodes)

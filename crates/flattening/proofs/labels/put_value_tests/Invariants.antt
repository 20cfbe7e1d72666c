use Rattle.std.proofs.Common.{List, Option, drop}
use Rattle.nim_program.specs.declared.expr.Expr.{Expr as RustExpr}
use Rattle.nim_program.specs.View.{picks_of, pick_labels, if_value}
use Rattle.flat_code.specs.declared.line.Line.{Line}
use Rattle.flattening.specs.ExprLines.{value_tests}
use Rattle.flattening.specs.Views.{types_of}
use Rattle.flattening.specs.Written.{IsPut}
use Rattle.flattening.proofs.labels.put_value_tests.Given as goal

abbrev pub invariant-loop-branch : goal.invariant-loop-branch
invariant-loop-branch l =
    let ts = types_of l.around in
    (other : Option RustExpr) (new : Option (List Line)) →
    IsPut l.code new
    (value_tests (pick_labels (drop l.branch-index l.branches.items)) (picks_of ts (drop l.branch-index l.branches.items) (if_value ts other)) l.selector l.u) →
    IsPut l.fn.code new (value_tests (pick_labels l.branches.items) (picks_of ts l.branches.items (if_value ts other)) l.selector l.first)

use Rattle.std.proofs.Common.{List, Option, drop}
use Rattle.nim_types.specs.Types.{Ty}
use Rattle.nim_program.specs.Program.{Stmts}
use Rattle.nim_program.specs.View.{branch_labels, case_blocks}
use Rattle.flat_code.specs.declared.line.Line.{Line}
use Rattle.flattening.specs.StmtLines.{block_tests}
use Rattle.flattening.specs.Written.{IsPut}
use Rattle.flattening.proofs.stmt_acts.put_block_tests.Given as goal

abbrev pub invariant-loop-branch : goal.invariant-loop-branch
invariant-loop-branch l =
    (ts : List Ty) (last : Stmts) (new : Option (List Line)) →
    IsPut l.code new
    (block_tests (branch_labels (drop l.branch-index l.branches.items)) (case_blocks ts (drop l.branch-index l.branches.items) last) l.selector l.arm) →
    IsPut l.fn.code new (block_tests (branch_labels l.branches.items) (case_blocks ts l.branches.items last) l.selector l.first)

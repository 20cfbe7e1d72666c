use Rattle.std.proofs.Common.{◌≡◌, drop}
use Rattle.nim_program.specs.Program.{Stmts}
use Rattle.nim_program.specs.View.{stmts_of, branch_blocks, case_blocks}
use Rattle.nim_meaning.specs.LeftOut.{left_out_in_block, left_out_in_blocks}
use Rattle.program_limits.specs.Known.{known_types, known_facts}
use Rattle.program_limits.proofs.plain.+plain.Given as goal

abbrev pub invariant-of_block-loop-stmt : goal.invariant-of_block-loop-stmt
invariant-of_block-loop-stmt l =
    left_out_in_block (known_facts l.known) (stmts_of (known_types l.known) l.block.items) ≡
    left_out_in_block (known_facts l.known) (stmts_of (known_types l.known) (drop l.stmt-index l.block.items))

abbrev pub invariant-of_branches-loop-branch : goal.invariant-of_branches-loop-branch
invariant-of_branches-loop-branch l =
    (rest : Stmts) → left_out_in_blocks (known_facts l.known) (branch_blocks (known_types l.known) l.branches.items rest) ≡
    left_out_in_blocks (known_facts l.known) (branch_blocks (known_types l.known) (drop l.branch-index l.branches.items) rest)

abbrev pub invariant-of_arms-loop-arm : goal.invariant-of_arms-loop-arm
invariant-of_arms-loop-arm l =
    (rest : Stmts) → left_out_in_blocks (known_facts l.known) (case_blocks (known_types l.known) l.arms.items rest) ≡
    left_out_in_blocks (known_facts l.known) (case_blocks (known_types l.known) (drop l.arm-index l.arms.items) rest)

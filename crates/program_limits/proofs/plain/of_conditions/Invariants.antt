use Rattle.std.proofs.Common.{◌≡◌, drop}
use Rattle.nim_program.specs.View.{branch_conditions}
use Rattle.nim_meaning.specs.LeftOut.{left_out_in_args}
use Rattle.program_limits.specs.Known.{known_types, known_facts}
use Rattle.program_limits.proofs.plain.of_conditions.Given as goal

abbrev pub invariant-loop-branch : goal.invariant-loop-branch
invariant-loop-branch l =
    left_out_in_args (known_facts l.known) (branch_conditions (known_types l.known) l.branches.items) ≡
    left_out_in_args (known_facts l.known) (branch_conditions (known_types l.known) (drop l.branch-index l.branches.items))

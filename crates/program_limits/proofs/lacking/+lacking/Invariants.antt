use Rattle.std.proofs.Common.{◌≡◌, drop}
use Rattle.nim_program.specs.Program.{Args}
use Rattle.nim_program.specs.View.{operands_of, choices_of, picks_of}
use Rattle.nim_meaning.specs.LeftOut.{left_out_in_args}
use Rattle.program_limits.specs.Known.{known_types, known_facts}
use Rattle.program_limits.proofs.lacking.+lacking.Given as goal

abbrev pub invariant-of_operands-loop-operand : goal.invariant-of_operands-loop-operand
invariant-of_operands-loop-operand l =
    left_out_in_args (known_facts l.known) (operands_of (known_types l.known) l.operands.items) ≡
    left_out_in_args (known_facts l.known) (operands_of (known_types l.known) (drop l.operand-index l.operands.items))

abbrev pub invariant-of_choices-loop-choice : goal.invariant-of_choices-loop-choice
invariant-of_choices-loop-choice l =
    (rest : Args) → left_out_in_args (known_facts l.known) (choices_of (known_types l.known) l.choices.items rest) ≡
    left_out_in_args (known_facts l.known) (choices_of (known_types l.known) (drop l.choice-index l.choices.items) rest)

abbrev pub invariant-of_picks-loop-pick : goal.invariant-of_picks-loop-pick
invariant-of_picks-loop-pick l =
    (rest : Args) → left_out_in_args (known_facts l.known) (picks_of (known_types l.known) l.picks.items rest) ≡
    left_out_in_args (known_facts l.known) (picks_of (known_types l.known) (drop l.pick-index l.picks.items) rest)

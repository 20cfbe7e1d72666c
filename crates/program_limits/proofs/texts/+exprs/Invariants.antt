use Rattle.std.proofs.Common.{List, ◌≤◌, length, drop}
use Rattle.nim_types.specs.Types.{Ty}
use Rattle.nim_program.specs.Program.{Args}
use Rattle.nim_program.specs.View.{operands_of, choices_of, picks_of}
use Rattle.nim_program.specs.Folds.{totals}
use Rattle.program_limits.specs.Meeting.{Met, Found, before, own_before}
use Rattle.program_limits.proofs.texts.+exprs.Given as goal

abbrev pub invariant-of_operands-loop-i : goal.invariant-of_operands-loop-i
invariant-of_operands-loop-i l =
    (l.i ≤ length l.operands.items) × ((ts : List Ty) (met : Found) → Met l.fn.texts met →
    Met l.texts (totals before own_before (operands_of ts (drop l.i l.operands.items)) met))

abbrev pub decreases-of_operands-loop-i : goal.decreases-of_operands-loop-i
decreases-of_operands-loop-i l = l.i

abbrev pub invariant-of_choices-loop-i : goal.invariant-of_choices-loop-i
invariant-of_choices-loop-i l =
    (l.i ≤ length l.choices.items) × ((ts : List Ty) (rest : Args) (met : Found) → Met l.fn.texts (totals before own_before rest met) →
    Met l.texts (totals before own_before (choices_of ts (drop l.i l.choices.items) rest) met))

abbrev pub decreases-of_choices-loop-i : goal.decreases-of_choices-loop-i
decreases-of_choices-loop-i l = l.i

abbrev pub invariant-of_picks-loop-i : goal.invariant-of_picks-loop-i
invariant-of_picks-loop-i l =
    (l.i ≤ length l.picks.items) × ((ts : List Ty) (rest : Args) (met : Found) → Met l.fn.texts (totals before own_before rest met) →
    Met l.texts (totals before own_before (picks_of ts (drop l.i l.picks.items) rest) met))

abbrev pub decreases-of_picks-loop-i : goal.decreases-of_picks-loop-i
decreases-of_picks-loop-i l = l.i

use Rattle.std.proofs.Common.{◌≡◌, ◌≤◌, length, drop}
use Rattle.nim_program.specs.Program.{Args}
use Rattle.nim_program.specs.View.{operands_of, choices_of, picks_of}
use Rattle.nim_program.specs.Folds.{totals}
use Rattle.nim_program.proofs.fold_exprs.+exprs.Given as goal

abbrev pub invariant-totals-loop-i : goal.invariant-totals-loop-i
invariant-totals-loop-i g l =
    let sum = g.F.Fold.sum l.fold in
    let own = g.F.Fold.own l.fold in
    (l.i ≤ length l.operands.items) × (l.all ≡ totals sum own (operands_of (g.F.Fold.types l.fold) (drop l.i l.operands.items)))

abbrev pub decreases-totals-loop-i : goal.decreases-totals-loop-i
decreases-totals-loop-i g l = l.i

abbrev pub invariant-choice_totals-loop-i : goal.invariant-choice_totals-loop-i
invariant-choice_totals-loop-i g l =
    let sum = g.F.Fold.sum l.fold in
    let own = g.F.Fold.own l.fold in
    (l.i ≤ length l.choices.items)
    × ((rest : Args) → l.fn.others ≡ totals sum own rest →
    l.all ≡ totals sum own (choices_of (g.F.Fold.types l.fold) (drop l.i l.choices.items) rest))

abbrev pub decreases-choice_totals-loop-i : goal.decreases-choice_totals-loop-i
decreases-choice_totals-loop-i g l = l.i

abbrev pub invariant-pick_totals-loop-i : goal.invariant-pick_totals-loop-i
invariant-pick_totals-loop-i g l =
    let sum = g.F.Fold.sum l.fold in
    let own = g.F.Fold.own l.fold in
    (l.i ≤ length l.picks.items)
    × ((rest : Args) → l.fn.others ≡ totals sum own rest →
    l.all ≡ totals sum own (picks_of (g.F.Fold.types l.fold) (drop l.i l.picks.items) rest))

abbrev pub decreases-pick_totals-loop-i : goal.decreases-pick_totals-loop-i
decreases-pick_totals-loop-i g l = l.i

use Rattle.std.proofs.Common.{◌≤◌, drop, length}
use Rattle.word_lowering.specs.PlaceTable.{FindsFrom}
use Rattle.word_lowering.proofs.place_table.index_of.Given as goal

-- the places from there on
abbrev pub invariant-loop-i : goal.invariant-loop-i
invariant-loop-i l = record { within : l.i ≤ length l.all; leads : FindsFrom l.index (drop l.i l.all) l.all }

abbrev pub decreases-loop-i : goal.decreases-loop-i
decreases-loop-i l = l.i

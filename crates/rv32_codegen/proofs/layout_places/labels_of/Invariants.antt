use Rattle.std.proofs.Common.{◌≤◌, length, drop}
use Rattle.rv32_codegen.specs.Places.{AreLabels}
use Rattle.rv32_codegen.proofs.layout_places.labels_of.Given as goal

-- the labels of the lines from there on
abbrev pub invariant-loop-i : goal.invariant-loop-i
invariant-loop-i l = record { within : l.i ≤ length l.code; labels : AreLabels (drop l.i l.code) l.labels }

abbrev pub decreases-loop-i : goal.decreases-loop-i
decreases-loop-i l = l.i

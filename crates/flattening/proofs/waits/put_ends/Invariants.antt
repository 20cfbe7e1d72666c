use Rattle.std.proofs.Common.{◌≤◌, List, Option, length, take}
use Rattle.flat_code.specs.declared.line.Line.{Line}
use Rattle.flattening.specs.Views.{own_lines}
use Rattle.flattening.specs.Written.{IsPut}
use Rattle.flattening.proofs.waits.put_ends.Given as goal

abbrev pub invariant-loop-i : goal.invariant-loop-i
invariant-loop-i l =
    (l.i ≤ length l.ends) × ((new : Option (List Line)) → IsPut l.code new (own_lines (take l.i l.ends)) → IsPut l.fn.code new (own_lines l.ends))

abbrev pub decreases-loop-i : goal.decreases-loop-i
decreases-loop-i l = l.i

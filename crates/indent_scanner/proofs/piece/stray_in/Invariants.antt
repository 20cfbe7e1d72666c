use Rattle.std.proofs.Common.{◌≡◌}
use Rattle.std.specs.Prelude.{None}
use Rattle.indent_scanner.specs.ByForm.{stray_in}
use Rattle.indent_scanner.proofs.piece.stray_in.Given as goal

abbrev pub invariant-loop-at : goal.invariant-loop-at
invariant-loop-at l = stray_in l.shape l.at l.bytes ≡ None

use Rattle.std.proofs.Common.{◌≡◌, ◌≤◌, ◌-◌, length}
use Rattle.std.specs.Prelude.{Some}
use Rattle.indent_scanner.specs.Shape.{form, depth_of}
use Rattle.indent_scanner.proofs.shape.run.Given as goal

abbrev pub invariant-loop-at : goal.invariant-loop-at
invariant-loop-at l = record {
  reached : form l.fn.shape l.at l.bytes ≡ Some l.state;
  inside : l.at ≤ length l.bytes;
  shallow : depth_of l.state ≤ l.at;
}

abbrev pub decreases-loop-at : goal.decreases-loop-at
decreases-loop-at l = length l.bytes - l.at

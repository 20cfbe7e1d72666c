use Rattle.std.proofs.Common.{◌≡◌, ◌≤◌, ◌-◌, ◌++◌, drop, length}
use Rattle.std.specs.Prelude.{None}
use Rattle.indent_scanner.specs.declared.shape.Quote.TheVariants.{Text}
use Rattle.indent_scanner.specs.declared.shape.Shape.TheVariants.{Inside}
use Rattle.indent_scanner.specs.Shape.{depth_of}
use Rattle.indent_scanner.specs.ByForm.{values}
use Rattle.indent_scanner.proofs.text.characters.Given as goal

abbrev pub invariant-loop-at : goal.invariant-loop-at
invariant-loop-at l = record {
  read : l.text ++ values l.state (drop l.at l.bytes) ≡ values (Inside Text None) l.bytes;
  inside : l.at ≤ length l.bytes;
  shallow : depth_of l.state ≤ l.at;
}

abbrev pub decreases-loop-at : goal.decreases-loop-at
decreases-loop-at l = length l.bytes - l.at

use Rattle.std.proofs.Common.{◌≡◌, ◌+◌, drop}
use Rattle.indent_scanner.specs.Tokens.{over_gap, Fits}
use Rattle.indent_scanner.proofs.here.over_gap.Given as goal

abbrev pub invariant-loop-b : goal.invariant-loop-b
invariant-loop-b l = record {
  place : over_gap l.comment l.here (drop l.b-index l.bytes) ≡ over_gap l.comment l.initial.here l.bytes;
  fits : Fits l.here;
  start : l.here.start ≡ l.initial.here.start + l.b-index;
}

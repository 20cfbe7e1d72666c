use Rattle.std.proofs.Common.{◌≡◌, ◌+◌, length, drop}
use Rattle.indent_scanner.specs.Tokens.{mark_length, first_place, Fits}
use Rattle.indent_scanner.proofs.Reading.{SoFar, Kept}
use Rattle.indent_scanner.proofs.source.scan.Given as goal

abbrev pub invariant-loop-comment : goal.invariant-loop-comment
invariant-loop-comment l = record {
  so_far : SoFar (first_place (mark_length l.source)) l.here (drop (mark_length l.source) l.source) l.rest l.tokens;
  fits : Fits l.here;
  size : l.here.start + length l.rest ≡ length l.source;
  kept : Kept l.source l.here.start l.tokens;
}

abbrev pub decreases-loop-comment : goal.decreases-loop-comment
decreases-loop-comment l = length l.rest

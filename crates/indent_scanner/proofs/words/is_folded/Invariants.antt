use Rattle.std.proofs.Common.{◌≡◌, ◌≤◌, length, drop}
use Rattle.indent_scanner.specs.Words.{folded, same}
use Rattle.indent_scanner.proofs.words.is_folded.Given as goal

abbrev pub invariant-loop-b : goal.invariant-loop-b
invariant-loop-b l = record {
  inside : l.at ≤ length l.key;
  left : same (folded (drop l.b-index l.bytes)) (drop l.at l.key) ≡ same (folded l.bytes) l.key;
}

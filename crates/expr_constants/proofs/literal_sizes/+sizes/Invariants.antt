use Rattle.std.proofs.Common.{◌≡◌, ◌≤◌, ◌+◌, ◌*◌, drop, min}
use Rattle.nim_program.specs.View.{literal_of, literals_of}
use Rattle.expr_rules.specs.Literals.{all_bytes}
use Rattle.expr_constants.specs.ViewConstants.{most}
use Rattle.expr_parts.proofs.ForCallers.{literal_count, all_count}
use Rattle.expr_constants.proofs.literal_sizes.+sizes.Given as goal

abbrev pub decreases-part_bytes : goal.decreases-part_bytes
decreases-part_bytes l = 2 * literal_count (literal_of l.literal.now)

abbrev pub decreases-all_bytes : goal.decreases-all_bytes
decreases-all_bytes l = 2 * all_count (literals_of l.all.now) + 1

abbrev pub invariant-all_bytes-loop-literal : goal.invariant-all_bytes-loop-literal
invariant-all_bytes-loop-literal l = record {
  light : all_count (literals_of (drop l.literal-index l.all)) ≤ all_count (literals_of l.fn.all);
  small : l.bytes ≤ most;
  same : min (l.bytes + all_bytes (literals_of (drop l.literal-index l.all))) most ≡ min (all_bytes (literals_of l.fn.all)) most;
}

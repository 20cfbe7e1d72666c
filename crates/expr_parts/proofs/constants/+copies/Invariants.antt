use Rattle.std.proofs.Common.{◌≡◌, ◌≤◌, ◌+◌, ◌*◌, drop}
use Rattle.nim_program.specs.View.{literal_of, literals_of}
use Rattle.expr_parts.proofs.Rows.{literal_count, all_count, literals_front}
use Rattle.expr_parts.proofs.constants.+copies.Given as goal

abbrev pub decreases-copied : goal.decreases-copied
decreases-copied l = 2 * literal_count (literal_of l.literal.now)

abbrev pub decreases-all_copied : goal.decreases-all_copied
decreases-all_copied l = 2 * all_count (literals_of l.all.now) + 1

abbrev pub invariant-all_copied-loop-literal : goal.invariant-all_copied-loop-literal
invariant-all_copied-loop-literal l = record {
  light : all_count (literals_of (drop l.literal-index l.all)) ≤ all_count (literals_of l.fn.all);
  same : literals_front l.copies.items (literals_of (drop l.literal-index l.all)) ≡ literals_of l.fn.all;
}

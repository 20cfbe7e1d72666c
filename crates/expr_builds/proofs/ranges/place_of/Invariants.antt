use Rattle.std.proofs.Common.{◌-◌, ◌≡◌, ◌≤◌, ◌<◌, ℕ, length, true, false, Some}
use Rattle.std.specs.Prelude.{int_lt, slice_get}
use Rattle.expr_builds.specs.declared.ranges.Range.{Range}
use Rattle.expr_builds.proofs.ranges.place_of.Given as goal

abbrev pub invariant-loop-first : goal.invariant-loop-first
invariant-loop-first l = record {
  order : l.first ≤ l.last;
  within : l.last ≤ length l.ranges;
  before : (j : ℕ) (r : Range) → j < l.first → slice_get l.ranges j ≡ Some r → int_lt r.high l.range.low ≡ true;
  behind : (j : ℕ) (r : Range) → l.last ≤ j → slice_get l.ranges j ≡ Some r → int_lt r.high l.range.low ≡ false;
}

abbrev pub decreases-loop-first : goal.decreases-loop-first
decreases-loop-first l = l.last - l.first

use Rattle.std.proofs.Common.{◌≡◌, ◌≤◌, length}
use Rattle.program_limits.specs.Summaries.{AreKnown}
use Rattle.program_limits.proofs.summary.all_summaries.Given as goal

-- as many declared types inside one another are looked through as there were rounds
abbrev pub invariant-loop-round : goal.invariant-loop-round
invariant-loop-round l = record {
  below : l._round ≤ l.declared;
  long : length l.of ≡ length l.types;
  known : AreKnown l._round l.types l.of (length l.types);
}

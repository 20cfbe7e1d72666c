use Rattle.std.proofs.Common.{◌≡◌, ℕ, length}
use Rattle.program_limits.specs.Summaries.{AreKnown, IsLast}
use Rattle.program_limits.proofs.summary.next_summaries.Given as goal

-- the types so far
abbrev pub invariant-loop-ty : goal.invariant-loop-ty
invariant-loop-ty l = record {
  long : length l.next ≡ l.ty;
  known : (n : ℕ) → IsLast l.first n l.types l.last → AreKnown n l.types l.next l.ty;
}

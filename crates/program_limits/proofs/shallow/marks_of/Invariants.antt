use Rattle.std.proofs.Common.{◌≡◌, ◌++◌, drop, map}
use Rattle.std.specs.Prelude.{nat_le}
use Rattle.program_limits.proofs.shallow.marks_of.Given as goal

-- with those that are left, it is all
abbrev pub invariant-loop-summary : goal.invariant-loop-summary
invariant-loop-summary l = l.marks ++ map (λ s. nat_le s.levels 64) (drop l.summary-index l.of) ≡ map (λ s. nat_le s.levels 64) l.of

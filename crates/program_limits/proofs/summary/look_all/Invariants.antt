use Rattle.std.proofs.Common.{◌≡◌, ℕ, suc, ◌≤◌, List, drop}
use Rattle.nim_types.specs.declared.types.TypeDef.{TypeDef}
use Rattle.program_limits.specs.declared.summary.TheConstants.{MOST_LEVELS}
use Rattle.program_limits.specs.Summaries.{with_more, summaries_at, AreKnown}
use Rattle.program_limits.proofs.summary.look_all.Given as goal

-- with what is left, it is all
abbrev pub invariant-loop-id : goal.invariant-loop-id
invariant-loop-id l = record {
  whole : (n : ℕ) (ds : List TypeDef) → AreKnown n ds l.known l.bound →
      with_more l.all (summaries_at n ds (drop l.id-index l.ids)) ≡ summaries_at n ds l.ids;
  small : l.all.levels ≤ suc MOST_LEVELS;
}

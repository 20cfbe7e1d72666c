use Rattle.std.proofs.Common.{◌≡◌, ◌+◌, ◌≤◌, drop, length}
use Rattle.nim_types.specs.Entries.{says_count}
use Rattle.nim_types.proofs.entries.declared_types.Given as goal

abbrev pub invariant-loop-id : goal.invariant-loop-id
invariant-loop-id l = (l.n + says_count (drop l.id l.types) ≡ says_count l.types) × (l.n ≤ l.id) × (l.id-end ≡ length l.types)

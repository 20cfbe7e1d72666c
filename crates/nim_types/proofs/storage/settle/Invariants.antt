use Rattle.nim_types.specs.Kept.{HalfSettled, unknowns}
use Rattle.nim_types.proofs.storage.settle.Given as goal

abbrev pub invariant-loop : goal.invariant-loop
invariant-loop l = HalfSettled l.defs l.known

abbrev pub decreases-loop : goal.decreases-loop
decreases-loop l = unknowns l.known

use Rattle.std.proofs.Common.{◌≡◌, ◌<◌, drop}
use Rattle.expr_parts.specs.declared.slots.TheConstants.{SLOTS}
use Rattle.expr_parts.specs.ViewDecls.{slot_behind}
use Rattle.expr_parts.proofs.slots.slot_of.Given as goal

abbrev pub invariant-loop-b : goal.invariant-loop-b
invariant-loop-b l = (slot_behind l.sum (drop l.b-index l.name) ≡ slot_behind 0 l.name) × (l.sum < SLOTS)

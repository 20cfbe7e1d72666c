use Rattle.std.proofs.Common.{◌≡◌, ℕ}
use Rattle.expr_parts.specs.ViewDecls.{last_below, in_slot, slot, last_of}
use Rattle.expr_parts.proofs.Indexing.{up_to}
use Rattle.expr_parts.proofs.slots.named_from.Given as goal

abbrev pub invariant-loop-next : goal.invariant-loop-next
invariant-loop-next l = (n : ℕ) → l.fn.first ≡ last_below (in_slot l.decls (slot l.name)) n
    → (m : ℕ) × (l.next ≡ last_below (in_slot l.decls (slot l.name)) m) × (last_of l.decls l.name n ≡ last_of l.decls l.name m)

abbrev pub decreases-loop-next : goal.decreases-loop-next
decreases-loop-next l = up_to l.next

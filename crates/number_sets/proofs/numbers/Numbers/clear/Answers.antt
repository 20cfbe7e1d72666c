use Rattle.std.proofs.Common.{sym, subst}
use Rattle.number_sets.specs.Numbers.{AreStamped}
use Rattle.number_sets.proofs.numbers.Numbers.clear.Goals as goal

pub invariant_of-self : goal.invariant_of-self
invariant_of-self c =
    let t = c.self.inside in
    let next = c.next_time-self-inside in
    subst (AreStamped next.result next.new.stamps.items) (sym c.clear.ensures.items) (next.ensures t.numbers.items c.self.invariant)

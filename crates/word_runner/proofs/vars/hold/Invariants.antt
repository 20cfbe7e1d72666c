use Rattle.std.proofs.Common.{◌≡◌, ◌-◌, ℕ, suc, length}
use Rattle.word_runner.specs.View.{held_in}
use Rattle.word_runner.proofs.vars.hold.Given as goal

abbrev pub invariant-loop-held : goal.invariant-loop-held
invariant-loop-held g l = (u : ℕ) → held_in l.held.items u ≡ held_in l.initial.held.items u

abbrev pub decreases-loop-held : goal.decreases-loop-held
decreases-loop-held g l = suc l.at - length l.held.items

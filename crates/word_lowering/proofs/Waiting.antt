-- What variables say of nodes at the begin of a call.
use Rattle.std.proofs.Common.{◌≡◌, ℕ, ◌+◌, List, Option, Some, None, refl, sym, subst}
use Rattle.nim_meaning.specs.Values.{Slot}
use Rattle.word_code.specs.Words.{Vars}
use Rattle.word_lowering.specs.declared.homes.Waiter.{Waiter}
use Rattle.word_lowering.specs.WaitingCode.{waiter_at}
use Rattle.word_lowering.proofs.Scenes.{Says, SaysAt}

-- where nothing waits, the variable of what may is 0
pub none_says : (node : ℕ) (ws : List Waiter) (slot : Option Slot) (base : ℕ) (vars : Vars) → slot ≡ None
    → ((w : Waiter) → waiter_at node ws ≡ Some w → vars w.variable ≡ Some 0) → SaysAt (waiter_at node ws) slot base vars
none_says node ws slot base vars none zeros = by (waiter_at node ws) zeros
  where
    by : (o : Option Waiter) → ((w : Waiter) → o ≡ Some w → vars w.variable ≡ Some 0) → SaysAt o slot base vars
    by None zeros = none
    by (Some w) zeros = subst (λ s. Says s (vars w.variable) (base + w.at)) (sym none) (zeros w refl)

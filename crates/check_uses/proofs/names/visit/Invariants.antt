use Rattle.std.proofs.Common.{◌≡◌, drop}
use Rattle.check_uses.specs.Uses.{seen}
use Rattle.check_uses.specs.Search.{visited}
use Rattle.check_uses.proofs.names.visit.Given as goal

abbrev pub invariant-loop-occurrence : goal.invariant-loop-occurrence
invariant-loop-occurrence l =
    visited l.global (seen (drop l.occurrence-index l.uses)) l.reached ≡ visited l.global (seen l.uses) l.fn.reached

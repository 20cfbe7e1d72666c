use Rattle.std.proofs.Common.{◌≡◌, drop}
use Rattle.decl_rules.specs.Whole.{occurrences_rule}
use Rattle.check_uses.specs.Uses.{seen}
use Rattle.check_uses.specs.Known.{all_procs}
use Rattle.check_uses.proofs.names.check_each.Given as goal

abbrev pub invariant-loop-occurrence : goal.invariant-loop-occurrence
invariant-loop-occurrence l =
    occurrences_rule (all_procs l.known) (seen l.uses) ≡ occurrences_rule (all_procs l.known) (seen (drop l.occurrence-index l.uses))

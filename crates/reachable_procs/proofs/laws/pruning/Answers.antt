use Rattle.std.proofs.Common.{sym, subst, length}
use Rattle.word_code.specs.Sizes.{AreRanked}
use Rattle.word_code.proofs.ForCallers.{levels_most}
use Rattle.reachable_procs.proofs.Shapes.{kept_ranked}
use Rattle.reachable_procs.proofs.Ranks.{ranked_no_circle}
use Rattle.reachable_procs.proofs.Whole.{pruned_formed, same_meaning, same_by_units}
use Rattle.reachable_procs.proofs.laws.pruning.Goals as goal

pub returns-clause-meaning : goal.returns-clause-meaning
returns-clause-meaning c = λ code pruned h formed live fresh heap stack input n. same_meaning code pruned h formed live fresh heap stack input n

pub returns-clause-by_units : goal.returns-clause-by_units
returns-clause-by_units c = λ code pruned h formed live fresh heap stack input units n. same_by_units code pruned h formed live fresh heap stack input units n

pub returns-clause-formed : goal.returns-clause-formed
returns-clause-formed c = λ code pruned h formed. pruned_formed code pruned h formed

pub returns-clause-no_circle : goal.returns-clause-no_circle
returns-clause-no_circle c = λ code pruned h rank ranked.
    ranked_no_circle rank pruned.procs (subst (AreRanked rank) (sym h.procs) (kept_ranked h.numbers rank code.procs ranked))

pub returns-clause-chain : goal.returns-clause-chain
returns-clause-chain c = λ code pruned h rank ranked most few.
    levels_most rank pruned.procs (subst (AreRanked rank) (sym h.procs) (kept_ranked h.numbers rank code.procs ranked)) most few (length pruned.procs)

use Rattle.std.proofs.Common.{sym, subst}
use Rattle.holders.specs.Asked.{FactsOfTheirSort}
use Rattle.holders.proofs.SortedFacts.{sorted_facts}
use Rattle.holders.proofs.WholeRuns.{is_released}
use Rattle.holders.proofs.soundness.released.Goals as goal

pub returns : goal.returns
returns c program table said typed numbered lends built plan heap input =
    is_released program plan typed numbered lends built (subst FactsOfTheirSort (sym said) (sorted_facts table)) c.names_found.ensures heap input
    (λ n. c.meanings.ensures.once program plan heap input n)

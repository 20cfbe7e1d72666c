use Rattle.std.proofs.Common.{sym, subst}
use Rattle.holders.specs.Asked.{FactsOfTheirSort}
use Rattle.holders.proofs.SortedFacts.{sorted_facts}
use Rattle.holders.proofs.WholeRuns.{is_sound}
use Rattle.holders.proofs.soundness.sound.Goals as goal

pub returns : goal.returns
returns c program table said typed numbered lends built plan heap input =
    is_sound program plan typed numbered lends built (subst FactsOfTheirSort (sym said) (sorted_facts table)) c.names_found.ensures heap input

use Rattle.std.proofs.Common.{sym, subst}
use Rattle.holders.specs.Asked.{FactsOfTheirSort}
use Rattle.holders.proofs.SortedFacts.{sorted_facts}
use Rattle.holders.proofs.NamedAlone.{unnamed_kept}
use Rattle.holders.proofs.soundness.contents.Goals as goal

pub returns : goal.returns
returns c program table said typed numbered lends built plan left level body filled places kept around stmt x =
    unnamed_kept program plan typed numbered lends built (subst FactsOfTheirSort (sym said) (sorted_facts table)) c.names_found.ensures left level body filled
    places kept around stmt x

use Rattle.std.proofs.Common.{List, ap, subst, ◌∙◌}
use Rattle.word_lowering.specs.declared.homes.Housed.{Housed}
use Rattle.word_lowering.specs.Lookups.{params_in}
use Rattle.word_lowering.specs.PlaceTable.{FindsFrom}
use Rattle.word_lowering.proofs.place_table.places_of.Goals as goal

pub invariant_of-result : goal.invariant_of-result
invariant_of-result c = record {
  given = c.in_ok-params.ensures ∙ ap params_in c.as_slice.ensures;
  leads = subst (λ (l : List Housed). FindsFrom c.in_ok-index.index l l) c.as_slice-2.ensures c.in_ok-index.ensures;
}

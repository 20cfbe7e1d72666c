use Rattle.std.proofs.Common.{List, ap, ap₂, ◌∙◌}
use Rattle.word_lowering.specs.declared.homes.Housed.{Housed}
use Rattle.word_lowering.specs.Lookups.{is_sort, found}
use Rattle.word_lowering.specs.PlaceTable.{from_there}
use Rattle.word_lowering.proofs.place_table.PlaceTable.found.Goals as goal

pub returns : goal.returns
returns c =
    let n = c.args.number in
    let sought = λ (hs : List Housed). found (is_sort c.args.sort) n hs in
    c.found.ensures ∙ ap sought (c.start.ensures ∙ ap₂ from_there c.place_at-at.ensures c.as_slice.ensures)
    ∙ c.self.invariant.leads n (is_sort c.args.sort) ∙ ap sought c.self.view_is

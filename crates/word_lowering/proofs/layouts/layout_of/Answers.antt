use Rattle.std.proofs.Common.{List, ap, ap₂, ◌∙◌}
use Rattle.std.proofs.lemmas.Result.{IfOk-weaker}
use Rattle.std.specs.Map.{lookup}
use Rattle.std.specs.Prelude.{nat_eq}
use Rattle.flat_code.specs.declared.block.BlockLine.{BlockLine}
use Rattle.flat_code.specs.declared.place.FlatPlace.{FlatPlace}
use Rattle.word_lowering.specs.Layouts.{laid}
use Rattle.word_lowering.proofs.layouts.layout_of.Goals as goal

pub put_aliases-requires-clause-values : goal.put_aliases-requires-clause-values
put_aliases-requires-clause-values c = λ n. ap (λ es. lookup (nat_eq n) es) c.new-values.ensures.empty

pub put_aliases-requires-clause-locations : goal.put_aliases-requires-clause-locations
put_aliases-requires-clause-locations c = λ n. ap (λ es. lookup (nat_eq n) es) c.new-locations.ensures.empty

pub laid-requires-clause-survey : goal.laid-requires-clause-survey
laid-requires-clause-survey c = record {
  values = c.in_ok-put_aliases.ensures.values;
  locations = c.in_ok-put_aliases.ensures.locations;
  addressed = c.as_slice.ensures ∙ c.in_ok-needed.ensures;
  standing = c.as_slice-2.ensures ∙ c.in_ok-stands.ensures;
  homed = c.as_slice-3.ensures ∙ c.in_ok-taken.ensures;
}

pub returns : goal.returns
returns c =
    let a = c.args in
    IfOk-weaker c.laid.result _ _
    (λ own is. is ∙ ap₂ (λ (ls : List BlockLine) (ps : List FlatPlace). laid a.types.now a.start a.datum ls ps) c.as_slice-lines.ensures c.as_slice-4.ensures)
    c.laid.ensures

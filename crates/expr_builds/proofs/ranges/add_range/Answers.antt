use Rattle.std.proofs.Common.{◌≡◌, ◌≤◌, List, length, sym, ap, ◌∙◌, subst}
use Rattle.std.specs.Prelude.{map}
use Rattle.expr_builds.specs.declared.ranges.Range.{Range}
use Rattle.expr_rules.specs.Choices.{clashes}
use Rattle.expr_builds.specs.ViewLabels.{label_in, IsAscending, IsPlace}
use Rattle.expr_builds.proofs.Ranging.{ascending_insert, clashes_insert}
use Rattle.expr_builds.proofs.ranges.add_range.Goals as goal

pub returns-clause-ascending : goal.returns-clause-ascending
returns-clause-ascending c =
    let rs = c.args.ranges.now.items in
    let i = c.place_of-place.result in
    let same : c.as_slice.result.now ≡ rs = c.as_slice.ensures.value in
    let place : IsPlace rs c.args.range.low i = subst (λ xs. IsPlace xs c.args.range.low i) same c.place_of-place.ensures.place in
    let within : i ≤ length rs = subst (λ (xs : List Range). i ≤ length xs) same c.place_of-place.ensures.within in
    subst IsAscending (sym c.in_ok-insert.ensures.items)
    (ascending_insert rs i c.args.range c.requires.ascending within place c.requires.proper c.requires.apart)

pub returns-clause-more : goal.returns-clause-more
returns-clause-more c = λ l.
    let rs = c.args.ranges.now.items in
    let i = c.place_of-place.result in
    let within : i ≤ length rs = subst (λ (xs : List Range). i ≤ length xs) c.as_slice.ensures.value c.place_of-place.ensures.within in
    ap (λ xs. clashes l (map label_in xs)) c.in_ok-insert.ensures.items ∙ clashes_insert l rs i c.args.range within

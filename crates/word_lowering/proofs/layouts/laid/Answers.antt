use Rattle.std.proofs.Common.{◌++◌, ◌∙◌, List, map, not, ap}
use Rattle.flat_code.specs.Codes.{block_plain}
use Rattle.word_lowering.specs.declared.homes.Free.{Free}
use Rattle.word_lowering.specs.declared.homes.Housed.{Housed}
use Rattle.word_lowering.specs.Layouts.{all_housed, behind_all, behind_waiters, free_at, waiters}
use Rattle.word_lowering.proofs.CountedLayouts.{less_numbers}
use Rattle.word_lowering.proofs.NextHome.{laid_as}
use Rattle.word_lowering.proofs.WaiterHomes.{waiters_grow}
use Rattle.word_lowering.proofs.layouts.laid.Goals as goal

pub put_all_housed-requires-clause-small : goal.put_all_housed-requires-clause-small
put_all_housed-requires-clause-small c =
    let a = c.args in
    let lines = map block_plain a.survey.now.lines.now in
    let behind : Free = behind_all a.types.now a.start lines (free_at a.datum) a.places.now in
    let all : List Housed = all_housed a.types.now a.start lines (free_at a.datum) a.places.now in
    let grows = waiters_grow behind all in
    less_numbers behind (behind_waiters behind all) grows.variable grows.byte grows.datum c.requires.small

pub returns : goal.returns
returns c =
    let a = c.args in
    let put = c.in_ok-put_all_housed.ensures in
    let more = c.in_ok-put_waiters.ensures in
    let free : Free = c.put_all_housed.new.free in
    laid_as a.types.now a.start a.datum a.survey.now.lines.now a.places.now c.new-homes.result c.put_all_housed.new.all c.in_ok-all.all
    free c.new-waiters.result c.put_waiters.new.made c.put_waiters.new.free _ c.new-homes.ensures put.all put.free c.new-waiters.ensures
    (more.made ∙ ap (λ (hs : List Housed). c.new-waiters.result ++ waiters free hs) c.as_slice.ensures)
    (more.free ∙ ap (behind_waiters free) c.as_slice.ensures) c.in_ok-all.ensures (ap not c.is_empty-runs.ensures)

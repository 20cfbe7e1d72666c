use Rattle.std.proofs.Common.{arith, map}
use Rattle.flat_code.specs.Codes.{block_plain}
use Rattle.word_lowering.proofs.CountedLayouts.{next_small}
use Rattle.word_lowering.proofs.NextHome.{last_home, last_behind}
use Rattle.word_lowering.proofs.layouts.put_all_housed.Goals as goal

pub put_housed-requires-clause-small : goal.put_housed-requires-clause-small
put_housed-requires-clause-small c =
    let a = c.args in
    let at = c.loop-place in
    next_small a.types.now a.start (map block_plain a.survey.now.lines.now) a.places.now at.place-index _ at.free _
    c.loop-place-test.true at.invariant.free c.requires.small

pub returns-clause-all : goal.returns-clause-all
returns-clause-all c =
    let a = c.args in
    let at = c.loop-place in
    let lines = map block_plain a.survey.now.lines.now in
    last_home a.types.now a.start lines a.places.now at.place-index at.all _ at.free (omega (arith, c.loop-place-test.false)) at.invariant.all

pub returns-clause-free : goal.returns-clause-free
returns-clause-free c =
    let a = c.args in
    let at = c.loop-place in
    let lines = map block_plain a.survey.now.lines.now in
    last_behind a.types.now a.start lines a.places.now at.place-index _ at.free (omega (arith, c.loop-place-test.false)) at.invariant.free

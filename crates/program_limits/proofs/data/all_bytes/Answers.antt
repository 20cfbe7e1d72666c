use Rattle.std.proofs.Common.{ap}
use Rattle.std.proofs.lemmas.List.{at_drop_all}
use Rattle.nim_program.specs.TextSizes.{all_bytes}
use Rattle.program_limits.proofs.Capping.{sums_next, sums_ended, drop_next}
use Rattle.program_limits.proofs.data.all_bytes.Goals as goal

pub loop-name-preserved : goal.loop-name-preserved
loop-name-preserved c =
    let at = c.loop-name in
    let next = ap all_bytes (drop_next c.args.names.now at.name-index c.name-item.result c.loop-name-test.true c.name-item.is) in
    sums_next _ _ _ _ _ _ _ at.invariant.0 at.invariant.1 c.plus-sum.ensures c.text_bytes.ensures next

pub returns : goal.returns
returns c =
    let at = c.loop-name in
    sums_ended _ _ _ at.invariant.0 at.invariant.1 (at_drop_all all_bytes c.args.names.now at.name-index c.loop-name-test.false)

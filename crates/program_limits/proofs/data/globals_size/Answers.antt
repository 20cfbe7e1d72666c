use Rattle.std.proofs.Common.{map}
use Rattle.std.proofs.lemmas.List.{at_drop_all}
use Rattle.nim_types.specs.Table.{types_in, facts_in}
use Rattle.nim_program.specs.View.{declared_of}
use Rattle.nim_program.specs.Sizes.{globals_size}
use Rattle.program_limits.proofs.Capping.{sums_next, sums_ended}
use Rattle.program_limits.proofs.Globals.{globals_next}
use Rattle.program_limits.proofs.data.globals_size.Goals as goal

pub loop-global-preserved : goal.loop-global-preserved
loop-global-preserved c =
    let ds = c.args.types.now in
    let at = c.loop-global in
    let next = globals_next (facts_in ds) (types_in ds) c.args.globals.now at.global-index c.global-item.result c.loop-global-test.true c.global-item.is in
    sums_next _ _ _ _ _ _ _ at.invariant.0 at.invariant.1 c.plus-sum.ensures c.bytes_of.ensures next

pub returns : goal.returns
returns c =
    let ds = c.args.types.now in
    let at = c.loop-global in
    let end = at_drop_all (λ xs. globals_size (facts_in ds) (map (declared_of (types_in ds)) xs)) c.args.globals.now at.global-index
    c.loop-global-test.false in
    sums_ended _ _ _ at.invariant.0 at.invariant.1 end

use Rattle.std.proofs.Common.{◌∙◌, ap, arith}
use Rattle.std.proofs.lemmas.List.{at_drop_all}
use Rattle.nim_program.specs.declared.text_sizes.TheConstants.{MOST_DATA}
use Rattle.nim_program.specs.Folds.{capped}
use Rattle.program_limits.specs.Data.{table_names}
use Rattle.program_limits.proofs.Capping.{sums_next, sums_ended}
use Rattle.program_limits.proofs.TypeNames.{names_next, names_are}
use Rattle.program_limits.proofs.data.names_size.Goals as goal

pub loop-ty-preserved : goal.loop-ty-preserved
loop-ty-preserved c =
    let at = c.loop-ty in
    let next = names_next c.args.types.now at.ty c.get.result.now c.get.ensures.entry in
    let sums = sums_next _ _ _ _ _ _ _ at.invariant.0 at.invariant.1 c.plus-sum.ensures c.entry_names.ensures next in
    (sums.0, sums.1, at.invariant.2)

pub returns : goal.returns
returns c =
    let at = c.loop-ty in
    let end = at_drop_all table_names c.args.types.now at.ty (omega (arith, c.loop-ty-test.false, at.invariant.2)) in
    sums_ended _ _ _ at.invariant.0 at.invariant.1 end ∙ ap (capped MOST_DATA) (names_are c.args.types.now)

use Rattle.std.proofs.Common.{◌∙◌, sym}
use Rattle.nim_program.specs.View.{operands_of}
use Rattle.nim_program.specs.Folds.{numbers, capped, capped_numbers}
use Rattle.nim_program.proofs.FoldLemmas.{all_mapped, capping}
use Rattle.nim_program.proofs.counts.count_operands.Goals as goal

pub returns : goal.returns
returns g c =
    let most = g.C.Count.most c.args.count.now in
    let part = operands_of (g.C.Count.types c.args.count.now) c.args.operands.now.items in
    c.totals.ensures ∙ sym (all_mapped numbers (capped_numbers most) (capped most) (capping most) (g.C.Count.own c.args.count.now) part)

use Rattle.std.proofs.Common.{◌∙◌, sym}
use Rattle.nim_program.specs.View.{stmts_of}
use Rattle.nim_program.specs.Folds.{numbers, capped, capped_numbers}
use Rattle.nim_program.proofs.FoldLemmas.{mapped_of, capping}
use Rattle.nim_program.proofs.counts.count_block.Goals as goal

pub returns : goal.returns
returns g c =
    let most = g.C.Count.most c.args.count.now in
    let part = stmts_of (g.C.Count.types c.args.count.now) c.args.block.now.items in
    c.total_of.ensures ∙ sym (mapped_of numbers (capped_numbers most) (capped most) (capping most) (g.C.Count.own c.args.count.now) part)

use Rattle.std.proofs.Common.{◌∙◌, refl, sym}
use Rattle.nim_program.specs.Program.{Empty}
use Rattle.nim_program.specs.View.{stmt_before}
use Rattle.nim_program.specs.Folds.{numbers, capped, capped_numbers}
use Rattle.nim_program.proofs.FoldLemmas.{mapped_of, capping}
use Rattle.nim_program.proofs.counts.count_stmt.Goals as goal

pub returns : goal.returns
returns g c =
    let most = g.C.Count.most c.args.count.now in
    let part = stmt_before (g.C.Count.types c.args.count.now) c.args.stmt.now Empty in
    c.stmt_total.ensures Empty refl ∙ sym (mapped_of numbers (capped_numbers most) (capped most) (capping most) (g.C.Count.own c.args.count.now) part)

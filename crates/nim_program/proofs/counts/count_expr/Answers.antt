use Rattle.std.proofs.Common.{◌∙◌, sym}
use Rattle.nim_program.specs.View.{expr_of}
use Rattle.nim_program.specs.Folds.{numbers, capped, capped_numbers}
use Rattle.nim_program.proofs.FoldLemmas.{mapped, capping}
use Rattle.nim_program.proofs.counts.count_expr.Goals as goal

pub returns : goal.returns
returns g c =
    let most = g.C.Count.most c.args.count.now in
    let part = expr_of (g.C.Count.types c.args.count.now) c.args.expr.now in
    c.total.ensures ∙ sym (mapped numbers (capped_numbers most) (capped most) (capping most) (g.C.Count.own c.args.count.now) part)

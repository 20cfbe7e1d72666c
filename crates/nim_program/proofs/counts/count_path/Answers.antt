use Rattle.std.proofs.Common.{◌∙◌, sym}
use Rattle.nim_program.specs.View.{path_of}
use Rattle.nim_program.specs.Folds.{numbers, capped, capped_numbers}
use Rattle.nim_program.proofs.FoldLemmas.{mapped_at, capping}
use Rattle.nim_program.proofs.counts.count_path.Goals as goal

pub returns : goal.returns
returns g c =
    let most = g.C.Count.most c.args.count.now in
    let part = path_of (g.C.Count.types c.args.count.now) c.args.path.now in
    c.total_at.ensures ∙ sym (mapped_at numbers (capped_numbers most) (capped most) (capping most) (g.C.Count.own c.args.count.now) c.args.read part)

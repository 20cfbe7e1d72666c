use Rattle.std.proofs.Common.{ap, ap₂, ◌∙◌}
use Rattle.std.specs.Prelude.{Bool, ◌||◌, map}
use Rattle.nim_program.specs.View.{path_of as path_in}
use Rattle.expr_rules.specs.Paths.{overlaps_any}
use Rattle.expr_parts.specs.View.{paths_in, paths_of}
use Rattle.expr_parts.proofs.Fields.{if_ok}
use Rattle.expr_parts.proofs.Overlapping.{any_of}
use Rattle.expr_parts.proofs.overlap.+overlaps_any.Goals as goal

pub returns-then-branch-clause-overlap : goal.returns-then-branch-clause-overlap
returns-then-branch-clause-overlap t c = λ ts.
    let p = path_in ts c.args.path.now in
    let rest = overlaps_any p (map (path_in ts) (paths_in c.in-Some.rest.now)) in
    ap (λ xs. overlaps_any p (map (path_in ts) (paths_in xs))) c.in-Some.ensures.cases.0
    ∙ any_of ts p (paths_of c.in-Some.first.now) (paths_in c.in-Some.rest.now)
    ∙ ap (λ (b : Bool). b || rest) (c.in_ok-overlaps.ensures.overlap ts ∙ c.if-branch.true)

pub returns-clause-overlap : goal.returns-clause-overlap
returns-clause-overlap t c = if_ok c.overlaps_any.result c.overlaps_any.ensures.overlap (λ r h ts.
    let p = path_in ts c.args.path.now in
    ap (λ xs. overlaps_any p (map (path_in ts) (paths_in xs))) c.in-Some.ensures.cases.0
    ∙ any_of ts p (paths_of c.in-Some.first.now) (paths_in c.in-Some.rest.now)
    ∙ ap₂ (λ (a b : Bool). a || b) (c.in_ok-overlaps.ensures.overlap ts ∙ c.if-branch.false) (h ts))

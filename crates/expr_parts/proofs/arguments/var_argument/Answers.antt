use Rattle.std.proofs.Common.{ap, ap₂, ◌∙◌}
use Rattle.std.specs.Prelude.{map}
use Rattle.arc_base.specs.declared.place.Code.TheVariants.{NotAssignable, VarOverlap}
use Rattle.nim_program.specs.View.{path_of as path_in}
use Rattle.expr_rules.specs.Calls.{no_overlap}
use Rattle.expr_rules.specs.Paths.{overlaps_any}
use Rattle.expr_parts.specs.View.{paths_in}
use Rattle.arc_base.proofs.ForCallers.{refuses}
use Rattle.expr_parts.proofs.arguments.var_argument.Goals as goal

pub returns-then-not-writable : goal.returns-then-not-writable
returns-then-not-writable c = λ ts.
    let p = path_in ts c.args.path in
    let a = c.args.writable in
    let o = overlaps_any p (map (path_in ts) (paths_in c.args.before.now)) in
    refuses (path_in ts) (no_overlap a o c.args.at p) NotAssignable c.args.at c.refusal.result c.refusal.ensures
    (ap (λ b. no_overlap b o c.args.at p) c.if-not-writable.true)

pub returns-then-branch : goal.returns-then-branch
returns-then-branch c = λ ts.
    let p = path_in ts c.args.path in
    let a = c.args.writable in
    let o = overlaps_any p (map (path_in ts) (paths_in c.args.before.now)) in
    refuses (path_in ts) (no_overlap a o c.args.at p) VarOverlap c.args.at c.refusal-then-branch.result c.refusal-then-branch.ensures
    (ap₂ (λ x y. no_overlap x y c.args.at p) c.if-not-writable.false
    (c.in_ok-overlaps_any.ensures.overlap ts ∙ c.if-branch.true))

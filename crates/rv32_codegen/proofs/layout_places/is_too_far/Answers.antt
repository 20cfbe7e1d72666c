use Rattle.std.proofs.Common.{sym, ap, ◌∙◌}
use Rattle.std.specs.Prelude.{not}
use Rattle.rv32_codegen.specs.Layout.{all_far, reaches}
use Rattle.rv32_codegen.proofs.LayoutPlaces.{far_is, near_is}
use Rattle.rv32_codegen.proofs.layout_places.is_too_far.Goals as goal

pub returns-in-Some : goal.returns-in-Some
returns-in-Some c = λ code before lines within left labels sizes.
    ap not (c.reaches.ensures ∙ ap (reaches c.size_or-from.result) (c.left_at.ensures all_far code labels sizes)) ∙
    far_is code before lines c.args.line.now c.args.far.now c.args.left c.size_or-from.result c.in-Some.to within left sizes c.size_or-from.ensures
    (sym c.branch_to.ensures ∙ c.in-Some.is)

pub returns-in-None : goal.returns-in-None
returns-in-None c = λ code before lines within left labels sizes. near_is code lines c.args.line.now (sym c.branch_to.ensures ∙ c.in-None.is)

use Rattle.std.proofs.Common.{sym, ap, ◌∙◌, to_z, of_z, w32, to_z-of_z}
use Rattle.nim_types.specs.Table.{type_at}
use Rattle.expr_rules.specs.Demands.{of_arrays}
use Rattle.expr_rules.specs.Names.{array_by}
use Rattle.expr_parts.specs.View.{former_in}
use Rattle.expr_parts.proofs.ForCallers.{answers_as}
use Rattle.decl_types.specs.ViewNodes.{node_type}
use Rattle.decl_sections.proofs.spelling.array_node.Goals as goal

pub returns-in-Arrays-clause-answers : goal.returns-in-Arrays-clause-answers
returns-in-Arrays-clause-answers c = λ ts keys done.
    let at = c.args.at in
    let of = type_at done c.args.of in
    answers_as (node_type ts keys done) (array_by at (former_in c.args.former) c.args.len of) (array_by at of_arrays (to_z w32 (of_z w32 c.args.len)) of)
    c.limited_node.result
    (ap (λ f. array_by at (former_in f) c.args.len of) c.in-Arrays.is ∙ ap (λ z. array_by at of_arrays z of) (sym (to_z-of_z c.ranges.len)))
    (c.limited_node.ensures.answers ts keys done)

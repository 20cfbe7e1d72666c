use Rattle.std.proofs.Common.{sym, ap, ◌∙◌, to_z, of_z, w32, to_z-of_z}
use Rattle.arc_base.specs.Refusal.{and_then}
use Rattle.nim_types.specs.Table.{type_at}
use Rattle.expr_rules.specs.Demands.{of_arrays}
use Rattle.expr_rules.specs.Names.{array_by, sized_type}
use Rattle.expr_parts.specs.View.{former_in}
use Rattle.expr_parts.proofs.ForCallers.{answers_as}
use Rattle.expr_builds.proofs.written.array_by.Goals as goal

pub returns-in-Arrays-clause-answers : goal.returns-in-Arrays-clause-answers
returns-in-Arrays-clause-answers c = λ ts facts u.
    let at = c.args.at in
    let of = type_at ts c.args.of in
    answers_as (type_at ts) (and_then (array_by at (former_in c.args.former) c.args.len of) (sized_type facts at))
    (and_then (array_by at of_arrays (to_z w32 (of_z w32 c.args.len)) of) (sized_type facts at)) c.limited_array.result
    (ap (λ f. and_then (array_by at (former_in f) c.args.len of) (sized_type facts at)) c.in-Arrays.is
    ∙ ap (λ z. and_then (array_by at of_arrays z of) (sized_type facts at)) (sym (to_z-of_z c.ranges.len)))
    (c.limited_array.ensures.answers ts facts u)

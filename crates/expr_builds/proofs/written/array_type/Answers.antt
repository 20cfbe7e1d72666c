use Rattle.std.proofs.Common.{sym, ap, ◌∙◌, to_z, of_z, w32, to_z-of_z}
use Rattle.arc_base.specs.Refusal.{and_then}
use Rattle.nim_types.specs.Table.{type_at}
use Rattle.expr_rules.specs.Names.{array_by, sized_type, array_type}
use Rattle.expr_parts.specs.View.{env_of, former_in}
use Rattle.expr_parts.proofs.ForCallers.{answers_as}
use Rattle.expr_builds.proofs.written.array_type.Goals as goal

pub returns-clause-answers : goal.returns-clause-answers
returns-clause-answers c = λ ts facts u.
    let env = env_of ts facts c.args.scope.now in
    let at = c.args.at in
    let of = type_at ts c.args.of in
    answers_as (type_at ts) (array_type env at c.args.len of)
    (and_then (array_by at (former_in c.former_of.result) (to_z w32 (of_z w32 c.args.len)) of) (sized_type facts at)) c.array_by.result
    (ap (λ f. and_then (array_by at f c.args.len of) (sized_type facts at)) (c.former_of.ensures ts facts)
    ∙ ap (λ z. and_then (array_by at (former_in c.former_of.result) z of) (sized_type facts at)) (sym (to_z-of_z c.ranges.len)))
    (c.array_by.ensures.answers ts facts u)

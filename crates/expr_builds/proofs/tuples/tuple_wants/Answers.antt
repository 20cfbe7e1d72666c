use Rattle.std.proofs.Common.{ap, ◌∙◌, length}
use Rattle.nim_types.specs.Table.{type_at}
use Rattle.nim_program.specs.View.{if_type}
use Rattle.expr_rules.specs.Constructions.{tuple_wants}
use Rattle.expr_builds.specs.ViewBuilt.{wants_of}
use Rattle.expr_parts.proofs.ForCallers.{if_ok}
use Rattle.expr_builds.proofs.Tupling.{wanted_parts, parts_below}
use Rattle.expr_builds.proofs.tuples.tuple_wants.Goals as goal

pub returns-in-Some-clause-wants : goal.returns-in-Some-clause-wants
returns-in-Some-clause-wants c =
    if_ok c.if_count.result c.if_count.ensures.same (λ all h ts facts u.
    ap (λ o. tuple_wants (if_type ts o) c.args.count) c.in-Some.is
    ∙ wanted_parts ts (type_at ts c.in-Some.ty) c.args.count c.parts_in.result.now all.items
    (ap wants_of (c.entry.ensures.means ts facts u) ∙ c.parts_in.ensures.means ts) h)

pub returns-in-Some-clause-within : goal.returns-in-Some-clause-within
returns-in-Some-clause-within c =
    if_ok c.if_count.result c.if_count.ensures.same (λ all h.
    parts_below (length c.args.types.now) c.args.count c.parts_in.result.now all.items h
    (c.parts_in.ensures.within (length c.args.types.now) c.entry.ensures.inside))

use Rattle.std.proofs.Common.{sym, ap, ap₂, ◌∙◌}
use Rattle.nim_types.specs.Types as type
use Rattle.nim_types.specs.Table.{types_at}
use Rattle.nim_program.specs.View.{if_type}
use Rattle.expr_rules.specs.Constructions.{tuple_type}
use Rattle.expr_parts.specs.View.{want_of}
use Rattle.expr_builds.specs.ViewBuilt.{or_tuple}
use Rattle.expr_parts.proofs.ForCallers.{grown_same}
use Rattle.expr_parts.proofs.ForCallers.{if_ok}
use Rattle.expr_builds.proofs.tuples.tuple_type.Goals as goal

pub returns-in-Some-clause-grown : goal.returns-in-Some-clause-grown
returns-in-Some-clause-grown c = grown_same c.args.types.now

pub returns-in-Some-clause-means : goal.returns-in-Some-clause-means
returns-in-Some-clause-means c = λ ts facts u.
    let w = want_of ts c.args.want in
    sym (ap₂ (λ names is. tuple_type names w (types_at ts is)) (sym c.as_slice.ensures) (sym c.as_slice-2.ensures)
    ∙ c.taken.ensures.takes ts facts u
    ∙ ap (λ o. or_tuple (if_type ts o) (type.tuple c.as_slice.result.now (types_at ts c.as_slice-2.result.now))) c.in-Some.is)

pub returns-clause-means : goal.returns-clause-means
returns-clause-means c =
    if_ok c.add.result c.add.ensures.means (λ id h ts facts u.
    let w = want_of ts c.args.want in
    h ts facts u
    ∙ sym (ap₂ (λ names is. tuple_type names w (types_at ts is)) (sym c.as_slice.ensures) (sym c.as_slice-2.ensures)
    ∙ c.taken.ensures.takes ts facts (c.add.ensures.grown.under ts facts u)
    ∙ ap (λ o. or_tuple (if_type ts o) (type.tuple c.as_slice.result.now (types_at ts c.as_slice-2.result.now))) c.in_default.is
    ∙ ap₂ (λ names is. type.tuple names (types_at ts is)) c.as_slice.ensures c.as_slice-2.ensures))

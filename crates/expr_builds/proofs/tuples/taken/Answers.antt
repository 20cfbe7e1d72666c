use Rattle.std.proofs.Common.{◌≡◌, sym, ap, ap₂, ◌∙◌, []}
use Rattle.nim_types.specs.Types as type
use Rattle.nim_types.specs.Table.{types_at}
use Rattle.nim_program.specs.View.{if_type}
use Rattle.expr_rules.specs.Constructions.{tuple_type}
use Rattle.expr_parts.specs.View.{want_of}
use Rattle.expr_builds.specs.ViewBuilt.{or_tuple}
use Rattle.expr_builds.proofs.Tupling.{own_type, tuple_took, unnamed}
use Rattle.expr_builds.proofs.tuples.taken.Goals as goal

pub returns-then-has_names-clause-takes : goal.returns-then-has_names-clause-takes
returns-then-has_names-clause-takes c = λ ts facts u.
    own_type c.args.names.now (want_of ts c.args.want) (types_at ts c.args.parts.now) (c.has_names.ensures ∙ c.if-has_names.true)

pub returns-in-Whole-clause-takes : goal.returns-in-Whole-clause-takes
returns-in-Whole-clause-takes c = λ ts facts u.
    let is = c.args.parts.now in
    let bare : c.args.names.now ≡ [] = unnamed c.args.names.now (c.has_names.ensures ∙ c.if-has_names.false) in
    ap₂ (λ names want. tuple_type names (want_of ts want) (types_at ts is)) bare c.in-Whole.is
    ∙ tuple_took u c.in-Whole.id c.entry.result.now is c.if_of.result (c.entry.ensures.means ts facts u) c.entry.ensures.inside c.requires.parts
    c.if_of.ensures.takes
    ∙ sym (ap (λ names. or_tuple (if_type ts c.if_of.result) (type.tuple names (types_at ts is))) bare)

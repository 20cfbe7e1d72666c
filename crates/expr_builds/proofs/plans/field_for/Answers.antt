use Rattle.std.proofs.Common.{sym, ap, ◌∙◌}
use Rattle.std.specs.Prelude.{option_map}
use Rattle.arc_base.specs.declared.place.Code.TheVariants.{UnknownName}
use Rattle.nim_types.specs.Table.{type_at}
use Rattle.expr_rules.specs.Constructions.{field_or_unknown, field_named}
use Rattle.expr_parts.specs.View.{env_of, found_of}
use Rattle.expr_parts.proofs.ForCallers.{refuses}
use Rattle.expr_builds.proofs.plans.field_for.Goals as goal

pub returns-in-None-clause-answers : goal.returns-in-None-clause-answers
returns-in-None-clause-answers c = λ ts facts u.
    let at = c.args.at in
    let o = field_named (env_of ts facts c.args.scope.now) c.args.name.now (type_at ts c.args.ty) in
    refuses (found_of ts) (field_or_unknown at o) UnknownName at c.refusal.result c.refusal.ensures
    (ap (field_or_unknown at) (sym (c.in_ok-found.ensures.found ts facts u) ∙ ap (option_map (found_of ts)) c.in-None.is))

use Rattle.std.proofs.Common.{refl, sym, ap, ◌∙◌, length}
use Rattle.expr_rules.specs.Constructions.{field_named}
use Rattle.expr_parts.specs.View.{env_of}
use Rattle.expr_parts.proofs.Fields.{if_ok}
use Rattle.expr_parts.proofs.parts.field_named.Goals as goal

pub returns-clause-found : goal.returns-clause-found
returns-clause-found c = if_ok c.field_in.result c.field_in.ensures.found (λ o h ts facts u.
    let env = env_of ts facts c.args.scope.now in
    h ts env (c.entry.ensures.says ts facts u) refl ∙ ap (field_named env c.args.name.now) (sym (c.entry.ensures.means ts facts u)))

pub returns-clause-within : goal.returns-clause-within
returns-clause-within c = if_ok c.field_in.result c.field_in.ensures.within (λ o h. h (length c.args.types.now) c.entry.ensures.inside c.entry.ensures.parts)

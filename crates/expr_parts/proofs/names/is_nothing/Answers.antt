use Rattle.expr_parts.proofs.names.is_nothing.Goals as goal
use Rattle.std.proofs.Common.{ap, ◌∙◌}
use Rattle.std.specs.Prelude.{if◌then◌else◌, false, Bool}
use Rattle.expr_rules.specs.Env.{known_as}
use Rattle.expr_rules.specs.Names.{is_unknown}
use Rattle.expr_parts.specs.View.{env_of}
use Rattle.expr_parts.proofs.Naming.{none_stands}

pub returns-then-not-is_built_in : goal.returns-then-not-is_built_in
returns-then-not-is_built_in c = λ ts facts.
    let known = known_as (env_of ts facts c.args.scope.now) c.args.name.now in
    ap (λ (b : Bool). if b then false else is_unknown known) (c.is_built_in.ensures ∙ c.if-not-is_built_in.true)
    ∙ none_stands ts c.find.result known c.is_none.result (c.find.ensures.stands ts facts) c.is_none.ensures

use Rattle.std.proofs.Common.{ap, ◌∙◌, List, subst, length}
use Rattle.std.specs.Prelude.{map}
use Rattle.nim_program.specs.View.{if_type}
use Rattle.expr_parts.specs.declared.scope.Parameter.{Parameter}
use Rattle.expr_parts.specs.View.{env_of, parameter_of, ParametersWithin}
use Rattle.expr_parts.proofs.ForCallers.{nothing_left}
use Rattle.decl_rules.specs.Heads.{is_borrowing}
use Rattle.decl_heads.proofs.borrowing.is_borrowing.Goals as goal

pub returns-in_default : goal.returns-in_default
returns-in_default c = λ ts facts u.
    ap (λ (ps : List Parameter). is_borrowing (env_of ts facts c.args.scope.now) c.args.name.now (map (parameter_of ts) ps) (if_type ts c.args.gives))
    (nothing_left c.args.params.now c.in_default.ensures.cases)

pub returns : goal.returns
returns c = λ ts facts u.
    ap (λ (ps : List Parameter). is_borrowing (env_of ts facts c.args.scope.now) c.args.name.now (map (parameter_of ts) ps) (if_type ts c.args.gives))
    c.in-Some.ensures.cases.0
    ∙ c.with_first.ensures ts facts u

pub with_first-requires-clause-first : goal.with_first-requires-clause-first
with_first-requires-clause-first c = (subst (ParametersWithin (length c.args.types.now)) c.in-Some.ensures.cases.0 c.requires.params).0

pub with_first-requires-clause-others : goal.with_first-requires-clause-others
with_first-requires-clause-others c = (subst (ParametersWithin (length c.args.types.now)) c.in-Some.ensures.cases.0 c.requires.params).1

use Rattle.std.proofs.Common.{ap, ◌∙◌, ◌∷◌, List}
use Rattle.std.specs.Prelude.{map}
use Rattle.nim_program.specs.View.{if_type}
use Rattle.expr_parts.specs.declared.scope.Parameter.{Parameter}
use Rattle.expr_parts.specs.View.{env_of, parameter_of}
use Rattle.expr_parts.proofs.ForCallers.{nothing_left}
use Rattle.decl_rules.specs.Heads.{is_borrowing}
use Rattle.decl_heads.proofs.borrowing.with_second.Goals as goal

pub returns-in-Some : goal.returns-in-Some
returns-in-Some c = λ ts facts u.
    ap (λ (ps : List Parameter). is_borrowing (env_of ts facts c.args.scope.now) c.args.name.now
    (parameter_of ts c.args.first ∷ parameter_of ts c.args.second ∷ map (parameter_of ts) ps) (if_type ts c.args.gives))
    c.in-Some.ensures.cases.0

pub returns-in-None : goal.returns-in-None
returns-in-None c = λ ts facts u.
    ap (λ (ps : List Parameter). is_borrowing (env_of ts facts c.args.scope.now) c.args.name.now
    (parameter_of ts c.args.first ∷ parameter_of ts c.args.second ∷ map (parameter_of ts) ps) (if_type ts c.args.gives))
    (nothing_left c.args.more.now c.in-None.ensures.cases)
    ∙ c.of_two.ensures ts facts u

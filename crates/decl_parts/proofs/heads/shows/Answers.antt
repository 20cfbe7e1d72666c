use Rattle.std.proofs.Common.{◌∙◌, ◌∷◌, ap, List}
use Rattle.std.specs.Prelude.{map}
use Rattle.nim_program.specs.View.{if_type}
use Rattle.expr_parts.specs.declared.scope.Parameter.{Parameter}
use Rattle.expr_parts.specs.View.{parameter_of}
use Rattle.expr_parts.proofs.ForCallers.{nothing_left}
use Rattle.decl_rules.specs.Heads.{is_shower}
use Rattle.decl_parts.proofs.Matching.{shower_many}
use Rattle.decl_parts.proofs.heads.shows.Goals as goal

pub returns-in-Some : goal.returns-in-Some
returns-in-Some c = λ ts facts u.
    let p = parameter_of ts c.args.param in
    ap (λ (l : List Parameter). is_shower (p ∷ map (parameter_of ts) l) (if_type ts c.args.gives)) c.in-Some.ensures.cases.0
    ∙ shower_many p (parameter_of ts c.in-Some._second.now) (map (parameter_of ts) c.in-Some._rest.now) (if_type ts c.args.gives)

pub returns-in-None : goal.returns-in-None
returns-in-None c = λ ts facts u.
    let p = parameter_of ts c.args.param in
    ap (λ (l : List Parameter). is_shower (p ∷ map (parameter_of ts) l) (if_type ts c.args.gives)) (nothing_left c.args.more.now c.in-None.ensures.cases)
    ∙ c.shows_one.ensures ts facts u

use Rattle.std.proofs.Common.{◌∙◌, ap, List}
use Rattle.std.specs.Prelude.{map}
use Rattle.nim_program.specs.View.{if_type}
use Rattle.expr_parts.specs.declared.scope.Parameter.{Parameter}
use Rattle.expr_parts.specs.View.{parameter_of}
use Rattle.expr_parts.proofs.ForCallers.{nothing_left}
use Rattle.decl_rules.specs.Heads.{is_shower}
use Rattle.decl_parts.proofs.Matching.{shower_none}
use Rattle.decl_parts.proofs.heads.is_shower.Goals as goal

pub returns-in-Some : goal.returns-in-Some
returns-in-Some c = λ ts facts u.
    ap (λ (l : List Parameter). is_shower (map (parameter_of ts) l) (if_type ts c.args.gives)) c.in-Some.ensures.cases.0 ∙ c.shows.ensures ts facts u

pub returns-in-None : goal.returns-in-None
returns-in-None c = λ ts facts u.
    ap (λ (l : List Parameter). is_shower (map (parameter_of ts) l) (if_type ts c.args.gives)) (nothing_left c.args.params.now c.in-None.ensures.cases)
    ∙ shower_none (if_type ts c.args.gives)

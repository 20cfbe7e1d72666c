use Rattle.std.proofs.Common.{◌∙◌, ap, List, subst, length}
use Rattle.std.specs.Prelude.{map}
use Rattle.nim_types.specs.Table.{type_at}
use Rattle.expr_parts.specs.declared.scope.Parameter.{Parameter}
use Rattle.expr_parts.specs.View.{parameter_of, ParametersWithin}
use Rattle.expr_parts.proofs.ForCallers.{nothing_left}
use Rattle.decl_rules.specs.Heads.{takes_first}
use Rattle.decl_parts.proofs.heads.takes_first.Goals as goal

pub returns-in-Some : goal.returns-in-Some
returns-in-Some c = λ ts facts u.
    ap (λ (l : List Parameter). takes_first (type_at ts c.args.ty) (map (parameter_of ts) l)) c.in-Some.ensures.cases.0 ∙ c.is_same.ensures ts facts u

pub returns-in-None : goal.returns-in-None
returns-in-None c = λ ts facts u.
    ap (λ (l : List Parameter). takes_first (type_at ts c.args.ty) (map (parameter_of ts) l)) (nothing_left c.args.params.now c.in-None.ensures.cases)

pub is_same-requires-clause-b : goal.is_same-requires-clause-b
is_same-requires-clause-b c = (subst (ParametersWithin (length c.args.types.now)) c.in-Some.ensures.cases.0 c.requires.params).0

use Rattle.std.proofs.Common.{ap, sym, subst}
use Rattle.std.specs.Prelude.{Some}
use Rattle.nim_types.specs.Table.{IsBelow}
use Rattle.nim_program.specs.View.{if_type}
use Rattle.decl_rules.specs.Bodies.{result_at}
use Rattle.check_decls.proofs.Scopes.{result_typed}
use Rattle.check_decls.proofs.heads.typed_result.Goals as goal

pub returns-in-Some-clause-place : goal.returns-in-Some-clause-place
returns-in-Some-clause-place c =
    result_typed c.args.state.now.place c.args.at c.args.ty c.in-Some.ty c.some_result.result c.in-Some.is c.some_result.ensures.place

pub returns-in-Some-clause-ty : goal.returns-in-Some-clause-ty
returns-in-Some-clause-ty c = λ n h. c.some_result.ensures.ty n (subst (IsBelow n) c.in-Some.is h)

pub returns-in-None-clause-place : goal.returns-in-None-clause-place
returns-in-None-clause-place c = λ ts tree e. ap (λ o. result_at c.args.state.now.place (Some tree) (if_type ts o)) (sym c.in-None.is)

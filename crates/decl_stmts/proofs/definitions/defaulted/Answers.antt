use Rattle.std.proofs.Common.{ap, subst, length, List}
use Rattle.std.specs.Prelude.{Option}
use Rattle.arc_base.specs.declared.place.Code.TheVariants.{NotTyped}
use Rattle.nim_types.specs.Types.{Ty}
use Rattle.nim_types.specs.Table.{IsBelow}
use Rattle.nim_program.specs.View.{if_type}
use Rattle.expr_rules.specs.Env.{Env}
use Rattle.decl_rules.specs.State.{State}
use Rattle.decl_rules.specs.Definitions.{default_rule}
use Rattle.decl_parts.specs.View.{around_of}
use Rattle.decl_stmts.proofs.Defining.{defining_as, defining_refuses}
use Rattle.decl_stmts.proofs.definitions.defaulted.Goals as goal

pub returns-in-Some : goal.returns-in-Some
returns-in-Some c =
    let by = λ (ts : List Ty) (st : State) (o : Option Ty). default_rule (around_of ts c.args.around) c.args.at c.args.binding o st c.args.name.now in
    defining_as (λ (ts : List Ty) (env : Env) (st : State). by ts st (if_type ts c.args.ty))
    (λ ts env st. ap (λ o. by ts st (if_type ts o)) c.in-Some.is) c.without_value.ensures

pub returns-in-None : goal.returns-in-None
returns-in-None c =
    let by = λ (ts : List Ty) (st : State) (o : Option Ty). default_rule (around_of ts c.args.around) c.args.at c.args.binding o st c.args.name.now in
    defining_refuses c.args.state.now (λ (ts : List Ty) (env : Env) (st : State). by ts st (if_type ts c.args.ty)) NotTyped c.args.name.now.at c.refusal.result
    c.refusal.ensures (λ ts env st. ap (λ o. by ts st (if_type ts o)) c.in-None.is)

pub without_value-requires : goal.without_value-requires
without_value-requires c = record { ty = subst (IsBelow (length c.args.state.now.types)) c.in-Some.is c.requires.ty }

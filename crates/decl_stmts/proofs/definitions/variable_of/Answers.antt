use Rattle.std.proofs.Common.{ap, List}
use Rattle.std.specs.Prelude.{Option, option_map}
use Rattle.nim_tree.specs.Terms.{Term, term_of}
use Rattle.nim_types.specs.Types.{Ty}
use Rattle.nim_program.specs.View.{if_type}
use Rattle.expr_rules.specs.Env.{Env}
use Rattle.decl_rules.specs.State.{State}
use Rattle.decl_rules.specs.Definitions.{variable_rule}
use Rattle.decl_parts.specs.View.{around_of}
use Rattle.decl_stmts.proofs.Defining.{defining_as}
use Rattle.decl_stmts.proofs.definitions.variable_of.Goals as goal

pub returns-in-Some : goal.returns-in-Some
returns-in-Some c =
    let by = λ (ts : List Ty) (env : Env) (st : State) (o : Option Term).
    variable_rule (around_of ts c.args.around) c.args.at c.args.binding env (if_type ts c.args.ty) o st c.args.name.now in
    defining_as (λ (ts : List Ty) (env : Env) (st : State). by ts env st (option_map term_of c.args.def.now.value))
    (λ ts env st. ap (λ o. by ts env st (option_map term_of o)) c.in-Some.is) c.initialised.ensures

pub returns-in-None : goal.returns-in-None
returns-in-None c =
    let by = λ (ts : List Ty) (env : Env) (st : State) (o : Option Term).
    variable_rule (around_of ts c.args.around) c.args.at c.args.binding env (if_type ts c.args.ty) o st c.args.name.now in
    defining_as (λ (ts : List Ty) (env : Env) (st : State). by ts env st (option_map term_of c.args.def.now.value))
    (λ ts env st. ap (λ o. by ts env st (option_map term_of o)) c.in-None.is) c.defaulted.ensures

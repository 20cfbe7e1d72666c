use Rattle.std.proofs.Common.{ap, List}
use Rattle.std.specs.Prelude.{option_map}
use Rattle.nim_tree.specs.Types.{written_of}
use Rattle.nim_types.specs.Types.{Ty}
use Rattle.expr_rules.specs.Env.{Env}
use Rattle.decl_rules.specs.Written.{if_written}
use Rattle.decl_parts.specs.View.{env_in}
use Rattle.decl_parts.proofs.ForCallers.{typing_as, typing_here}
use Rattle.decl_stmts.proofs.definitions.annotation.Goals as goal

pub returns-in-Some : goal.returns-in-Some
returns-in-Some c =
    typing_as (λ (ts : List Ty) (env : Env). if_written env (option_map written_of c.args.def.now.annotation))
    (λ ts u. ap (λ o. if_written (env_in ts c.args.state.now) (option_map written_of o)) c.in-Some.is) c.some_type.ensures

pub returns-in-None : goal.returns-in-None
returns-in-None c =
    typing_here (λ (ts : List Ty) (env : Env). if_written env (option_map written_of c.args.def.now.annotation))
    (λ ts. ap (λ o. if_written (env_in ts c.args.state.now) (option_map written_of o)) c.in-None.is) tt

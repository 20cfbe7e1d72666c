use Rattle.std.proofs.Common.{Some, List, refl}
use Rattle.std.specs.Prelude.{Ok}
use Rattle.nim_types.specs.Types.{Ty}
use Rattle.nim_types.specs.Table.{IsBelow}
use Rattle.nim_program.specs.View.{if_type}
use Rattle.expr_rules.specs.Env.{Env}
use Rattle.decl_parts.proofs.ForCallers.{typing_then, typing_stops}
use Rattle.decl_heads.proofs.written.some_type.Goals as goal

pub returns-in-Ok : goal.returns-in-Ok
returns-in-Ok c = typing_then (λ (ts : List Ty) (env : Env) (ty : Ty). Ok (Some ty)) c.in-Ok.ensures (λ ts u. refl) c.in-Ok.ensures.fits

pub returns-in-Err : goal.returns-in-Err
returns-in-Err c = typing_stops if_type IsBelow (λ (ts : List Ty) (env : Env) (ty : Ty). Ok (Some ty)) c.in-Err.ensures

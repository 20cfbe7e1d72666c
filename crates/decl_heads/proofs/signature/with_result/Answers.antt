use Rattle.std.proofs.Common.{List, refl, length}
use Rattle.std.specs.Prelude.{map, Ok, Option}
use Rattle.nim_types.specs.Types.{Ty}
use Rattle.expr_rules.specs.Env.{Env}
use Rattle.decl_parts.proofs.ForCallers.{typing_then, typing_stops}
use Rattle.decl_heads.specs.ViewHeads.{given_of, signature_of, SignatureWithin, signature_as}
use Rattle.decl_heads.proofs.Grouping.{within_more}
use Rattle.decl_heads.proofs.signature.with_result.Goals as goal

pub returns-in-Ok-clause-said : goal.returns-in-Ok-clause-said
returns-in-Ok-clause-said c =
    typing_then (λ (ts : List Ty) (env : Env) (gives : Option Ty). Ok (signature_as (map (given_of ts) c.args.params) gives)) c.in-Ok.ensures (λ ts u. refl)
    (record {
      params = within_more (length c.args.state.now.types) (length c.if_written.new.state.types) c.args.params c.in-Ok.ensures.grown.length c.requires.params;
      gives = c.in-Ok.ensures.fits;
    })

pub returns-in-Err-clause-said : goal.returns-in-Err-clause-said
returns-in-Err-clause-said c =
    typing_stops signature_of SignatureWithin (λ (ts : List Ty) (env : Env) (gives : Option Ty). Ok (signature_as (map (given_of ts) c.args.params) gives))
    c.in-Err.ensures

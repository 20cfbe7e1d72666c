use Rattle.std.proofs.Common.{ap, length, Bool, List, arith}
use Rattle.std.specs.Prelude.{Ok}
use Rattle.arc_base.specs.Refusal.{and_then}
use Rattle.nim_types.specs.Types.{Ty, same}
use Rattle.nim_types.specs.Table.{type_at, facts_in}
use Rattle.expr_rules.specs.Env.{Env}
use Rattle.expr_parts.specs.View.{valued_of}
use Rattle.expr_parts.proofs.ForCallers.{answers_as}
use Rattle.decl_rules.specs.Values.{Value, of_type, accepted_if}
use Rattle.decl_written.specs.ViewWritten.{numbered_of}
use Rattle.decl_parts.specs.View.{NumberedWithin}
use Rattle.decl_parts.proofs.Growing.{ok_by}
use Rattle.decl_parts.proofs.Judging.{typing_then, typing_stops}
use Rattle.decl_parts.proofs.typing.value_as_at.Goals as goal

pub returns-in-Ok : goal.returns-in-Ok
returns-in-Ok c =
    let v = c.in-Ok.given in
    let types = c.value_at.new.state.types in
    typing_then (λ (ts : List Ty) (env : Env) (x : Value). and_then (of_type (type_at ts c.args.ty) x.given) (λ _. Ok x)) c.in-Ok.ensures
    (λ ts u.
    let by = λ (b : Bool). and_then (accepted_if b (valued_of ts v.value)) (λ _. Ok (numbered_of ts v)) in
    answers_as (numbered_of ts) (by (same (type_at ts c.args.ty) (type_at ts v.value.ty))) (by c.is_same.result) c.numbered_if.result
    (ap by (c.is_same.ensures ts (facts_in types) u)) (c.numbered_if.ensures.answers ts))
    (ok_by (NumberedWithin (length types)) v c.numbered_if.result c.in-Ok.ensures.fits c.numbered_if.ensures.same)

pub returns-in-Err : goal.returns-in-Err
returns-in-Err c =
    typing_stops numbered_of NumberedWithin
    (λ (ts : List Ty) (env : Env) (x : Value). and_then (of_type (type_at ts c.args.ty) x.given) (λ _. Ok x)) c.in-Err.ensures

pub is_same-requires-clause-a : goal.is_same-requires-clause-a
is_same-requires-clause-a c = omega (arith, c.requires.ty, c.value_at.ensures.grown.length)

use Rattle.std.proofs.Common.{ap, length, Bool, subst}
use Rattle.nim_types.specs.Types.{same}
use Rattle.nim_types.specs.Table.{type_at, IsBelow}
use Rattle.nim_program.specs.View.{expr_of}
use Rattle.expr_rules.specs.Answers.{value_of}
use Rattle.expr_parts.specs.View.{valued_of}
use Rattle.expr_parts.proofs.ForCallers.{goes, stops, answers_as}
use Rattle.decl_rules.specs.Values.{of_type, accepted_if}
use Rattle.decl_parts.proofs.values.returned_as.Goals as goal

pub returns-in-Ok : goal.returns-in-Ok
returns-in-Ok c = λ ts facts u.
    let ty = type_at ts c.args.place.ty in
    let v = c.in-Ok.value in
    let by = λ (k : Bool). accepted_if k (valued_of ts v) in
    goes (valued_of ts) (valued_of ts) (value_of (expr_of ts c.args.expr)) (of_type ty) v c.accepted_if.result (c.in-Ok.ensures.answers ts)
    (answers_as (valued_of ts) (by (same ty (type_at ts v.ty))) (by c.is_same.result) c.accepted_if.result (ap by (c.is_same.ensures ts facts u))
    (c.accepted_if.ensures.answers ts))

pub returns-in-Err : goal.returns-in-Err
returns-in-Err c = λ ts facts u.
    stops (valued_of ts) (valued_of ts) (value_of (expr_of ts c.args.expr)) (of_type (type_at ts c.args.place.ty)) c.in-Err.stop (c.in-Err.ensures.answers ts)

pub is_same-requires-clause-b : goal.is_same-requires-clause-b
is_same-requires-clause-b c = subst (IsBelow (length c.args.types.now)) c.in-Ok.ensures.number c.requires.expr

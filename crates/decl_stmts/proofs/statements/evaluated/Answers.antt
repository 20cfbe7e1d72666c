use Rattle.std.proofs.Common.{ap, sym, ◌∙◌, [], ◌∷◌, Bool, List, length, subst}
use Rattle.std.specs.Prelude.{Ok, Option}
use Rattle.arc_base.specs.Refusal.{and_then}
use Rattle.nim_types.specs.Table.{IsBelow}
use Rattle.nim_types.specs.Types.{Ty}
use Rattle.nim_program.specs.Nodes.{discard}
use Rattle.nim_program.specs.Program.{Stmt, type_of}
use Rattle.nim_program.specs.View.{expr_of, if_type}
use Rattle.expr_parts.proofs.ForCallers.{answers_as}
use Rattle.decl_rules.specs.State.{does}
use Rattle.decl_rules.specs.Values.{evaluated_by, given_if}
use Rattle.decl_parts.specs.View.{if_result}
use Rattle.decl_stmts.specs.ViewStated.{listed_steps}
use Rattle.decl_stmts.proofs.Made.{list_answers}
use Rattle.decl_stmts.proofs.statements.evaluated.Goals as goal

pub returns-in-Some : goal.returns-in-Some
returns-in-Some c = λ ts facts u.
    let gives = if_result ts c.args.ends in
    let n = c.args.node in
    let e = expr_of ts c.args.value in
    let k = λ (s : Stmt). Ok (does s ∷ []) in
    answers_as (listed_steps ts) (and_then (evaluated_by gives n e (type_of e)) k) (and_then (given_if c.has_type.result gives n e) k)
    c.evaluated_as.result
    (ap (λ (o : Option Ty). and_then (evaluated_by gives n e o) k) (sym (c.type_number.ensures.ty ts) ∙ ap (if_type ts) c.in-Some.is)
    ∙ ap (λ (b : Bool). and_then (given_if b gives n e) k) (c.has_type.ensures ts facts u))
    (c.evaluated_as.ensures ts)

pub returns-in-None : goal.returns-in-None
returns-in-None c = λ ts facts u.
    let n = c.args.node in
    let e = expr_of ts c.args.value in
    let by = λ (o : Option Ty). and_then (evaluated_by (if_result ts c.args.ends) n e o) (λ (s : Stmt). Ok (does s ∷ [])) in
    list_answers ts (by (type_of e)) (λ (us : List Ty). does (discard n (expr_of us c.args.value)) ∷ []) c.does_one.result
    (ap by (sym (c.type_number.ensures.ty ts) ∙ ap (if_type ts) c.in-None.is)) c.does_one.ensures.list c.does_one.ensures.memory

pub has_type-requires-clause-ty : goal.has_type-requires-clause-ty
has_type-requires-clause-ty c = subst (IsBelow (length c.args.types.now)) (sym c.type_number.ensures.number ∙ c.in-Some.is) c.requires.within

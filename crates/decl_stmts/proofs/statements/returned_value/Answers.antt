use Rattle.std.proofs.Common.{List}
use Rattle.std.specs.Prelude.{Ok}
use Rattle.nim_types.specs.Types.{Ty, Facts}
use Rattle.nim_program.specs.View.{expr_of}
use Rattle.expr_rules.specs.Answers.{Valued}
use Rattle.expr_parts.specs.View.{valued_of}
use Rattle.decl_rules.specs.State.{did}
use Rattle.decl_rules.specs.Values.{returned, gives_back}
use Rattle.decl_parts.specs.View.{Beside, state_of, if_result}
use Rattle.decl_parts.proofs.ForCallers.{rule_goes, rule_stops}
use Rattle.decl_stmts.specs.ViewStated.{listed_stated}
use Rattle.decl_stmts.proofs.Made.{made_list}
use Rattle.decl_stmts.proofs.statements.returned_value.Goals as goal

pub returns-in-Ok : goal.returns-in-Ok
returns-in-Ok c =
    let old = c.args.state.now in
    let v = c.in-Ok.value in
    let gives = λ (ts : List Ty). if_result ts c.args.gives in
    rule_goes valued_of (λ (ts : List Ty) (facts : Facts). returned (gives ts) (expr_of ts c.args.typed.expr))
    (λ (ts : List Ty) (b : Beside) (x : Valued). Ok (did (state_of ts b old) (gives_back (gives ts) c.args.node x.expr) c.args.typed.next)) c.in-Ok.ensures
    (made_list old c.args.typed.next (λ ts. gives_back (gives ts) c.args.node (expr_of ts v.expr)) c.given_back.result
    c.requires.ready c.given_back.ensures.list c.given_back.ensures.memory)

pub returns-in-Err : goal.returns-in-Err
returns-in-Err c =
    let old = c.args.state.now in
    let gives = λ (ts : List Ty). if_result ts c.args.gives in
    rule_stops (λ ts b s. listed_stated ts b old s) valued_of (λ (ts : List Ty) (facts : Facts). returned (gives ts) (expr_of ts c.args.typed.expr))
    (λ (ts : List Ty) (b : Beside) (x : Valued). Ok (did (state_of ts b old) (gives_back (gives ts) c.args.node x.expr) c.args.typed.next)) c.in-Err.ensures

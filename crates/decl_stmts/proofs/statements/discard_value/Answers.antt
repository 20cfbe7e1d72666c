use Rattle.std.proofs.Common.{List}
use Rattle.std.specs.Prelude.{Ok}
use Rattle.nim_types.specs.Types.{Ty}
use Rattle.nim_program.specs.Nodes.{discard}
use Rattle.nim_program.specs.View.{expr_of}
use Rattle.expr_rules.specs.Answers.{node}
use Rattle.decl_rules.specs.State.{State, did}
use Rattle.decl_rules.specs.Values.{Value}
use Rattle.decl_parts.specs.View.{Beside, state_of}
use Rattle.decl_parts.proofs.ForCallers.{type_goes, type_stops, ready_typed}
use Rattle.decl_stmts.specs.ViewStated.{listed_stated}
use Rattle.decl_stmts.proofs.Made.{made_list}
use Rattle.decl_stmts.proofs.statements.discard_value.Goals as goal

pub returns-in-Ok : goal.returns-in-Ok
returns-in-Ok c = λ a ends.
    let v = c.in-Ok.given in
    let n = node c.args.state.now.node c.args.at in
    type_goes (λ (ts : List Ty) (st : State) (x : Value). Ok (did st (discard n x.given.expr) x.next)) c.requires.ready c.in-Ok.ensures
    (made_list c.value_first.new.state v.next (λ ts. discard n (expr_of ts v.value.expr)) c.does_one.result
    (ready_typed c.in-Ok.ensures c.requires.ready) c.does_one.ensures.list c.does_one.ensures.memory)

pub returns-in-Err : goal.returns-in-Err
returns-in-Err c = λ a ends.
    let n = node c.args.state.now.node c.args.at in
    type_stops (λ ts b s. listed_stated ts b c.value_first.new.state s)
    (λ (ts : List Ty) (b : Beside) (x : Value). Ok (did (state_of ts b c.args.state.now) (discard n x.given.expr) x.next)) c.in-Err.ensures

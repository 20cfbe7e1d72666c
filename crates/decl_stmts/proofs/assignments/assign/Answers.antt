use Rattle.std.proofs.Common.{List}
use Rattle.nim_tree.specs.Terms.{term_of}
use Rattle.nim_types.specs.Types.{Ty}
use Rattle.expr_rules.specs.Answers.{node}
use Rattle.decl_rules.specs.State.{State}
use Rattle.decl_rules.specs.Values.{Value}
use Rattle.decl_parts.specs.View.{Beside, state_of}
use Rattle.decl_parts.proofs.ForCallers.{type_goes, type_stops, ready_typed}
use Rattle.decl_stmts.specs.ViewStated.{assign_behind, listed_stated}
use Rattle.decl_stmts.proofs.assignments.assign.Goals as goal

pub returns-in-Ok : goal.returns-in-Ok
returns-in-Ok c = λ a ends.
    type_goes (λ (ts : List Ty) (st : State) (v : Value).
    assign_behind st (node c.args.state.now.node c.args.at) c.args.op (term_of c.args.target.now) (term_of c.args.value.now) v)
    c.requires.ready c.in-Ok.ensures c.assign_to.ensures

pub returns-in-Err : goal.returns-in-Err
returns-in-Err c = λ a ends.
    let old = c.args.state.now in
    type_stops (λ ts b s. listed_stated ts b c.value_first.new.state s)
    (λ (ts : List Ty) (b : Beside) (v : Value).
    assign_behind (state_of ts b old) (node old.node c.args.at) c.args.op (term_of c.args.target.now) (term_of c.args.value.now) v) c.in-Err.ensures

pub assign_to-requires-clause-ready : goal.assign_to-requires-clause-ready
assign_to-requires-clause-ready c = ready_typed c.in-Ok.ensures c.requires.ready

pub assign_to-requires-clause-given : goal.assign_to-requires-clause-given
assign_to-requires-clause-given c = c.in-Ok.ensures.fits

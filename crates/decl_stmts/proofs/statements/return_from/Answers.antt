use Rattle.std.proofs.Common.{ap, sym, suc, List, length}
use Rattle.std.specs.Prelude.{Ok}
use Rattle.arc_base.specs.Refusal.{and_then}
use Rattle.nim_tree.specs.Terms.{term_of}
use Rattle.nim_types.specs.Types.{Ty}
use Rattle.expr_rules.specs.Answers.{node, Typed, Want}
use Rattle.expr_rules.specs.Typed.{typed}
use Rattle.decl_rules.specs.State.{State, did}
use Rattle.decl_rules.specs.Values.{returned, given_want, gives_back}
use Rattle.decl_parts.specs.View.{Beside, state_of, env_in, if_result}
use Rattle.decl_parts.proofs.ForCallers.{stated_so, type_goes, type_stops, ready_typed, result_more}
use Rattle.decl_stmts.specs.ViewStated.{listed_stated}
use Rattle.decl_stmts.proofs.statements.return_from.Goals as goal

pub returns-in-Ok : goal.returns-in-Ok
returns-in-Ok c =
    let old = c.args.state.now in
    let n = node old.node c.args.at in
    let go = λ (ts : List Ty) (st : State) (x : Typed). and_then (returned (if_result ts c.args.gives) x.expr)
    (λ v. Ok (did st (gives_back (if_result ts c.args.gives) n v.expr) x.next)) in
    let by = λ (ts : List Ty) (b : Beside) (w : Want). and_then (typed (env_in ts old) w (suc old.node) (term_of c.args.value.now))
    (go ts (state_of ts b old)) in
    stated_so (λ ts b. by ts b (given_want (if_result ts c.args.gives))) (λ ts b u. ap (by ts b) (sym (c.given_want.ensures.want ts)))
    (type_goes go c.requires.ready c.in-Ok.ensures c.returned_value.ensures)

pub returns-in-Err : goal.returns-in-Err
returns-in-Err c =
    let old = c.args.state.now in
    let n = node old.node c.args.at in
    let go = λ (ts : List Ty) (st : State) (x : Typed). and_then (returned (if_result ts c.args.gives) x.expr)
    (λ v. Ok (did st (gives_back (if_result ts c.args.gives) n v.expr) x.next)) in
    let by = λ (ts : List Ty) (b : Beside) (w : Want). and_then (typed (env_in ts old) w (suc old.node) (term_of c.args.value.now))
    (go ts (state_of ts b old)) in
    stated_so (λ ts b. by ts b (given_want (if_result ts c.args.gives))) (λ ts b u. ap (by ts b) (sym (c.given_want.ensures.want ts)))
    (type_stops (λ ts b s. listed_stated ts b c.type_first.new.state s) (λ (ts : List Ty) (b : Beside). go ts (state_of ts b old)) c.in-Err.ensures)

pub type_first-requires-clause-want : goal.type_first-requires-clause-want
type_first-requires-clause-want c = c.given_want.ensures.within (length c.args.state.now.types) c.requires.gives

pub returned_value-requires-clause-ready : goal.returned_value-requires-clause-ready
returned_value-requires-clause-ready c = ready_typed c.in-Ok.ensures c.requires.ready

pub returned_value-requires-clause-gives : goal.returned_value-requires-clause-gives
returned_value-requires-clause-gives c =
    result_more (length c.args.state.now.types) (length c.type_first.new.state.types) c.args.gives c.type_first.ensures.grown.length c.requires.gives

pub returned_value-requires-clause-within : goal.returned_value-requires-clause-within
returned_value-requires-clause-within c = c.in-Ok.ensures.fits

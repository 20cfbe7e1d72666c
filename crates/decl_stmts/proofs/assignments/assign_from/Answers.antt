use Rattle.std.proofs.Common.{ap, sym, List, length, arith}
use Rattle.std.specs.Prelude.{Ok}
use Rattle.arc_base.specs.Refusal.{and_then}
use Rattle.nim_tree.specs.Terms.{term_of}
use Rattle.nim_types.specs.Types.{Ty}
use Rattle.nim_types.specs.Table.{type_at}
use Rattle.nim_program.specs.View.{expr_of}
use Rattle.expr_rules.specs.Answers.{Want}
use Rattle.expr_rules.specs.Paths.{path_of}
use Rattle.decl_rules.specs.State.{State, did}
use Rattle.decl_rules.specs.Values.{Value, valued_term, source_want, source_rule, assigned}
use Rattle.decl_parts.specs.View.{Beside, env_in, state_of}
use Rattle.decl_parts.proofs.ForCallers.{stated_so, type_goes, type_stops, ready_typed}
use Rattle.decl_stmts.specs.ViewStated.{listed_stated}
use Rattle.decl_stmts.proofs.assignments.assign_from.Goals as goal

pub returns-in-Ok : goal.returns-in-Ok
returns-in-Ok c =
    let old = c.args.state.now in
    let go = λ (ts : List Ty) (st : State) (x : Value). and_then (source_rule c.args.op (type_at ts c.args.target.ty) x.given)
    (λ z. Ok (did st (assigned c.args.op c.args.node (path_of (expr_of ts c.args.target.expr)) z.expr) x.next)) in
    let by = λ (ts : List Ty) (b : Beside) (w : Want). and_then (valued_term (env_in ts old) w c.args.first (term_of c.args.value.now))
    (go ts (state_of ts b old)) in
    stated_so (λ ts b. by ts b (source_want c.args.op (type_at ts c.args.target.ty))) (λ ts b u. ap (by ts b) (sym (c.source_want.ensures.want ts)))
    (type_goes go c.requires.ready c.in-Ok.ensures c.assignment.ensures)

pub returns-in-Err : goal.returns-in-Err
returns-in-Err c =
    let old = c.args.state.now in
    let go = λ (ts : List Ty) (st : State) (x : Value). and_then (source_rule c.args.op (type_at ts c.args.target.ty) x.given)
    (λ z. Ok (did st (assigned c.args.op c.args.node (path_of (expr_of ts c.args.target.expr)) z.expr) x.next)) in
    let by = λ (ts : List Ty) (b : Beside) (w : Want). and_then (valued_term (env_in ts old) w c.args.first (term_of c.args.value.now))
    (go ts (state_of ts b old)) in
    stated_so (λ ts b. by ts b (source_want c.args.op (type_at ts c.args.target.ty))) (λ ts b u. ap (by ts b) (sym (c.source_want.ensures.want ts)))
    (type_stops (λ ts b s. listed_stated ts b c.value_at.new.state s) (λ (ts : List Ty) (b : Beside). go ts (state_of ts b old)) c.in-Err.ensures)

pub value_at-requires-clause-want : goal.value_at-requires-clause-want
value_at-requires-clause-want c = c.source_want.ensures.within (length c.args.state.now.types) c.requires.target

pub assignment-requires-clause-ready : goal.assignment-requires-clause-ready
assignment-requires-clause-ready c = ready_typed c.in-Ok.ensures c.requires.ready

pub assignment-requires-clause-target : goal.assignment-requires-clause-target
assignment-requires-clause-target c = omega (arith, c.requires.target, c.value_at.ensures.grown.length)

pub assignment-requires-clause-source : goal.assignment-requires-clause-source
assignment-requires-clause-source c = c.in-Ok.ensures.fits

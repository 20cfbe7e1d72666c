use Rattle.std.proofs.Common.{length, subst, sym, refl}
use Rattle.std.proofs.lemmas.Result.{err_from_is_err_and}
use Rattle.std.specs.Prelude.{Ok, Some, Option}
use Rattle.nim_tree.specs.Statements.{head_of, statements_of}
use Rattle.nim_program.specs.declared.program.Body.{Body as RustBody}
use Rattle.decl_parts.specs.declared.state.State.{State as RustState}
use Rattle.decl_parts.specs.View.{Stating, ResultWithin, state_of}
use Rattle.decl_parts.proofs.ForCallers.{stated_forgets, further_as, further_same}
use Rattle.decl_heads.specs.ViewHeads.{headed_of}
use Rattle.check_decls.specs.ViewBodies.{bodied_as, some_body_rule}
use Rattle.check_decls.proofs.Scopes.{body_goes, body_stops, given_within}
use Rattle.check_decls.proofs.bodies.some_body.Goals as goal

pub returns-in-Ok-clause-stated : goal.returns-in-Ok-clause-stated
returns-in-Ok-clause-stated c = λ k.
    let old = c.args.state.now in
    let g = c.args.signature.now in
    let h = c.args.head.now in
    let body = statements_of c.args.trees.now in
    let whole : RustBody = record {
      first = old.place;
      places = c.saturating_sub-places.result;
      before = old.node;
      result = c.in_ok-result.result;
      stmts = c.in-Ok.stmts;
    } in
    subst (λ (s : RustState). Stating old s (λ ts b (x : Option RustBody). bodied_as ts b s x)
    (λ ts b. some_body_rule (state_of ts b old) (head_of h) (headed_of ts g k) body) (Ok (Some whole))) (sym c.leave.ensures)
    (body_goes old c.begin_body.new.state c.body_statements.new.state h g k body c.in_ok-result.result c.count-count.result
    c.place_given-gives.result c.in-Ok.stmts whole c.requires.ready c.count-count.ensures c.place_given-gives.ensures c.in_ok-result.ensures.begun
    c.in-Ok.ensures refl c.saturating_sub-places.ensures refl refl refl)

pub returns-in-Err-clause-stated : goal.returns-in-Err-clause-stated
returns-in-Err-clause-stated c = λ k.
    body_stops c.args.state.now c.begin_body.new.state c.body_statements.new.state c.args.head.now c.args.signature.now k
    (statements_of c.args.trees.now) c.in_ok-result.result c.place_given-gives.result c.in-Err.stop c.place_given-gives.ensures
    c.in_ok-result.ensures.begun c.in-Err.ensures

pub returns-in_err-result-clause-stated : goal.returns-in_err-result-clause-stated
returns-in_err-result-clause-stated c = λ k.
    let old = c.args.state.now in
    let new = c.begin_body.new.state in
    let p = err_from_is_err_and c.from_residual.result c.from_residual.ensures.1 in
    rw (p.1, p.2)
    (stated_forgets (λ ts b (x : Option RustBody). bodied_as ts b new x)
    (λ ts b. some_body_rule (state_of ts b old) (head_of c.args.head.now) (headed_of ts c.args.signature.now k) (statements_of c.args.trees.now))
    _ (further_as c.begin_body.ensures.types (further_same new)) c.in_err-result.ensures.memory)

pub body_statements-requires-clause-ready : goal.body_statements-requires-clause-ready
body_statements-requires-clause-ready c = c.in_ok-result.ensures.begun.ready

pub body_statements-requires-clause-gives : goal.body_statements-requires-clause-gives
body_statements-requires-clause-gives c =
    let n = length c.begin_body.new.state.types in
    subst (ResultWithin n) (sym c.place_given-gives.ensures) (given_within n c.in_ok-result.result c.in_ok-result.ensures.begun.within)

use Rattle.std.proofs.Common.{◌≡◌, ◌+◌, ◌-◌, ◌++◌, List, [], Vec, Global, ap, sym, refl, drop, length, arith, subst, length-drop}
use Rattle.std.proofs.Common.{drop_of_length-le}
use Rattle.std.proofs.lemmas.Result.{err_from_is_err_and}
use Rattle.std.specs.Prelude.{Ok}
use Rattle.arc_base.specs.Refusal.{and_then}
use Rattle.nim_tree.specs.Statements.{statements_of}
use Rattle.nim_types.specs.Types.{Ty}
use Rattle.nim_program.specs.declared.stmt.Stmt.{Stmt as RustStmt}
use Rattle.decl_rules.specs.State.{Stated, stated_as, and_more, in_body}
use Rattle.decl_rules.specs.Stated.{all_stated}
use Rattle.decl_parts.specs.View.{Beside, ResultWithin, if_result, state_of, all_stated_as, steps_of}
use Rattle.decl_parts.proofs.ForCallers.{result_more, left_whole, left_goes, left_stops, left_forgets, left_ends, nothing_onto, more_onto, onto_end}
use Rattle.decl_parts.proofs.ForCallers.{next_name, steps_onto}
use Rattle.check_decls.proofs.Scopes.{body_next, last_below}
use Rattle.check_decls.proofs.bodies.body_statements.Goals as goal

pub loop-tree-init : goal.loop-tree-init
loop-tree-init c =
    let none = c.new-all.result.items in
    record {
      left = omega arith;
      rest =
          left_whole c.args.state.now
          (λ ts b. all_stated (in_body (if_result ts c.args.gives)) (if_result ts c.args.gives) (state_of ts b c.args.state.now)
          (statements_of c.args.trees.now))
          (λ ts. steps_onto ts none) c.requires.ready (λ ts a. nothing_onto ts none a c.new-all.ensures.items);
    }

pub loop-tree-preserved : goal.loop-tree-preserved
loop-tree-preserved c =
    let at = c.loop-tree in
    let gives = c.args.gives in
    let item = c.tree-item.result in
    let more = drop (at.tree-index + 1) c.args.trees.now in
    let e = next_name c.args.trees.now at.tree-index item c.tree-item.is c.loop-tree-test.true in
    let count : at.left - 1 ≡ length more = omega (arith, at.invariant.left, ap length e) in
    let all = c.append.new.all.items in
    record {
      left = count;
      rest =
          left_goes (λ ts (b : Beside) (y : Stated). all_stated (in_body (if_result ts gives)) (if_result ts gives) y.state (statements_of more))
          (λ (ts : List Ty). and_more) (λ ts. steps_onto ts all) at.invariant.rest
          (λ ts b. body_next ts gives (state_of ts b at.state) (drop at.tree-index c.args.trees.now) item more (at.left - 1) c.last_result.result e count
          c.last_result.ensures)
          c.in-Ok.ensures
          (λ ts b a. more_onto ts at.all.items c.in-Ok.more.items all (state_of ts b c.statement.new.state) a c.in_ok-append-in-Ok.ensures.all);
    }

pub returns : goal.returns
returns c =
    let at = c.loop-tree in
    let gives = c.args.gives in
    let e = drop_of_length-le c.args.trees.now c.loop-tree-test.false in
    left_ends (λ ts b (all : Vec RustStmt Global). all_stated_as ts b at.state all.items) (λ ts b. stated_as [] (state_of ts b at.state)) at.all
    at.invariant.rest
    (λ ts b. ap (λ l. all_stated (in_body (if_result ts gives)) (if_result ts gives) (state_of ts b at.state) (statements_of l)) e)
    (λ ts b. onto_end ts b at.state at.all.items)

pub returns-in-Err : goal.returns-in-Err
returns-in-Err c =
    let at = c.loop-tree in
    let gives = c.args.gives in
    let item = c.tree-item.result in
    let more = drop (at.tree-index + 1) c.args.trees.now in
    let e = next_name c.args.trees.now at.tree-index item c.tree-item.is c.loop-tree-test.true in
    let count : at.left - 1 ≡ length more = omega (arith, at.invariant.left, ap length e) in
    left_stops (λ ts b (all : Vec RustStmt Global). all_stated_as ts b c.statement.new.state all.items)
    (λ ts (b : Beside) (y : Stated).
    and_then (all_stated (in_body (if_result ts gives)) (if_result ts gives) y.state (statements_of more)) (λ rest. Ok (and_more y rest)))
    at.invariant.rest
    (λ ts b. body_next ts gives (state_of ts b at.state) (drop at.tree-index c.args.trees.now) item more (at.left - 1) c.last_result.result e count
    c.last_result.ensures)
    c.in-Err.ensures

pub returns-in_err-append-in-Ok : goal.returns-in_err-append-in-Ok
returns-in_err-append-in-Ok c =
    let at = c.loop-tree in
    let gives = c.args.gives in
    let item = c.tree-item.result in
    let more = drop (at.tree-index + 1) c.args.trees.now in
    let e = next_name c.args.trees.now at.tree-index item c.tree-item.is c.loop-tree-test.true in
    let count : at.left - 1 ≡ length more = omega (arith, at.invariant.left, ap length e) in
    let p = err_from_is_err_and c.from_residual.result c.from_residual.ensures.1 in
    rw (p.1, p.2)
    (left_forgets (λ ts b (all : Vec RustStmt Global). all_stated_as ts b c.statement.new.state all.items) _
    (left_goes (λ ts (b : Beside) (y : Stated). all_stated (in_body (if_result ts gives)) (if_result ts gives) y.state (statements_of more))
    (λ (ts : List Ty). and_more)
    (λ ts (a : Stated). steps_onto ts at.all.items (stated_as (steps_of ts c.in-Ok.more.items ++ a.steps) a.state)) at.invariant.rest
    (λ ts b. body_next ts gives (state_of ts b at.state) (drop at.tree-index c.args.trees.now) item more (at.left - 1) c.last_result.result e count
    c.last_result.ensures)
    c.in-Ok.ensures (λ ts b a. refl))
    c.in_err-append-in-Ok.ensures.memory)

pub statement-requires : goal.statement-requires
statement-requires c =
    let at = c.loop-tree in
    let n = length at.state.types in
    let below = result_more (length c.args.state.now.types) n c.args.gives at.invariant.rest.further.length c.requires.gives in
    record {
      ready = at.invariant.rest.stands.ready;
      around = below;
      ends = subst (ResultWithin n) (sym c.last_result.ensures) (last_below n c.args.gives (at.left - 1) below);
      plain = tt;
    }

pub overflow_sub-left : goal.overflow_sub-left
overflow_sub-left c =
    let at = c.loop-tree in
    omega (arith, at.invariant.left, length-drop at.tree-index c.args.trees.now, c.loop-tree-test.true)

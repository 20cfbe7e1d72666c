use Rattle.std.proofs.Common.{◌+◌, [], List, ap, drop, Vec, Global, drop_of_length-le}
use Rattle.std.proofs.lemmas.Result.{err_from_is_err_and}
use Rattle.std.specs.Prelude.{map, Ok}
use Rattle.arc_base.specs.Refusal.{and_then}
use Rattle.nim_tree.specs.Statements.{definition_of}
use Rattle.nim_types.specs.Types.{Ty}
use Rattle.nim_program.specs.declared.stmt.Stmt.{Stmt as RustStmt}
use Rattle.decl_rules.specs.State.{Stated, stated_as, and_more}
use Rattle.decl_rules.specs.Definitions.{definitions_rule}
use Rattle.decl_parts.specs.View.{around_of, state_of, all_stated_as, Beside}
use Rattle.decl_parts.proofs.ForCallers.{left_whole, left_goes, left_stops, left_ends, nothing_onto, more_onto, onto_end, next_name, steps_onto}
use Rattle.decl_parts.proofs.ForCallers.{stated_forgets, further_on}
use Rattle.decl_stmts.proofs.definitions.definitions.Goals as goal

pub loop-def-init : goal.loop-def-init
loop-def-init c =
    let none = c.new-all.result.items in
    record {
      left =
          left_whole c.args.state.now
          (λ ts b. definitions_rule (around_of ts c.args.around) c.args.at c.args.binding (state_of ts b c.args.state.now) (map definition_of c.args.defs.now))
          (λ ts. steps_onto ts none) c.requires.ready (λ ts a. nothing_onto ts none a c.new-all.ensures.items);
    }

pub loop-def-preserved : goal.loop-def-preserved
loop-def-preserved c =
    let at = c.loop-def in
    let item = c.def-item.result in
    let e = next_name c.args.defs.now at.def-index item c.def-item.is c.loop-def-test.true in
    let rest = map definition_of (drop (at.def-index + 1) c.args.defs.now) in
    let rule = λ (ts : List Ty). definitions_rule (around_of ts c.args.around) c.args.at c.args.binding in
    record {
      left =
          left_goes (λ ts (b : Beside) (y : Stated). rule ts y.state rest) (λ (ts : List Ty). and_more)
          (λ ts. steps_onto ts c.append.new.all.items) at.invariant.left
          (λ ts b. ap (λ l. rule ts (state_of ts b at.state) (map definition_of l)) e) c.in-Ok.ensures
          (λ ts b a. more_onto ts at.all.items c.in-Ok.more.items c.append.new.all.items
          (state_of ts b c.definition.new.state) a c.in_ok-append-in-Ok.ensures.all);
    }

pub returns : goal.returns
returns c =
    let at = c.loop-def in
    let e = drop_of_length-le c.args.defs.now c.loop-def-test.false in
    let rule = λ (ts : List Ty). definitions_rule (around_of ts c.args.around) c.args.at c.args.binding in
    left_ends (λ ts b (all : Vec RustStmt Global). all_stated_as ts b at.state all.items)
    (λ ts b. stated_as [] (state_of ts b at.state)) at.all at.invariant.left
    (λ ts b. ap (λ l. rule ts (state_of ts b at.state) (map definition_of l)) e) (λ ts b. onto_end ts b at.state at.all.items)

pub returns-in-Err : goal.returns-in-Err
returns-in-Err c =
    let at = c.loop-def in
    let item = c.def-item.result in
    let e = next_name c.args.defs.now at.def-index item c.def-item.is c.loop-def-test.true in
    let rest = map definition_of (drop (at.def-index + 1) c.args.defs.now) in
    let rule = λ (ts : List Ty). definitions_rule (around_of ts c.args.around) c.args.at c.args.binding in
    left_stops (λ ts b (all : Vec RustStmt Global). all_stated_as ts b c.definition.new.state all.items)
    (λ ts (b : Beside) (y : Stated). and_then (rule ts y.state rest) (λ more. Ok (and_more y more))) at.invariant.left
    (λ ts b. ap (λ l. rule ts (state_of ts b at.state) (map definition_of l)) e) c.in-Err.ensures

pub returns-in_err-append-in-Ok : goal.returns-in_err-append-in-Ok
returns-in_err-append-in-Ok c =
    let p = err_from_is_err_and c.from_residual.result c.from_residual.ensures.1 in
    rw (p.1, p.2) (stated_forgets (λ ts b (all : Vec RustStmt Global). all_stated_as ts b c.definition.new.state all.items)
    (λ ts b. definitions_rule (around_of ts c.args.around) c.args.at c.args.binding (state_of ts b c.args.state.now) (map definition_of c.args.defs.now))
    _ (further_on c.loop-def.invariant.left.further c.in-Ok.ensures.further) c.in_err-append-in-Ok.ensures.memory)

pub definition-requires : goal.definition-requires
definition-requires c = record { ready = c.loop-def.invariant.left.stands.ready }

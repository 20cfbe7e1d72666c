use Rattle.std.proofs.Common.{subst, Vec, Global, List}
use Rattle.std.specs.Prelude.{option_map}
use Rattle.arc_base.specs.Refusal.{and_then}
use Rattle.nim_tree.specs.Terms.{term_of}
use Rattle.nim_tree.specs.Types.{written_of}
use Rattle.nim_program.specs.declared.stmt.Stmt.{Stmt as RustStmt}
use Rattle.decl_rules.specs.State.{State}
use Rattle.decl_rules.specs.Definitions.{variables_rule}
use Rattle.decl_rules.specs.Written.{if_written}
use Rattle.decl_parts.specs.declared.state.State.{State as RustState}
use Rattle.decl_parts.specs.View.{around_of, state_of, all_stated_as, Stating}
use Rattle.decl_parts.proofs.ForCallers.{stated_goes, stated_stops}
use Rattle.nim_types.specs.Types.{Ty}
use Rattle.decl_stmts.proofs.definitions.definition.Goals as goal

pub returns-in-Ok : goal.returns-in-Ok
returns-in-Ok c =
    let go = λ (ts : List Ty) (st : State). and_then (if_written st.env (option_map written_of c.args.def.now.annotation))
    (λ ty. variables_rule (around_of ts c.args.around)
    c.args.at c.args.binding st.env ty (option_map term_of c.args.def.now.value) st c.args.def.now.names.items) in
    let new = c.define.new.state in
    stated_goes (λ ts b (x : Unit {0}). go ts (state_of ts b c.args.state.now)) c.in-Ok.ensures.names
    (subst (λ (s : RustState). Stating c.new_names.new.state new (λ ts b (all : Vec RustStmt Global). all_stated_as ts b new all.items)
    (λ ts b. go ts (state_of ts b s)) c.define.result) c.in-Ok.ensures.same c.define.ensures)

pub returns-in-Err : goal.returns-in-Err
returns-in-Err c =
    let go = λ (ts : List Ty) (st : State). and_then (if_written st.env (option_map written_of c.args.def.now.annotation))
    (λ ty. variables_rule (around_of ts c.args.around)
    c.args.at c.args.binding st.env ty (option_map term_of c.args.def.now.value) st c.args.def.now.names.items) in
    stated_stops (λ ts b (all : Vec RustStmt Global). all_stated_as ts b c.new_names.new.state all.items)
    (λ ts b (x : Unit {0}). go ts (state_of ts b c.args.state.now)) c.in-Err.ensures.names

pub define-requires : goal.define-requires
define-requires c = record { ready = c.in-Ok.ensures.names.stands.ready }

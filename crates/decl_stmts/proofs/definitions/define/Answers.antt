use Rattle.std.proofs.Common.{Vec, Global, List}
use Rattle.std.specs.Prelude.{Option, option_map}
use Rattle.nim_tree.specs.Terms.{term_of}
use Rattle.nim_types.specs.Types.{Ty}
use Rattle.nim_program.specs.declared.stmt.Stmt.{Stmt as RustStmt}
use Rattle.decl_rules.specs.State.{State}
use Rattle.decl_rules.specs.Definitions.{variables_rule}
use Rattle.decl_parts.specs.View.{around_of, state_of, all_stated_as}
use Rattle.decl_parts.proofs.ForCallers.{type_goes, type_stops, ready_typed}
use Rattle.decl_stmts.proofs.definitions.define.Goals as goal

pub returns-in-Ok : goal.returns-in-Ok
returns-in-Ok c =
    type_goes (λ (ts : List Ty) (st : State) (ty : Option Ty). variables_rule (around_of ts c.args.around) c.args.at c.args.binding st.env ty
    (option_map term_of c.args.def.now.value) st c.args.def.now.names.items) c.requires.ready c.in-Ok.ensures c.define_as.ensures

pub returns-in-Err : goal.returns-in-Err
returns-in-Err c =
    type_stops (λ ts b (all : Vec RustStmt Global). all_stated_as ts b c.annotation.new.state all.items)
    (λ ts b (ty : Option Ty). variables_rule (around_of ts c.args.around) c.args.at c.args.binding (state_of ts b c.args.state.now).env ty
    (option_map term_of c.args.def.now.value) (state_of ts b c.args.state.now) c.args.def.now.names.items) c.in-Err.ensures

pub define_as-requires-clause-ready : goal.define_as-requires-clause-ready
define_as-requires-clause-ready c = ready_typed c.in-Ok.ensures c.requires.ready

pub define_as-requires-clause-ty : goal.define_as-requires-clause-ty
define_as-requires-clause-ty c = c.in-Ok.ensures.fits

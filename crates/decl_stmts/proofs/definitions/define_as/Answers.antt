use Rattle.std.proofs.Common.{Vec, Global}
use Rattle.std.proofs.lemmas.Result.{err_from_is_err_and}
use Rattle.std.specs.Prelude.{option_map}
use Rattle.nim_tree.specs.Terms.{term_of}
use Rattle.nim_program.specs.declared.stmt.Stmt.{Stmt as RustStmt}
use Rattle.nim_program.specs.View.{if_type}
use Rattle.decl_rules.specs.Definitions.{variables_rule}
use Rattle.decl_parts.specs.View.{around_of, env_in, state_of, all_stated_as}
use Rattle.decl_parts.proofs.ForCallers.{stated_forgets}
use Rattle.decl_stmts.proofs.Defining.{further_still, declared_so, still_stops}
use Rattle.decl_stmts.proofs.definitions.define_as.Goals as goal

pub returns-in_ok-declare_all-in-Ok : goal.returns-in_ok-declare_all-in-Ok
returns-in_ok-declare_all-in-Ok c =
    declared_so c.args.state.now c.variables.new.state c.declare_all.new.state c.in-Ok.news
    (λ ts b. variables_rule (around_of ts c.args.around) c.args.at c.args.binding (env_in ts c.args.state.now) (if_type ts c.args.ty)
    (option_map term_of c.args.def.now.value) (state_of ts b c.args.state.now) c.args.def.now.names.items)
    c.requires.ready c.in-Ok.ensures.still c.in-Ok.ensures.fits c.in-Ok.ensures.answers c.in_ok-declare_all-in-Ok.ensures.ok c.declare_all.ensures.kinds
    c.declare_all.ensures.home c.declare_all.ensures.same

pub returns-in-Err : goal.returns-in-Err
returns-in-Err c =
    still_stops c.in-Err.stop
    (λ ts b. variables_rule (around_of ts c.args.around) c.args.at c.args.binding (env_in ts c.args.state.now) (if_type ts c.args.ty)
    (option_map term_of c.args.def.now.value) (state_of ts b c.args.state.now) c.args.def.now.names.items)
    c.in-Err.ensures.still c.in-Err.ensures.answers

pub returns-in_err-declare_all-in-Ok : goal.returns-in_err-declare_all-in-Ok
returns-in_err-declare_all-in-Ok c =
    let p = err_from_is_err_and c.from_residual.result c.from_residual.ensures.1 in
    rw (p.1, p.2) (stated_forgets (λ ts b (all : Vec RustStmt Global). all_stated_as ts b c.declare_all.new.state all.items)
    (λ ts b. variables_rule (around_of ts c.args.around) c.args.at c.args.binding (env_in ts c.args.state.now) (if_type ts c.args.ty)
    (option_map term_of c.args.def.now.value) (state_of ts b c.args.state.now) c.args.def.now.names.items)
    _ (further_still c.in-Ok.ensures.still c.declare_all.ensures.same) c.in_err-declare_all-in-Ok.ensures.memory)

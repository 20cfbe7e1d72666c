use Rattle.std.proofs.Common.{List}
use Rattle.std.specs.Prelude.{Ok}
use Rattle.nim_types.specs.Types.{Ty}
use Rattle.decl_rules.specs.State.{State, declaring}
use Rattle.decl_rules.specs.Definitions.{Fixed, constant_entries}
use Rattle.decl_parts.specs.View.{state_of}
use Rattle.decl_parts.proofs.ForCallers.{type_goes, type_stops, ready_typed}
use Rattle.decl_stmts.proofs.Fixing.{constants_so}
use Rattle.decl_stmts.proofs.constants.fix.Goals as goal

pub returns-in-Ok : goal.returns-in-Ok
returns-in-Ok c =
    type_goes (λ (ts : List Ty) (st : State) (f : Fixed). Ok
    (declaring st (constant_entries f.of f.literal c.args.names.now))) c.requires.ready c.in-Ok.ensures
    (constants_so c.constant_value.new.state c.declare_constants.new.state c.in-Ok.value c.args.names.now c.declare_constants.result
    (ready_typed c.in-Ok.ensures c.requires.ready) c.in-Ok.ensures.fits c.declare_constants.ensures.behind c.declare_constants.ensures.begins
    c.declare_constants.ensures.within c.declare_constants.ensures.kinds c.declare_constants.ensures.home c.declare_constants.ensures.same
    c.declare_constants.ensures.memory)

pub returns-in-Err : goal.returns-in-Err
returns-in-Err c =
    type_stops (λ ts b _. state_of ts b c.constant_value.new.state)
    (λ ts b (f : Fixed). Ok (declaring (state_of ts b c.args.state.now) (constant_entries f.of f.literal c.args.names.now))) c.in-Err.ensures

use Rattle.std.proofs.Common.{List}
use Rattle.std.specs.Prelude.{Option, option_map}
use Rattle.nim_tree.specs.Terms.{term_of}
use Rattle.nim_types.specs.Types.{Ty}
use Rattle.decl_rules.specs.State.{State}
use Rattle.decl_rules.specs.Definitions.{constants_by}
use Rattle.decl_parts.specs.View.{state_of}
use Rattle.decl_parts.proofs.ForCallers.{type_goes, type_stops, ready_typed}
use Rattle.decl_stmts.proofs.constants.constants_with.Goals as goal

pub returns-in-Ok : goal.returns-in-Ok
returns-in-Ok c =
    type_goes (λ (ts : List Ty) (st : State) (ty : Option Ty). constants_by st ty (option_map term_of c.args.def.now.value) c.args.def.now.names.items)
    c.requires.ready c.in-Ok.ensures c.constants_by.ensures

pub returns-in-Err : goal.returns-in-Err
returns-in-Err c =
    type_stops (λ ts b _. state_of ts b c.annotation.new.state)
    (λ ts b (ty : Option Ty). constants_by (state_of ts b c.args.state.now) ty
    (option_map term_of c.args.def.now.value) c.args.def.now.names.items) c.in-Err.ensures

pub constants_by-requires-clause-ready : goal.constants_by-requires-clause-ready
constants_by-requires-clause-ready c = ready_typed c.in-Ok.ensures c.requires.ready

pub constants_by-requires-clause-ty : goal.constants_by-requires-clause-ty
constants_by-requires-clause-ty c = c.in-Ok.ensures.fits

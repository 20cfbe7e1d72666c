use Rattle.std.proofs.Common.{List, Vec, Global, sym, subst}
use Rattle.std.specs.Prelude.{Ok}
use Rattle.nim_tree.specs.declared.name.Name.{Name}
use Rattle.nim_types.specs.Types.{Ty}
use Rattle.nim_types.specs.Table.{type_at}
use Rattle.nim_program.specs.declared.program.Mode.{Mode}
use Rattle.nim_program.specs.declared.program.Param.{Param}
use Rattle.decl_rules.specs.State.{State}
use Rattle.decl_rules.specs.Heads.{given_as, mode_of}
use Rattle.decl_parts.proofs.ForCallers.{ready_typed}
use Rattle.decl_heads.specs.ViewHeads.{opening, Opens}
use Rattle.decl_heads.proofs.Grouping.{opens_behind, opens_stops}
use Rattle.decl_heads.proofs.signature.typed_group.Goals as goal

pub returns-in-Ok : goal.returns-in-Ok
returns-in-Ok c =
    let names = c.args.group.now.names.items in
    opens_behind (λ (ts : List Ty) (st : State) (ty : Ty). Ok (opening st (given_as names (mode_of c.args.group.now.mode) ty))) c.in-Ok.ensures
    (subst (λ (l : List Name). Opens c.written_type.new.state c.declare_group.new.state (λ (v : Vec Param Global). v.items)
    (λ ts st. Ok (opening st (given_as l (mode_of c.args.group.now.mode) (type_at ts c.in-Ok.ty)))) c.declare_group.result) c.deref.ensures.value
    (subst (λ (m : Mode). Opens c.written_type.new.state c.declare_group.new.state (λ (v : Vec Param Global). v.items)
    (λ ts st. Ok (opening st (given_as c.deref.result.now m (type_at ts c.in-Ok.ty)))) c.declare_group.result) (sym c.mode_of.ensures)
    c.declare_group.ensures))

pub returns-in-Err : goal.returns-in-Err
returns-in-Err c =
    opens_stops (λ (v : Vec Param Global). v.items)
    (λ (ts : List Ty) (st : State) (ty : Ty). Ok (opening st (given_as c.args.group.now.names.items (mode_of c.args.group.now.mode) ty))) c.in-Err.ensures

pub declare_group-requires-clause-ready : goal.declare_group-requires-clause-ready
declare_group-requires-clause-ready c = ready_typed c.in-Ok.ensures c.requires.ready

pub declare_group-requires-clause-ty : goal.declare_group-requires-clause-ty
declare_group-requires-clause-ty c = c.in-Ok.ensures.fits

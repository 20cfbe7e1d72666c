use Rattle.std.proofs.Common.{List, [], Vec, Global, sym, subst}
use Rattle.std.specs.Prelude.{Err}
use Rattle.arc_base.specs.Refusal.{and_then}
use Rattle.nim_tree.specs.declared.name.Name.{Name}
use Rattle.nim_tree.specs.Statements.{parameters_of}
use Rattle.nim_types.specs.Types.{Ty}
use Rattle.nim_program.specs.declared.program.Param.{Param}
use Rattle.decl_rules.specs.State.{State}
use Rattle.decl_parts.specs.declared.state.State.{State as RustState}
use Rattle.decl_parts.specs.View.{Ready}
use Rattle.decl_rules.specs.Heads.{group_names}
use Rattle.decl_heads.specs.ViewHeads.{group_typed, Opens}
use Rattle.decl_heads.proofs.Grouping.{opens_named, opens_unnamed}
use Rattle.decl_heads.proofs.signature.new_group.Goals as goal

pub returns-in-Ok : goal.returns-in-Ok
returns-in-Ok c =
    let g = parameters_of c.args.group.now in
    subst (λ (l : List Name). Opens c.args.state.now c.typed_group.new.state (λ (v : Vec Param Global). v.items)
    (λ ts st. and_then (group_names st c.args.has_result [] l) (λ _. group_typed st g)) c.typed_group.result) c.deref.ensures.value
    (opens_named (λ (ts : List Ty) (st : State). group_names st c.args.has_result [] c.deref.result.now) (λ (ts : List Ty) (st : State). group_typed st g)
    c.in-Ok.ensures.names c.in-Ok.ensures.same c.typed_group.ensures)

pub returns-in-Err : goal.returns-in-Err
returns-in-Err c =
    let g = parameters_of c.args.group.now in
    subst (λ (l : List Name). Opens c.args.state.now c.new_names.new.state (λ (v : Vec Param Global). v.items)
    (λ ts st. and_then (group_names st c.args.has_result [] l) (λ _. group_typed st g)) (Err c.in-Err.stop)) c.deref.ensures.value
    (opens_unnamed (λ (v : Vec Param Global). v.items) (λ (ts : List Ty) (st : State). group_names st c.args.has_result [] c.deref.result.now)
    (λ (ts : List Ty) (st : State). group_typed st g) c.in-Err.ensures.names c.new_names.ensures.types)

pub typed_group-requires : goal.typed_group-requires
typed_group-requires c = record { ready = subst (λ (s : RustState). Ready s) (sym c.in-Ok.ensures.same) c.requires.ready }

use Rattle.std.proofs.Common.{◌≡◌, ◌+◌, List, Vec, Global, length, sym, subst}
use Rattle.std.specs.Prelude.{map, Ok}
use Rattle.std.proofs.lemmas.Result.{err_from_is_err_and}
use Rattle.nim_types.specs.Types.{Ty}
use Rattle.nim_types.specs.Table.{type_at}
use Rattle.nim_program.specs.declared.program.Param.{Param}
use Rattle.expr_parts.proofs.ForCallers.{grown_same}
use Rattle.expr_parts.specs.View.{Grown}
use Rattle.decl_rules.specs.State.{State}
use Rattle.decl_rules.specs.Heads.{with_parameters, given_as}
use Rattle.decl_heads.specs.ViewHeads.{given_of, GivenWithin, Declares, opening}
use Rattle.decl_heads.proofs.Grouping.{opens_here, opens_forgets}
use Rattle.decl_heads.proofs.signature.declare_group.Goals as goal

pub returns : goal.returns
returns c =
    let old = c.args.state.now in
    let all = c.in_ok-all.all in
    opens_here (λ (v : Vec Param Global). v.items) (λ ts. given_as c.args.names.now c.args.mode (type_at ts c.args.ty)) all c.requires.ready
    c.declare_all.ensures.types
    (subst (λ (l : List Param). Declares old c.declare_all.new.state (λ ts st. with_parameters st (map (given_of ts) l))) c.as_slice.ensures.value
    c.in_ok-declare_all.ensures.behind)
    c.in_ok-all.ensures.given (c.in_ok-all.ensures.within (length old.types) c.requires.ty) c.in_ok-all.ensures.numbered
    (subst (λ (l : List Param). c.declare_all.new.state.place ≡ old.place + length l) c.as_slice.ensures.value c.in_ok-declare_all.ensures.place)

pub returns-in_err-all : goal.returns-in_err-all
returns-in_err-all c =
    let said = λ (ts : List Ty) (st : State). Ok (opening st (given_as c.args.names.now c.args.mode (type_at ts c.args.ty))) in
    let p = err_from_is_err_and c.from_residual.result c.from_residual.ensures.1 in
    rw (p.1, p.2) (opens_forgets (λ (v : Vec Param Global). v.items) said _ (grown_same c.args.state.now.types) c.in_err-all.ensures.memory)

pub returns-in_err-declare_all : goal.returns-in_err-declare_all
returns-in_err-declare_all c =
    let old = c.args.state.now in
    let said = λ (ts : List Ty) (st : State). Ok (opening st (given_as c.args.names.now c.args.mode (type_at ts c.args.ty))) in
    let p = err_from_is_err_and c.from_residual-in_err-declare_all.result c.from_residual-in_err-declare_all.ensures.1 in
    rw (p.1, p.2) (opens_forgets (λ (v : Vec Param Global). v.items) said _ (subst (Grown old.types) (sym c.declare_all.ensures.types) (grown_same old.types))
    c.in_err-declare_all.ensures.memory)

pub declare_all-requires : goal.declare_all-requires
declare_all-requires c = record {
  within =
      subst (GivenWithin (length c.args.state.now.types)) (sym c.as_slice.ensures.value)
      (c.in_ok-all.ensures.within (length c.args.state.now.types) c.requires.ty);
}

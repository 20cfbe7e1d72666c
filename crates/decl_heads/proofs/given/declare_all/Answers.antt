use Rattle.std.proofs.Common.{◌≡◌, ◌<◌, ◌+◌, ◌++◌, ◌∙◌, ◌∷◌, []}
use Rattle.std.proofs.Common.{List, length, take, map, ap, refl, sym, subst, arith, length-append}
use Rattle.nim_types.specs.declared.types.TypeDef.{TypeDef}
use Rattle.nim_program.specs.declared.program.Param.{Param}
use Rattle.expr_parts.proofs.ForCallers.{take_all}
use Rattle.decl_rules.specs.Heads.{with_parameters}
use Rattle.decl_heads.specs.ViewHeads.{given_of, Declares}
use Rattle.decl_heads.proofs.Opening.{declares_none, declares_more, take_one, within_at}
use Rattle.decl_heads.proofs.given.declare_all.Goals as goal

pub loop-param-init : goal.loop-param-init
loop-param-init c = record { done = declares_none c.args.state.now; place = omega arith; types = refl }

pub loop-param-preserved : goal.loop-param-preserved
loop-param-preserved c =
    let at = c.loop-param in
    let item = c.param-item.result in
    let all = c.args.all.now in
    let e : take (at.param-index + 1) all ≡ take at.param-index all ++ item ∷ [] =
    take_one all at.param-index item c.param-item.is c.loop-param-test.true in
    record {
      done = declares_more (take at.param-index all) item (take (at.param-index + 1) all) e at.invariant.done c.in_ok-declare_one.ensures.behind;
      place =
          let n = ap (λ (l : List Param). length l) e in
          omega (arith, at.invariant.place, c.in_ok-declare_one.ensures.place, n, length-append (take at.param-index all) (item ∷ []));
      types = c.declare_one.ensures.types ∙ at.invariant.types;
    }

pub returns-clause-behind : goal.returns-clause-behind
returns-clause-behind c =
    let at = c.loop-param in
    subst (λ (l : List Param). Declares c.args.state.now at.state (λ ts st. with_parameters st (map (given_of ts) l)))
    (take_all c.args.all.now at.param-index c.loop-param-test.false) at.invariant.done

pub returns-clause-place : goal.returns-clause-place
returns-clause-place c =
    let at = c.loop-param in
    subst (λ (l : List Param). at.state.place ≡ c.args.state.now.place + length l) (take_all c.args.all.now at.param-index c.loop-param-test.false)
    at.invariant.place

pub declare_one-requires : goal.declare_one-requires
declare_one-requires c =
    let at = c.loop-param in
    let item = c.param-item.result in
    record {
      ty =
          subst (λ (l : List TypeDef). item.place.ty < length l) (sym at.invariant.types)
          (within_at (length c.args.state.now.types) c.args.all.now at.param-index item c.param-item.is c.loop-param-test.true c.requires.within);
    }

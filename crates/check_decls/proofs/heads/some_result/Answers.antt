use Rattle.std.proofs.Common.{◌<◌, ap, subst, sym}
use Rattle.std.specs.Prelude.{Some}
use Rattle.decl_parts.proofs.ForCallers.{scope_by}
use Rattle.check_decls.proofs.Scopes.{result_declared}
use Rattle.check_decls.proofs.heads.some_result.Goals as goal

pub returns-clause-place : goal.returns-clause-place
returns-clause-place c = λ ts. ap Some (c.in_ok-place.ensures.place ts)

pub returns-clause-state : goal.returns-clause-state
returns-clause-state c =
    let old = c.args.state.now in
    result_declared old c.declare.new.self c.in_ok-next.next c.in_ok-place.place c.in_ok-name.name c.in_ok-name.ensures
    (scope_by old.scope c.declare.new.self c.in_ok-declare.ensures.ok c.declare.ensures.kinds c.declare.ensures.home) c.in_ok-next.ensures.next

pub returns-clause-ty : goal.returns-clause-ty
returns-clause-ty c = λ n h. subst (λ t. t < n) (sym c.in_ok-place.ensures.ty) h

use Rattle.std.proofs.Common.{◌∙◌, ap, refl}
use Rattle.std.specs.Prelude.{map}
use Rattle.expr_parts.proofs.ForCallers.{take_all}
use Rattle.decl_rules.specs.Heads.{parameters_of}
use Rattle.decl_heads.specs.ViewHeads.{given_of}
use Rattle.decl_heads.proofs.Heading.{passed_none, passed_more}
use Rattle.decl_heads.proofs.heads.parameters_of.Goals as goal

pub loop-param-init : goal.loop-param-init
loop-param-init c = passed_none c.new-all.result c.args.params.now c.new-all.ensures

pub loop-param-preserved : goal.loop-param-preserved
loop-param-preserved c =
    let at = c.loop-param in
    let item = c.param-item.result in
    passed_more at.param-index at.all c.push.new.self c.args.params.now item (record { mode = item.mode; ty = item.place.ty }) c.in_ok-push.ensures.ok refl refl
    c.param-item.is c.loop-param-test.true at.invariant

pub returns-clause-params : goal.returns-clause-params
returns-clause-params c = λ ts.
    let at = c.loop-param in
    at.invariant.same ts ∙ ap (λ l. parameters_of (map (given_of ts) l)) (take_all c.args.params.now at.param-index c.loop-param-test.false)

pub returns-clause-within : goal.returns-clause-within
returns-clause-within c = c.loop-param.invariant.within

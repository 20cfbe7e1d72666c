use Rattle.std.proofs.Common.{ap, ◌∙◌}
use Rattle.std.specs.Prelude.{Bool, not, ◌&&◌}
use Rattle.nim_tree.specs.Terms.{part, term_of}
use Rattle.expr_rules.specs.Env.{known_as}
use Rattle.expr_rules.specs.Demands.{is_a_type, is_one_type}
use Rattle.expr_parts.specs.View.{env_of}
use Rattle.expr_parts.proofs.ForCallers.{if_ok}
use Rattle.expr_steps.proofs.demands.takes_type.Goals as goal

pub returns-then-not-takes_types-clause-is : goal.returns-then-not-takes_types-clause-is
returns-then-not-takes_types-clause-is c = λ ts facts rest h.
    let env = env_of ts facts c.args.scope.now in
    let k = known_as env c.args.name.now in
    ap (λ (b : Bool). b && not (is_a_type k) && is_one_type env (part (term_of c.args.first.now) rest)) (c.takes_types.ensures ∙ c.if-not-takes_types.true)

pub returns-then-is_type-clause-is : goal.returns-then-is_type-clause-is
returns-then-is_type-clause-is c = λ ts facts rest h.
    let env = env_of ts facts c.args.scope.now in
    let k = known_as env c.args.name.now in
    let one = is_one_type env (part (term_of c.args.first.now) rest) in
    ap (λ (b : Bool). b && not (is_a_type k) && one) (c.takes_types.ensures ∙ c.if-not-takes_types.false)
    ∙ ap (λ (b : Bool). not b && one) (c.is_type.ensures ts facts ∙ c.if-is_type.true)

pub returns-clause-is : goal.returns-clause-is
returns-clause-is c = if_ok c.names_type_alone.result c.names_type_alone.ensures.is (λ r m ts facts rest h.
    let env = env_of ts facts c.args.scope.now in
    let k = known_as env c.args.name.now in
    let one = is_one_type env (part (term_of c.args.first.now) rest) in
    ap (λ (b : Bool). b && not (is_a_type k) && one) (c.takes_types.ensures ∙ c.if-not-takes_types.false)
    ∙ ap (λ (b : Bool). not b && one) (c.is_type.ensures ts facts ∙ c.if-is_type.false) ∙ m ts facts rest h)

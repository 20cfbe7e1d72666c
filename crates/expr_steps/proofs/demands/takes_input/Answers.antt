use Rattle.std.proofs.Common.{sym, ap, ◌∙◌}
use Rattle.std.specs.Prelude.{Bool, not, ◌&&◌}
use Rattle.nim_tree.specs.Terms.{part, term_of}
use Rattle.expr_rules.specs.Env.{known_as}
use Rattle.expr_rules.specs.Demands.{begins_with_input, is_a_type, is_input, is_name_of}
use Rattle.expr_parts.specs.View.{env_of}
use Rattle.expr_parts.proofs.ForCallers.{if_ok}
use Rattle.expr_steps.proofs.demands.takes_input.Goals as goal

pub returns-then-not-is_word-clause-is : goal.returns-then-not-is_word-clause-is
returns-then-not-is_word-clause-is c = λ ts facts rest.
    let env = env_of ts facts c.args.scope.now in
    let k = known_as env c.args.name.now in
    ap (λ (b : Bool). b && not (is_a_type k) && begins_with_input env (part (term_of c.args.first.now) rest)) (c.is_word.ensures ∙ c.if-not-is_word.true)

pub returns-then-is_type-clause-is : goal.returns-then-is_type-clause-is
returns-then-is_type-clause-is c = λ ts facts rest.
    let env = env_of ts facts c.args.scope.now in
    let k = known_as env c.args.name.now in
    let one = begins_with_input env (part (term_of c.args.first.now) rest) in
    ap (λ (b : Bool). b && not (is_a_type k) && one) (c.is_word.ensures ∙ c.if-not-is_word.false)
    ∙ ap (λ (b : Bool). not b && one) (c.is_type.ensures ts facts ∙ c.if-is_type.true)

pub returns-clause-is : goal.returns-clause-is
returns-clause-is c = if_ok c.names_input.result c.names_input.ensures.is (λ r m ts facts rest.
    let env = env_of ts facts c.args.scope.now in
    let k = known_as env c.args.name.now in
    let one = begins_with_input env (part (term_of c.args.first.now) rest) in
    ap (λ (b : Bool). b && not (is_a_type k) && one) (c.is_word.ensures ∙ c.if-not-is_word.false)
    ∙ ap (λ (b : Bool). not b && one) (c.is_type.ensures ts facts ∙ c.if-is_type.false)
    ∙ ap (is_name_of is_input env) (sym c.bare.ensures) ∙ m ts facts)

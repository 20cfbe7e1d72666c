use Rattle.std.proofs.Common.{sym, ap, ◌∙◌}
use Rattle.nim_tree.specs.Terms.{index, term_of}
use Rattle.expr_rules.specs.Demands.{begins_type, is_a_type, is_name_of}
use Rattle.expr_parts.specs.View.{env_of}
use Rattle.expr_parts.proofs.ForCallers.{if_ok}
use Rattle.expr_steps.proofs.Demanding.{begins_by}
use Rattle.expr_steps.proofs.demands.begins_type.Goals as goal

pub returns-in-Name-clause-is : goal.returns-in-Name-clause-is
returns-in-Name-clause-is c = if_ok c.names_type.result c.names_type.ensures.is (λ b h ts facts.
    let env = env_of ts facts c.args.scope.now in
    ap (λ t. begins_type env (term_of t)) c.in-Name.is ∙ sym (ap (λ t. is_name_of is_a_type env (term_of t)) c.in-Name.is) ∙ h ts facts)

pub returns-in-Index-clause-is : goal.returns-in-Index-clause-is
returns-in-Index-clause-is c = if_ok c.forms_type.result c.forms_type.ensures.is (λ b h ts facts.
    let env = env_of ts facts c.args.scope.now in
    begins_by env c.args.tree.now _ _ _ b c.in-Index.is
    (λ at given. ap (λ t. begins_type env (index at (term_of t) given)) (sym c.deref.ensures) ∙ h ts facts at given))

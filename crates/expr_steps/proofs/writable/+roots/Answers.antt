use Rattle.std.proofs.Common.{sym, ap, ◌∙◌}
use Rattle.indent_scanner.specs.Words.{normal}
use Rattle.nim_tree.specs.Terms.{term_of}
use Rattle.expr_rules.specs.Env.{known_as}
use Rattle.expr_rules.specs.Paths.{has_writable_root, is_writable}
use Rattle.expr_parts.specs.View.{env_of}
use Rattle.expr_parts.proofs.ForCallers.{if_ok}
use Rattle.expr_steps.proofs.Demanding.{rooted_by}
use Rattle.expr_steps.proofs.writable.+roots.Goals as goal

pub returns-in_ok-name-in-Name-clause-is : goal.returns-in_ok-name-in-Name-clause-is
returns-in_ok-name-in-Name-clause-is t c = λ ts facts.
    let env = env_of ts facts c.args.scope.now in
    ap (λ t. has_writable_root env (term_of t)) c.in-Name.is
    ∙ ap (λ x. is_writable (known_as env x)) (sym (c.as_slice-in-Name.ensures ∙ c.in_ok-name-in-Name.ensures ∙ ap normal c.as_slice.ensures))
    ∙ c.names_writable.ensures ts facts

pub returns-in-Paren-clause-is : goal.returns-in-Paren-clause-is
returns-in-Paren-clause-is t c = if_ok c.has_writable_root.result c.has_writable_root.ensures.is (λ b h ts facts.
    let env = env_of ts facts c.args.scope.now in
    ap (λ t. has_writable_root env (term_of t)) c.in-Paren.is ∙ ap (λ t. has_writable_root env (term_of t)) (sym c.deref.ensures) ∙ h ts facts)

pub returns-in-Field-clause-is : goal.returns-in-Field-clause-is
returns-in-Field-clause-is t c = if_ok c.has_writable_root-in-Field.result c.has_writable_root-in-Field.ensures.is (λ b h ts facts.
    let env = env_of ts facts c.args.scope.now in
    ap (λ t. has_writable_root env (term_of t)) c.in-Field.is ∙ ap (λ t. has_writable_root env (term_of t)) (sym c.deref-in-Field.ensures) ∙ h ts facts)

pub returns-in-Index-clause-is : goal.returns-in-Index-clause-is
returns-in-Index-clause-is t c = if_ok c.has_writable_root-in-Index.result c.has_writable_root-in-Index.ensures.is (λ b h ts facts.
    let env = env_of ts facts c.args.scope.now in
    rooted_by env c.args.tree.now _ _ _ c.in-Index.is ∙ ap (λ t. has_writable_root env (term_of t)) (sym c.deref-in-Index.ensures) ∙ h ts facts)

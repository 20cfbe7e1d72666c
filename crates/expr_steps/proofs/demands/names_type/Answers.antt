use Rattle.std.proofs.Common.{sym, ap, ◌∙◌}
use Rattle.indent_scanner.specs.Words.{normal}
use Rattle.nim_tree.specs.Terms.{term_of}
use Rattle.expr_rules.specs.Env.{known_as}
use Rattle.expr_rules.specs.Demands.{is_a_type, is_name_of}
use Rattle.expr_parts.specs.View.{env_of}
use Rattle.expr_steps.proofs.demands.names_type.Goals as goal

pub returns-in_ok-name-in-Name-clause-is : goal.returns-in_ok-name-in-Name-clause-is
returns-in_ok-name-in-Name-clause-is c = λ ts facts.
    let env = env_of ts facts c.args.scope.now in
    ap (λ t. is_name_of is_a_type env (term_of t)) c.in-Name.is
    ∙ ap (λ x. is_a_type (known_as env x)) (sym (c.as_slice-in-Name.ensures ∙ c.in_ok-name-in-Name.ensures ∙ ap normal c.as_slice.ensures))
    ∙ c.is_type.ensures ts facts

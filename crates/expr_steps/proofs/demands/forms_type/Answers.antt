use Rattle.std.proofs.Common.{sym, ap, ◌∙◌}
use Rattle.std.specs.Prelude.{◌||◌}
use Rattle.indent_scanner.specs.Words.{normal}
use Rattle.nim_tree.specs.Terms.{index, term_of}
use Rattle.expr_rules.specs.Env.{known_as}
use Rattle.expr_rules.specs.Demands.{begins_type, former_of, is_a_type, is_former}
use Rattle.expr_parts.specs.View.{env_of}
use Rattle.expr_steps.proofs.demands.forms_type.Goals as goal

pub returns-in_ok-name-in-Name-clause-is : goal.returns-in_ok-name-in-Name-clause-is
returns-in_ok-name-in-Name-clause-is c = λ ts facts at given.
    let env = env_of ts facts c.args.scope.now in
    ap (λ t. begins_type env (index at (term_of t) given)) c.in-Name.is
    ∙ ap (λ x. is_a_type (known_as env x) || is_former (former_of env x))
    (sym (c.as_slice-in-Name.ensures ∙ c.in_ok-name-in-Name.ensures ∙ ap normal c.as_slice.ensures))
    ∙ c.is_former.ensures ts facts

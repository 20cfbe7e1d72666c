use Rattle.std.proofs.Common.{sym, ap, ap₂, ◌∙◌}
use Rattle.std.specs.Prelude.{map}
use Rattle.nim_program.specs.View.{path_of as path_in}
use Rattle.expr_rules.specs.Calls.{argument_by}
use Rattle.expr_parts.specs.View.{paths_in, argument_of, as_var, valued_of}
use Rattle.arc_base.proofs.ForCallers.{answers_as}
use Rattle.expr_parts.proofs.arguments.argument.Goals as goal

pub returns-in_ok-path-in-Var : goal.returns-in_ok-path-in-Var
returns-in_ok-path-in-Var c = λ ts.
    let before = map (path_in ts) (paths_in c.args.before.now) in
    let v = valued_of ts c.args.value in
    answers_as (argument_of ts) (argument_by before c.args.mode v)
    (as_var c.args.value.writable before c.node.result.at (path_in ts c.in_ok-path-in-Var.path)) c.passed_as_var.result
    (ap (λ m. argument_by before m v) c.in-Var.is
    ∙ ap₂ (λ a p. as_var c.args.value.writable before a p) (sym (ap (λ n. n.at) (c.node.ensures ts))) (sym (c.in_ok-path-in-Var.ensures.path ts)))
    (c.passed_as_var.ensures ts)

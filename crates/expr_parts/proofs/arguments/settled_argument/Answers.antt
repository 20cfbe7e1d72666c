use Rattle.std.proofs.Common.{sym, subst, ◌∙◌}
use Rattle.std.specs.Prelude.{map}
use Rattle.std.proofs.lemmas.Option.{same_Some}
use Rattle.arc_base.specs.Refusal.{Answers}
use Rattle.nim_program.specs.View.{path_of as path_in}
use Rattle.expr_rules.specs.Calls.{argument_by}
use Rattle.expr_parts.specs.View.{paths_in, argument_of, valued_of}
use Rattle.expr_parts.proofs.arguments.settled_argument.Goals as goal

pub returns : goal.returns
returns c = λ ts facts u v e.
    let w = valued_of ts c.settled-value.result in
    let before = map (path_in ts) (paths_in c.args.before.now) in
    let same = same_Some w v (sym (c.settled-value.ensures.given ts facts u) ∙ e) in
    subst (λ x. Answers (argument_of ts) (argument_by before c.args.param.mode x) c.argument.result) same (c.argument.ensures ts)

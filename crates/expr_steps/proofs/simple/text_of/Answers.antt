use Rattle.std.proofs.Common.{suc, sym, subst, ap, length}
use Rattle.indent_scanner.specs.ByForm.{characters}
use Rattle.nim_types.specs.Types as type
use Rattle.nim_types.specs.Table.{IsBelow}
use Rattle.nim_program.specs.Program.{Characters}
use Rattle.nim_program.specs.Nodes.{literal}
use Rattle.nim_program.specs.View.{expr_of}
use Rattle.expr_rules.specs.Answers.{gives, node}
use Rattle.expr_parts.specs.View.{typed_of}
use Rattle.expr_parts.proofs.ForCallers.{answers_as, text_below}
use Rattle.expr_steps.proofs.simple.text_of.Goals as goal

pub returns-clause-answers : goal.returns-clause-answers
returns-clause-answers c = λ ts facts u.
    let n = c.args.number in
    answers_as (typed_of ts) (gives (literal (node n c.args.at) type.text (Characters (characters c.args.text.now))) (suc n))
    (gives (expr_of ts c.in_ok-expr.expr) (suc n)) c.single.result
    (ap (λ e. gives e (suc n)) (sym (c.in_ok-expr.ensures.expr ts facts u))) (c.single.ensures.answers ts)

pub returns-clause-within : goal.returns-clause-within
returns-clause-within c =
    let n = length c.args.types.now in
    c.single.ensures.within n (subst (IsBelow n) (sym c.in_ok-expr.ensures.number) (text_below {k = c.args.scope.now.kinds} c.requires.ready.kinds))

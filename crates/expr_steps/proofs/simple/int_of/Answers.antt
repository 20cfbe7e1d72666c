use Rattle.std.proofs.Common.{suc, sym, subst, ap, length, rules, w32, ◌∙◌}
use Rattle.std.proofs.lemmas.Int.{to_z-of_z}
use Rattle.nim_types.specs.Types as type
use Rattle.nim_types.specs.Table.{IsBelow}
use Rattle.nim_program.specs.Program.{Number}
use Rattle.nim_program.specs.Nodes.{literal}
use Rattle.nim_program.specs.View.{expr_of}
use Rattle.expr_rules.specs.Answers.{gives, node}
use Rattle.expr_parts.specs.View.{typed_of}
use Rattle.expr_parts.proofs.ForCallers.{answers_as, int_below}
use Rattle.expr_steps.proofs.simple.int_of.Goals as goal

pub returns-clause-answers : goal.returns-clause-answers
returns-clause-answers c = λ ts facts u.
    let n = c.args.number in
    answers_as (typed_of ts) (gives (literal (node n c.args.at) type.int (Number c.args.value)) (suc n))
    (gives (expr_of ts c.int_literal.result) (suc n)) c.single.result
    (ap (λ z. gives (literal (node n c.args.at) type.int (Number z)) (suc n)) (sym (to_z-of_z w32 c.args.value (record { sfits = search rules })))
    ∙ ap (λ e. gives e (suc n)) (sym (c.int_literal.ensures.expr ts facts u))) (c.single.ensures.answers ts)

pub returns-clause-within : goal.returns-clause-within
returns-clause-within c =
    let n = length c.args.types.now in
    c.single.ensures.within n (subst (IsBelow n) (sym c.int_literal.ensures.number) (int_below {k = c.args.scope.now.kinds} c.requires.ready.kinds))

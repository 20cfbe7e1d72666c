use Rattle.std.proofs.Common.{List, sym, subst, ap, ap₂, length}
use Rattle.std.specs.Prelude.{map, codes}
use Rattle.arc_base.specs.declared.place.Place.{Place}
use Rattle.nim_program.specs.View.{expr_of}
use Rattle.expr_rules.specs.Answers.{not_typed, Operand}
use Rattle.expr_rules.specs.Calls.{fitting, one_of}
use Rattle.expr_rules.specs.Env.{callable, known_as}
use Rattle.expr_rules.specs.Names.{dollar_call}
use Rattle.expr_parts.specs.View.{env_of, operand_of, valued_of, OperandsWithin}
use Rattle.expr_parts.proofs.ForCallers.{answers_as}
use Rattle.expr_calls.proofs.dollars.dollar_call.Goals as goal

pub one_fitting-requires-clause-operands : goal.one_fitting-requires-clause-operands
one_fitting-requires-clause-operands c =
    subst (OperandsWithin (length c.args.types.now)) (sym c.in_ok-operands.ensures.only) (c.requires.value, tt)

pub returns-clause-answers : goal.returns-clause-answers
returns-clause-answers c = λ ts facts u.
    let env = env_of ts facts c.args.scope.now in
    let ps = callable (known_as env (codes "$")) in
    let at = c.node.result.at in
    let said = λ (p : Place) (os : List Operand). one_of c.args.number p (codes "$") (fitting ps os) (not_typed p) in
    answers_as (expr_of ts) (dollar_call env c.args.number (valued_of ts c.args.value)) (said at (map (operand_of ts) c.in_ok-operands.operands.items))
    c.one_fitting.result
    (ap₂ said (sym (ap (λ n. n.at) (c.node.ensures ts))) (ap (map (operand_of ts)) (sym c.in_ok-operands.ensures.only)))
    (c.one_fitting.ensures.answers ts facts u)

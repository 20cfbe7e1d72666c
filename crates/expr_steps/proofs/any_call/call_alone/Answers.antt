use Rattle.std.proofs.Common.{sym, subst, length}
use Rattle.std.specs.Prelude.{map}
use Rattle.arc_base.specs.Refusal.{Answers}
use Rattle.nim_program.specs.View.{expr_of}
use Rattle.expr_rules.specs.Names.{call_rule}
use Rattle.expr_parts.specs.View.{operand_of, env_of, OperandsWithin}
use Rattle.expr_steps.proofs.any_call.call_alone.Goals as goal

pub call_rule-requires-clause-operands : goal.call_rule-requires-clause-operands
call_rule-requires-clause-operands c =
    subst (OperandsWithin (length c.args.types.now)) (sym c.in_ok-operands.ensures.only) (c.requires.operand, tt)

pub returns-clause-answers : goal.returns-clause-answers
returns-clause-answers c = λ ts facts u.
    let env = env_of ts facts c.args.scope.now in
    subst (λ os. Answers (expr_of ts) (call_rule env c.args.number c.args.at c.args.name.now (map (operand_of ts) os)) c.call_rule.result)
    c.in_ok-operands.ensures.only (c.call_rule.ensures.answers ts facts u)

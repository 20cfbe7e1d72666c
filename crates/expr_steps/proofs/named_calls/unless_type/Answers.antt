use Rattle.std.proofs.Common.{sym, subst, ap, length}
use Rattle.std.specs.Prelude.{map}
use Rattle.nim_program.specs.View.{expr_of}
use Rattle.nim_types.specs.Table.{type_at, IsBelow}
use Rattle.expr_rules.specs.Answers.{node}
use Rattle.expr_rules.specs.Builtins.{operation_rule}
use Rattle.expr_rules.specs.Constructions.{conversion_rule}
use Rattle.expr_rules.specs.Env.{known_as}
use Rattle.expr_rules.specs.Names.{unless_type}
use Rattle.expr_parts.specs.View.{env_of, operand_of}
use Rattle.expr_steps.specs.ViewCalls.{IsKnownType}
use Rattle.expr_parts.proofs.ForCallers.{answers_as}
use Rattle.expr_parts.proofs.ForCallers.{if_ok}
use Rattle.expr_parts.proofs.ForCallers.{no_type}
use Rattle.expr_steps.proofs.named_calls.unless_type.Goals as goal

pub conversion-requires-clause-ty : goal.conversion-requires-clause-ty
conversion-requires-clause-ty c =
    let n = length c.args.types.now in
    subst (IsBelow n) c.in-Some.is (c.type_known.ensures.within n c.requires.ready.decls)

pub returns-in-Some-clause-answers : goal.returns-in-Some-clause-answers
returns-in-Some-clause-answers c = λ ts facts u.
    let env = env_of ts facts c.args.scope.now in
    let os = map (operand_of ts) c.args.operands.items in
    let x = c.args.name.now in
    let known = subst (IsKnownType ts (known_as env x)) c.in-Some.is (c.type_known.ensures.known ts facts) in
    answers_as (expr_of ts) (unless_type env c.args.number c.args.at (known_as env x) x os)
    (conversion_rule env c.args.number c.args.at (type_at ts c.in-Some.ty) os) c.conversion.result
    (ap (λ k. unless_type env c.args.number c.args.at k x os) known) (c.conversion.ensures.answers ts env u)

pub returns-in-None-clause-answers : goal.returns-in-None-clause-answers
returns-in-None-clause-answers c = λ ts facts u.
    let env = env_of ts facts c.args.scope.now in
    let os = map (operand_of ts) c.args.operands.items in
    let x = c.args.name.now in
    let known = subst (IsKnownType ts (known_as env x)) c.in-None.is (c.type_known.ensures.known ts facts) in
    answers_as (expr_of ts) (unless_type env c.args.number c.args.at (known_as env x) x os)
    (operation_rule (node c.args.number c.args.at) x os) c.operation_rule.result
    (no_type env c.args.number c.args.at (known_as env x) x os known) (c.operation_rule.ensures.answers ts facts u)

pub returns-in-Some-clause-within : goal.returns-in-Some-clause-within
returns-in-Some-clause-within c =
    let n = length c.args.types.now in
    if_ok c.conversion.result c.conversion.ensures.number
    (λ e h. subst (IsBelow n) (sym h) (subst (IsBelow n) c.in-Some.is (c.type_known.ensures.within n c.requires.ready.decls)))

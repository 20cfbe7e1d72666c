use Rattle.std.proofs.Common.{subst, ap, ◌∙◌}
use Rattle.std.specs.Prelude.{map, Bool, if◌then◌else◌}
use Rattle.arc_base.specs.declared.place.Code.TheVariants.{Ambiguous}
use Rattle.nim_program.specs.View.{expr_of}
use Rattle.expr_rules.specs.Answers.{node}
use Rattle.expr_rules.specs.Builtins.{operation_rule}
use Rattle.expr_rules.specs.Calls.{fitting, one_of}
use Rattle.expr_rules.specs.Env.{callable, known_as}
use Rattle.expr_rules.specs.Names.{call_named, unless_type}
use Rattle.expr_parts.specs.View.{operand_of, env_of, Chooses, ChosenFits}
use Rattle.expr_parts.proofs.ForCallers.{answers_as, refuses}
use Rattle.expr_steps.proofs.named_calls.call_named.Goals as goal

pub returns-then-is_default-clause-answers : goal.returns-then-is_default-clause-answers
returns-then-is_default-clause-answers c = λ ts facts u.
    let env = env_of ts facts c.args.scope.now in
    let x = c.args.name.now in
    let n = c.args.number in
    let at = c.args.at in
    let os = map (operand_of ts) c.args.operands.items in
    let all = fitting (callable (known_as env x)) os in
    answers_as (expr_of ts) (call_named env n at x os) (operation_rule (node n at) x os) c.operation_rule.result
    (ap (λ (b : Bool). if b then operation_rule (node n at) x os else one_of n at x all (unless_type env n at (known_as env x) x os))
    (c.is_default.ensures ∙ c.if-is_default.true))
    (c.operation_rule.ensures.answers ts facts u)

pub returns-in-Nothing-clause-answers : goal.returns-in-Nothing-clause-answers
returns-in-Nothing-clause-answers c = λ ts facts u.
    let env = env_of ts facts c.args.scope.now in
    let x = c.args.name.now in
    let n = c.args.number in
    let at = c.args.at in
    let ds = c.args.scope.now.decls in
    let ps = callable (known_as env x) in
    let os = map (operand_of ts) c.args.operands.items in
    let h = subst (λ os. Chooses ts ds (map (operand_of ts) os) c.chosen.result (fitting ps (map (operand_of ts) os))) c.as_slice.ensures.value
    (c.chosen.ensures.means ts facts u) in
    let none = subst (λ k. Chooses ts ds os k (fitting ps os)) c.in-Nothing.is h in
    let otherwise = unless_type env n at (known_as env x) x os in
    answers_as (expr_of ts) (call_named env n at x os) otherwise c.unless_type.result
    (ap (λ (b : Bool). if b then operation_rule (node n at) x os else one_of n at x (fitting ps os) otherwise)
    (c.is_default.ensures ∙ c.if-is_default.false)
    ∙ ap (λ all. one_of n at x all otherwise) none)
    (c.unless_type.ensures.answers ts facts u)

pub call_at-requires-clause-fits : goal.call_at-requires-clause-fits
call_at-requires-clause-fits c =
    let ds = c.args.types.now in
    let decls = c.args.scope.now.decls in
    subst (ChosenFits ds decls c.args.operands.items) c.in-One.is
    (subst (λ os. ChosenFits ds decls os c.chosen.result) c.as_slice.ensures.value c.chosen.ensures.fits)

pub returns-in-One-clause-answers : goal.returns-in-One-clause-answers
returns-in-One-clause-answers c = λ ts facts u.
    let env = env_of ts facts c.args.scope.now in
    let x = c.args.name.now in
    let n = c.args.number in
    let at = c.args.at in
    let ds = c.args.scope.now.decls in
    let ps = callable (known_as env x) in
    let os = map (operand_of ts) c.args.operands.items in
    let h = subst (λ os. Chooses ts ds (map (operand_of ts) os) c.chosen.result (fitting ps (map (operand_of ts) os))) c.as_slice.ensures.value
    (c.chosen.ensures.means ts facts u) in
    let otherwise = unless_type env n at (known_as env x) x os in
    answers_as (expr_of ts) (call_named env n at x os) (one_of n at x (fitting ps os) otherwise) c.call_at.result
    (ap (λ (b : Bool). if b then operation_rule (node n at) x os else one_of n at x (fitting ps os) otherwise)
    (c.is_default.ensures ∙ c.if-is_default.false))
    (c.call_at.ensures.answers ts facts u (fitting ps os) otherwise (subst (λ k. Chooses ts ds os k (fitting ps os)) c.in-One.is h))

pub returns-in-Several-clause-answers : goal.returns-in-Several-clause-answers
returns-in-Several-clause-answers c = λ ts facts u.
    let env = env_of ts facts c.args.scope.now in
    let x = c.args.name.now in
    let n = c.args.number in
    let at = c.args.at in
    let ds = c.args.scope.now.decls in
    let ps = callable (known_as env x) in
    let os = map (operand_of ts) c.args.operands.items in
    let h = subst (λ os. Chooses ts ds (map (operand_of ts) os) c.chosen.result (fitting ps (map (operand_of ts) os))) c.as_slice.ensures.value
    (c.chosen.ensures.means ts facts u) in
    let many = subst (λ k. Chooses ts ds os k (fitting ps os)) c.in-Several.is h in
    let otherwise = unless_type env n at (known_as env x) x os in
    refuses (expr_of ts) (call_named env n at x os) Ambiguous at c.refusal.result c.refusal.ensures
    (ap (λ (b : Bool). if b then operation_rule (node n at) x os else one_of n at x (fitting ps os) otherwise)
    (c.is_default.ensures ∙ c.if-is_default.false)
    ∙ ap (λ all. one_of n at x all otherwise) many.3)

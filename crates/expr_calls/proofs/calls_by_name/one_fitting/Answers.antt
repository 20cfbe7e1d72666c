use Rattle.std.proofs.Common.{subst, ap}
use Rattle.std.specs.Prelude.{map}
use Rattle.arc_base.specs.declared.place.Code.TheVariants.{NotTyped, Ambiguous}
use Rattle.nim_program.specs.View.{expr_of}
use Rattle.expr_rules.specs.Answers.{not_typed}
use Rattle.expr_rules.specs.Calls.{fitting, one_of}
use Rattle.expr_rules.specs.Env.{callable, known_as}
use Rattle.expr_parts.specs.View.{operand_of, env_of, Chooses, ChosenFits}
use Rattle.expr_parts.proofs.ForCallers.{refuses}
use Rattle.expr_calls.proofs.calls_by_name.one_fitting.Goals as goal

pub returns-in-Nothing-clause-answers : goal.returns-in-Nothing-clause-answers
returns-in-Nothing-clause-answers c = λ ts facts u.
    let x = c.args.name.now in
    let ds = c.args.scope.now.decls in
    let ps = callable (known_as (env_of ts facts c.args.scope.now) x) in
    let h = subst (λ os. Chooses ts ds (map (operand_of ts) os) c.chosen.result (fitting ps (map (operand_of ts) os))) c.as_slice.ensures.value
    (c.chosen.ensures.means ts facts u) in
    let os = map (operand_of ts) c.args.operands.items in
    let none = subst (λ k. Chooses ts ds os k (fitting ps os)) c.in-Nothing.is h in
    refuses (expr_of ts) (one_of c.args.number c.args.at x (fitting ps os) (not_typed c.args.at)) NotTyped c.args.at c.refusal.result c.refusal.ensures
    (ap (λ all. one_of c.args.number c.args.at x all (not_typed c.args.at)) none)

pub call_at-requires-clause-fits : goal.call_at-requires-clause-fits
call_at-requires-clause-fits c =
    let ds = c.args.types.now in
    let decls = c.args.scope.now.decls in
    subst (ChosenFits ds decls c.args.operands.items) c.in-One.is
    (subst (λ os. ChosenFits ds decls os c.chosen.result) c.as_slice.ensures.value c.chosen.ensures.fits)

pub returns-in-One-clause-answers : goal.returns-in-One-clause-answers
returns-in-One-clause-answers c = λ ts facts u.
    let x = c.args.name.now in
    let ds = c.args.scope.now.decls in
    let ps = callable (known_as (env_of ts facts c.args.scope.now) x) in
    let h = subst (λ os. Chooses ts ds (map (operand_of ts) os) c.chosen.result (fitting ps (map (operand_of ts) os))) c.as_slice.ensures.value
    (c.chosen.ensures.means ts facts u) in
    let os = map (operand_of ts) c.args.operands.items in
    c.call_at.ensures.answers ts facts u (fitting ps os) (not_typed c.args.at) (subst (λ k. Chooses ts ds os k (fitting ps os)) c.in-One.is h)

pub returns-in-Several-clause-answers : goal.returns-in-Several-clause-answers
returns-in-Several-clause-answers c = λ ts facts u.
    let x = c.args.name.now in
    let ds = c.args.scope.now.decls in
    let ps = callable (known_as (env_of ts facts c.args.scope.now) x) in
    let h = subst (λ os. Chooses ts ds (map (operand_of ts) os) c.chosen.result (fitting ps (map (operand_of ts) os))) c.as_slice.ensures.value
    (c.chosen.ensures.means ts facts u) in
    let os = map (operand_of ts) c.args.operands.items in
    let many = subst (λ k. Chooses ts ds os k (fitting ps os)) c.in-Several.is h in
    refuses (expr_of ts) (one_of c.args.number c.args.at x (fitting ps os) (not_typed c.args.at)) Ambiguous c.args.at c.refusal-in-Several.result
    c.refusal-in-Several.ensures
    (ap (λ all. one_of c.args.number c.args.at x all (not_typed c.args.at)) many.3)

use Rattle.std.proofs.Common.{subst, sym, ap, ◌∙◌, length}
use Rattle.nim_types.specs.Table.{IsBelow}
use Rattle.std.specs.Prelude.{Ok}
use Rattle.nim_program.specs.View.{expr_of}
use Rattle.expr_rules.specs.Choices.{branch_value}
use Rattle.expr_parts.specs.View.{number_of}
use Rattle.expr_parts.proofs.ForCallers.{goes, if_ok, makes, stops}
use Rattle.expr_steps.specs.ViewChoices.{condition_onto, conditions_of}
use Rattle.expr_steps.proofs.Branched.{branching_within}
use Rattle.expr_steps.proofs.choices.with_condition.Goals as goal

pub branch_value-requires : goal.branch_value-requires
branch_value-requires c =
    let n = length c.args.types.now in record {
      branching = branching_within n c.args.before.values c.requires.before;
      expr = subst (IsBelow n) c.requires.typed.0 c.requires.typed.1;
    }

pub returns-in-Ok-clause-answers : goal.returns-in-Ok-clause-answers
returns-in-Ok-clause-answers c = λ ts facts u.
    let b = conditions_of ts c.args.before in
    let test = expr_of ts c.args.test.value.expr in
    let next = c.args.typed.next in
    goes (conditions_of ts) (expr_of ts) (branch_value b.values (expr_of ts c.args.typed.expr)) (λ e. Ok (condition_onto b test e next)) c.in-Ok.value
    c.one_condition.result (c.in-Ok.ensures.answers ts facts u)
    (makes (conditions_of ts) (condition_onto b test (expr_of ts c.in-Ok.value) next) c.one_condition.result
    (if_ok c.one_condition.result c.one_condition.ensures.made (λ d h. h ts)) c.one_condition.ensures.memory)

pub returns-in-Err-clause-answers : goal.returns-in-Err-clause-answers
returns-in-Err-clause-answers c = λ ts facts u.
    let b = conditions_of ts c.args.before in
    let test = expr_of ts c.args.test.value.expr in
    stops (conditions_of ts) (expr_of ts) (branch_value b.values (expr_of ts c.args.typed.expr)) (λ e. Ok (condition_onto b test e c.args.typed.next))
    c.in-Err.stop (c.in-Err.ensures.answers ts facts u)

pub returns-in-Ok-clause-within : goal.returns-in-Ok-clause-within
returns-in-Ok-clause-within c =
    let n = length c.args.types.now in
    if_ok c.one_condition.result c.one_condition.ensures.within (λ d h. h n c.requires.before
    (subst (IsBelow n) (c.requires.typed.0 ∙ sym (ap number_of c.in-Ok.ensures.same)) c.requires.typed.1))

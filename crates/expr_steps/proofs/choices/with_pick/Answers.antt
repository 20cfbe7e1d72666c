use Rattle.std.proofs.Common.{subst, sym, ap, ◌∙◌, length}
use Rattle.nim_types.specs.Table.{IsBelow}
use Rattle.std.specs.Prelude.{Ok}
use Rattle.nim_program.specs.View.{expr_of}
use Rattle.expr_rules.specs.Choices.{branch_value}
use Rattle.expr_parts.specs.View.{branching_of, number_of}
use Rattle.expr_parts.proofs.ForCallers.{goes, if_ok, makes, stops}
use Rattle.expr_steps.specs.ViewChoices.{pick_onto, picked_of, rows_of, tests_of}
use Rattle.expr_steps.proofs.Branched.{branching_within}
use Rattle.expr_steps.proofs.choices.with_pick.Goals as goal

pub branch_value-requires : goal.branch_value-requires
branch_value-requires c =
    let n = length c.args.types.now in record {
      branching = branching_within n c.args.values c.requires.values;
      expr = subst (IsBelow n) c.requires.typed.0 c.requires.typed.1;
    }

pub returns-in-Ok-clause-answers : goal.returns-in-Ok-clause-answers
returns-in-Ok-clause-answers c = λ ts facts u.
    let b = branching_of ts c.args.values in
    let all = rows_of ts c.args.picks.items in
    let tests = tests_of c.args.tests in
    let next = c.args.typed.next in
    goes (picked_of ts) (expr_of ts) (branch_value b (expr_of ts c.args.typed.expr)) (λ e. Ok (pick_onto all b tests e next)) c.in-Ok.value c.one_pick.result
    (c.in-Ok.ensures.answers ts facts u)
    (makes (picked_of ts) (pick_onto all b tests (expr_of ts c.in-Ok.value) next) c.one_pick.result
    (if_ok c.one_pick.result c.one_pick.ensures.made (λ d h. h ts)) c.one_pick.ensures.memory)

pub returns-in-Err-clause-answers : goal.returns-in-Err-clause-answers
returns-in-Err-clause-answers c = λ ts facts u.
    let b = branching_of ts c.args.values in
    stops (picked_of ts) (expr_of ts) (branch_value b (expr_of ts c.args.typed.expr))
    (λ e. Ok (pick_onto (rows_of ts c.args.picks.items) b (tests_of c.args.tests) e c.args.typed.next)) c.in-Err.stop (c.in-Err.ensures.answers ts facts u)

pub returns-in-Ok-clause-within : goal.returns-in-Ok-clause-within
returns-in-Ok-clause-within c =
    let n = length c.args.types.now in
    if_ok c.one_pick.result c.one_pick.ensures.within (λ d h. h n c.requires.values
    (subst (IsBelow n) (c.requires.typed.0 ∙ sym (ap number_of c.in-Ok.ensures.same)) c.requires.typed.1))

use Rattle.std.proofs.Common.{Vec, Global, [], sym, ap, ◌∙◌}
use Rattle.std.specs.Prelude.{map, Ok, Err}
use Rattle.arc_base.specs.Refusal.{and_then}
use Rattle.nim_program.specs.declared.expr.Operand.{Operand as Argument}
use Rattle.nim_program.specs.Nodes.{echo}
use Rattle.nim_program.specs.View.{expr_of, operands_of}
use Rattle.expr_rules.specs.Answers.{node}
use Rattle.expr_rules.specs.Names.{all_shown, echo_rule}
use Rattle.expr_parts.specs.View.{operand_of, env_of, no_fit_at}
use Rattle.expr_calls.specs.ViewCalls.{shown_by}
use Rattle.expr_parts.proofs.ForCallers.{answers_as, goes, stops}
use Rattle.expr_calls.proofs.Echoing.{echo_so}
use Rattle.expr_calls.proofs.dollars.echo_rule.Goals as goal

pub returns-in-Ok-clause-answers : goal.returns-in-Ok-clause-answers
returns-in-Ok-clause-answers c = λ ts facts u.
    let env = env_of ts facts c.args.scope.now in
    let n = node c.args.number c.args.at in
    let os = c.args.operands.items in
    let said = shown_by c.place_of_no_fit-place.result (all_shown env (map (operand_of ts) os)) in
    answers_as (expr_of ts) (echo_rule env c.args.number c.args.at (map (operand_of ts) os)) (and_then said (λ xs. Ok (echo n xs))) (Ok c.applied.result)
    (echo_so ts env c.args.number c.args.at c.place_of_no_fit-place.result os
    (ap (no_fit_at c.args.at) (sym c.as_slice.ensures.value) ∙ c.place_of_no_fit-place.ensures))
    (goes (expr_of ts) (λ (xs : Vec Argument Global). operands_of ts xs.items) said (λ xs. Ok (echo n xs)) c.in-Ok.shown (Ok c.applied.result)
    (c.in-Ok.ensures ts facts u) (ap Ok (sym (c.applied.ensures.expr ts))))

pub returns-in-Err-clause-answers : goal.returns-in-Err-clause-answers
returns-in-Err-clause-answers c = λ ts facts u.
    let env = env_of ts facts c.args.scope.now in
    let n = node c.args.number c.args.at in
    let os = c.args.operands.items in
    let said = shown_by c.place_of_no_fit-place.result (all_shown env (map (operand_of ts) os)) in
    answers_as (expr_of ts) (echo_rule env c.args.number c.args.at (map (operand_of ts) os)) (and_then said (λ xs. Ok (echo n xs))) (Err c.in-Err.stop)
    (echo_so ts env c.args.number c.args.at c.place_of_no_fit-place.result os
    (ap (no_fit_at c.args.at) (sym c.as_slice.ensures.value) ∙ c.place_of_no_fit-place.ensures))
    (stops (expr_of ts) (λ (xs : Vec Argument Global). operands_of ts xs.items) said (λ xs. Ok (echo n xs)) c.in-Err.stop (c.in-Err.ensures ts facts u))

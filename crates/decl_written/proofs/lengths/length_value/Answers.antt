use Rattle.std.proofs.Common.{ap}
use Rattle.std.specs.Prelude.{ℤ}
use Rattle.arc_base.specs.Refusal.{and_then}
use Rattle.nim_tree.specs.Terms.{term_of}
use Rattle.expr_rules.specs.Answers.{nothing}
use Rattle.expr_rules.specs.Names.{length_rule}
use Rattle.expr_parts.specs.View.{env_of, valued_of}
use Rattle.expr_parts.proofs.ForCallers.{answers_as, stops}
use Rattle.expr_constants.proofs.ForCallers.{answered_fixed, fixed_by}
use Rattle.decl_rules.specs.Values.{Value, valued_term, length_value}
use Rattle.decl_written.specs.ViewWritten.{numbered_of}
use Rattle.decl_written.proofs.lengths.length_value.Goals as goal

pub length_rule-requires-clause-fixed : goal.length_rule-requires-clause-fixed
length_rule-requires-clause-fixed c =
    let new = c.valued_term.new.types in
    fixed_by new (λ (v : Value). v.given.expr) (λ ts. numbered_of ts c.in-Ok.given)
    (answered_fixed c.args.types.now new c.args.scope.now numbered_of (λ env. valued_term env nothing 0 (term_of c.args.tree.now)) c.in-Ok.given
    c.requires.ready.decls c.in-Ok.ensures.grown.under c.in-Ok.ensures.answers)

pub returns-in-Ok-clause-answers : goal.returns-in-Ok-clause-answers
returns-in-Ok-clause-answers c = λ ts facts u.
    let env = env_of ts facts c.args.scope.now in
    let tree = term_of c.args.tree.now in
    answers_as (λ (z : ℤ). z) (length_value env tree) (length_rule facts (valued_of ts c.in-Ok.given.value)) c.length_rule.result
    (ap (λ said. and_then said (λ v. length_rule facts v.given)) (c.in-Ok.ensures.answers ts facts u))
    (c.length_rule.ensures ts facts u)

pub returns-in-Err-clause-answers : goal.returns-in-Err-clause-answers
returns-in-Err-clause-answers c = λ ts facts u.
    let env = env_of ts facts c.args.scope.now in
    stops (λ (z : ℤ). z) (numbered_of ts) (valued_term env nothing 0 (term_of c.args.tree.now)) (λ (v : Value). length_rule facts v.given) c.in-Err.stop
    (c.in-Err.ensures.answers ts facts u)

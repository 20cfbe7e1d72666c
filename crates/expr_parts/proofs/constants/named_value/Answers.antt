use Rattle.std.proofs.Common.{◌≡◌, suc, sym, subst, ap, ◌∙◌}
use Rattle.std.specs.Prelude.{Err}
use Rattle.std.specs.Option.{option_copied}
use Rattle.indent_scanner.specs.Words.{normal}
use Rattle.nim_program.specs.declared.expr.Expr.{Expr}
use Rattle.nim_program.specs.View.{expr_of}
use Rattle.expr_rules.specs.Answers.{typed_as}
use Rattle.expr_rules.specs.Builtins.{is_built_in}
use Rattle.expr_rules.specs.Env.{known_as, known_next, unknown}
use Rattle.expr_rules.specs.Names.{name_rule}
use Rattle.expr_parts.specs.View.{env_of, entry_of, Stands, FoundWithin}
use Rattle.arc_base.proofs.ForCallers.{answers_as}
use Rattle.expr_parts.proofs.Naming.{no_value_is}
use Rattle.expr_parts.proofs.constants.named_value.Goals as goal

pub returns-in-Some-clause-answers : goal.returns-in-Some-clause-answers
returns-in-Some-clause-answers c = λ ts facts.
    let of = λ (e : Expr). typed_as (expr_of ts e) (suc c.args.number) in
    let env = env_of ts facts c.args.scope.now in
    let at = c.args.at in
    let x = normal c.args.text.now in
    let name : x ≡ c.as_slice.result.now = sym (c.as_slice.ensures ∙ c.in_ok-name.ensures) in
    let s = subst (λ o. Stands ts (option_copied o) (known_as env c.as_slice.result.now)) c.in-Some.is (c.find.ensures.stands ts facts) in
    answers_as of (name_rule c.args.number at (is_built_in x) (known_as env x))
    (name_rule c.args.number at (is_built_in x) (known_next s.0 (entry_of ts c.in-Some.decl.now)))
    c.value_by.result
    (ap (name_rule c.args.number at (is_built_in x)) (ap (known_as env) name ∙ s.1))
    (c.value_by.ensures.answers ts (is_built_in x) s.0 c.in-Some.decl.now.name)

pub returns-clause-answers : goal.returns-clause-answers
returns-clause-answers c = λ ts facts.
    let of = λ (e : Expr). typed_as (expr_of ts e) (suc c.args.number) in
    let env = env_of ts facts c.args.scope.now in
    let at = c.args.at in
    let x = normal c.args.text.now in
    let name : x ≡ c.as_slice.result.now = sym (c.as_slice.ensures ∙ c.in_ok-name.ensures) in
    let again : x ≡ c.as_slice-in-None.result.now = sym (c.as_slice-in-None.ensures ∙ c.in_ok-name.ensures) in
    let s : known_as env c.as_slice.result.now ≡ unknown =
    subst (λ o. Stands ts (option_copied o) (known_as env c.as_slice.result.now)) c.in-None.is (c.find.ensures.stands ts facts) in
    answers_as of (name_rule c.args.number at (is_built_in x) (known_as env x)) (name_rule c.args.number at c.is_built_in.result unknown)
    (Err c.undeclared.result)
    (ap (λ k. name_rule c.args.number at (is_built_in x) k) (ap (known_as env) name ∙ s)
    ∙ ap (λ b. name_rule c.args.number at b unknown) (ap is_built_in again ∙ c.is_built_in.ensures))
    (no_value_is of c.args.number at c.is_built_in.result c.undeclared.result c.undeclared.ensures.built_in c.undeclared.ensures.unknown)

pub returns-in-Some-clause-within : goal.returns-in-Some-clause-within
returns-in-Some-clause-within c = λ n h.
    c.value_by.ensures.within n (subst (λ o. FoundWithin n (option_copied o)) c.in-Some.is (c.find.ensures.within n h))

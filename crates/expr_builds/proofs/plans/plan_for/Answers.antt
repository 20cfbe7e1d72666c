use Rattle.std.proofs.Common.{◌≡◌, sym, subst, ap, ◌∙◌}
use Rattle.std.specs.Prelude.{Err}
use Rattle.std.specs.Option.{option_copied}
use Rattle.nim_tree.specs.Terms.{parts_of}
use Rattle.indent_scanner.specs.Words.{normal}
use Rattle.expr_rules.specs.Builtins.{is_built_in}
use Rattle.expr_rules.specs.Env.{known_as, known_next, unknown}
use Rattle.expr_rules.specs.Constructions.{part_names, plan_as}
use Rattle.expr_parts.specs.View.{env_of, entry_of, Stands, FoundWithin}
use Rattle.expr_builds.specs.ViewBuilt.{plan_of}
use Rattle.expr_parts.proofs.ForCallers.{answers_as}
use Rattle.expr_builds.proofs.Planning.{no_plan}
use Rattle.std.proofs.Common.{length}
use Rattle.expr_builds.proofs.plans.plan_for.Goals as goal

pub plan_by-requires : goal.plan_by-requires
plan_by-requires c =
    let n = length c.args.types.now in
    subst (λ o. FoundWithin n (option_copied o)) c.in-Some.is (c.find.ensures.within n c.requires)

pub returns-in-Some-clause-answers : goal.returns-in-Some-clause-answers
returns-in-Some-clause-answers c = λ ts facts u.
    let env = env_of ts facts c.args.scope.now in
    let at = c.args.at in
    let x = normal c.args.text.now in
    let names = part_names (parts_of c.args.parts.now) in
    let name : x ≡ c.as_slice.result.now = sym (c.as_slice.ensures ∙ c.in_ok-name.ensures) in
    let s = subst (λ o. Stands ts (option_copied o) (known_as env c.as_slice.result.now)) c.in-Some.is (c.find.ensures.stands ts facts) in
    answers_as (plan_of ts) (plan_as env at (is_built_in x) (known_as env x) names)
    (plan_as env at (is_built_in x) (known_next s.0 (entry_of ts c.in-Some.decl.now)) names) c.plan_by.result
    (ap (λ k. plan_as env at (is_built_in x) k names) (ap (known_as env) name ∙ s.1))
    (c.plan_by.ensures.answers ts facts u (is_built_in x) s.0 c.in-Some.decl.now.name)

pub returns-clause-answers : goal.returns-clause-answers
returns-clause-answers c = λ ts facts u.
    let env = env_of ts facts c.args.scope.now in
    let at = c.args.at in
    let x = normal c.args.text.now in
    let names = part_names (parts_of c.args.parts.now) in
    let name : x ≡ c.as_slice.result.now = sym (c.as_slice.ensures ∙ c.in_ok-name.ensures) in
    let again : x ≡ c.as_slice-in-None.result.now = sym (c.as_slice-in-None.ensures ∙ c.in_ok-name.ensures) in
    let s : known_as env c.as_slice.result.now ≡ unknown =
    subst (λ o. Stands ts (option_copied o) (known_as env c.as_slice.result.now)) c.in-None.is (c.find.ensures.stands ts facts) in
    answers_as (plan_of ts) (plan_as env at (is_built_in x) (known_as env x) names) (plan_as env at c.is_built_in.result unknown names)
    (Err c.undeclared.result)
    (ap (λ k. plan_as env at (is_built_in x) k names) (ap (known_as env) name ∙ s)
    ∙ ap (λ b. plan_as env at b unknown names) (ap is_built_in again ∙ c.is_built_in.ensures))
    (no_plan (plan_of ts) env at c.is_built_in.result names c.undeclared.result c.undeclared.ensures.built_in c.undeclared.ensures.unknown)

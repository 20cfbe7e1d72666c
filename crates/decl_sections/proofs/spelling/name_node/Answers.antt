use Rattle.std.proofs.Common.{◌≡◌, length, sym, subst, ◌∙◌, Some, None}
use Rattle.expr_rules.specs.Names.{named_type}
use Rattle.expr_parts.specs.View.{env_of}
use Rattle.expr_parts.specs.ViewDecls.{last_of}
use Rattle.expr_parts.proofs.ForCallers.{answers_as}
use Rattle.decl_types.specs.ViewNodes.{node_type, names_env_of, number_in}
use Rattle.decl_sections.proofs.Seeing.{section_type, outer_type}
use Rattle.decl_sections.proofs.spelling.name_node.Goals as goal

pub returns-in-Some-clause-answers : goal.returns-in-Some-clause-answers
returns-in-Some-clause-answers c = λ ts before keys done.
    let names = c.args.names.now in
    let scope = c.args.scope.now in
    section_type ts before keys names scope c.args.at c.args.text.now c.in-Some.number
    (subst (λ x. number_in names (last_of scope.decls x (length scope.decls)) ≡ Some c.in-Some.number) c.requires
    (sym c.number_of.ensures ∙ c.in-Some.is))

pub returns-in-None-clause-answers : goal.returns-in-None-clause-answers
returns-in-None-clause-answers c = λ ts before keys done.
    let names = c.args.names.now in
    let scope = c.args.scope.now in
    let at = c.args.at in
    let x = c.args.text.now in
    answers_as (node_type ts keys done) (named_type (names_env_of ts before keys names scope) at x) (named_type (env_of ts before scope) at x)
    c.outer_node.result
    (outer_type ts before before keys names scope at x
    (subst (λ y. number_in names (last_of scope.decls y (length scope.decls)) ≡ None) c.requires (sym c.number_of.ensures ∙ c.in-None.is)))
    (c.outer_node.ensures.answers ts before keys done)

pub returns-in-Some-clause-sound : goal.returns-in-Some-clause-sound
returns-in-Some-clause-sound c = λ n m o.
    let scope = c.args.scope.now in
    o.numbers (last_of scope.decls c.args.name.now (length scope.decls)) c.in-Some.number (sym c.number_of.ensures ∙ c.in-Some.is)

pub returns-in-None-clause-sound : goal.returns-in-None-clause-sound
returns-in-None-clause-sound c = λ n m o.
    let names = c.args.names.now in
    let scope = c.args.scope.now in
    c.outer_node.ensures.sound n m names o
    (subst (λ y. number_in names (last_of scope.decls y (length scope.decls)) ≡ None) c.requires (sym c.number_of.ensures ∙ c.in-None.is))

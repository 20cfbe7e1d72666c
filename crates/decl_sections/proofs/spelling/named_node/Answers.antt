use Rattle.std.proofs.Common.{length, refl, sym, ap, ◌∙◌}
use Rattle.std.specs.Prelude.{map}
use Rattle.indent_scanner.specs.Words.{normal}
use Rattle.nim_types.specs.Table.{type_at}
use Rattle.expr_rules.specs.Demands.{former_of}
use Rattle.expr_rules.specs.Names.{named_type, formed_by, formed_type}
use Rattle.expr_parts.specs.View.{env_of, former_in}
use Rattle.expr_parts.proofs.ForCallers.{answers_as}
use Rattle.decl_written.proofs.ForCallers.{empty_is, some_is}
use Rattle.decl_types.specs.ViewNodes.{node_type, names_env_of}
use Rattle.decl_sections.specs.ViewSpelled.{named_with}
use Rattle.decl_sections.proofs.Seeing.{former_alike}
use Rattle.decl_sections.proofs.spelling.named_node.Goals as goal

pub returns-then-is_empty-clause-answers : goal.returns-then-is_empty-clause-answers
returns-then-is_empty-clause-answers c = λ ts before keys done.
    let env = names_env_of ts before keys c.args.names.now c.args.scope.now in
    let at = c.args.at in
    let x = c.args.text.now in
    let none = empty_is c.args.given.now (length c.args.given.now) refl (sym c.is_empty.ensures ∙ c.if-is_empty.true) in
    answers_as (node_type ts keys done) (named_with env at x (map (type_at done) c.args.given.now)) (named_type env at x) c.name_node.result
    (ap (λ is. named_with env at x (map (type_at done) is)) none) (c.name_node.ensures.answers ts before keys done)

pub returns-clause-answers : goal.returns-clause-answers
returns-clause-answers c = λ ts before keys done.
    let env = names_env_of ts before keys c.args.names.now c.args.scope.now in
    let at = c.args.at in
    let x = c.args.text.now in
    let some = some_is c.args.given.now (length c.args.given.now) refl (sym c.is_empty.ensures ∙ c.if-is_empty.false) in
    let given = map (type_at done) c.args.given.now in
    let name = c.as_slice-else-is_empty.ensures ∙ c.in_ok-name.ensures in
    answers_as (node_type ts keys done) (named_with env at x given) (formed_by at (former_in c.former_of.result) given) c.sequence_node.result
    (ap (λ is. named_with env at x (map (type_at done) is)) some.2
    ∙ ap (λ is. formed_type env at x (map (type_at done) is)) (sym some.2)
    ∙ ap (λ f. formed_by at f given) (former_alike ts before before keys c.args.names.now c.args.scope.now (normal x)
    ∙ ap (former_of (env_of ts before c.args.scope.now)) (sym name) ∙ c.former_of.ensures ts before))
    (c.sequence_node.ensures.answers ts keys done)

pub returns-then-is_empty-clause-sound : goal.returns-then-is_empty-clause-sound
returns-then-is_empty-clause-sound c = λ n m o. c.name_node.ensures.sound n m o

pub returns-clause-sound : goal.returns-clause-sound
returns-clause-sound c = λ n m o. c.sequence_node.ensures.sound n m

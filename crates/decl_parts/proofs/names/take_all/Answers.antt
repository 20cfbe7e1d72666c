use Rattle.std.proofs.Common.{◌∙◌, ◌∷◌, [], ap, Bool, List}
use Rattle.arc_base.specs.Refusal.{and_then}
use Rattle.indent_scanner.specs.Words.{normal}
use Rattle.nim_tree.specs.declared.name.Declared.{Declared}
use Rattle.expr_parts.proofs.ForCallers.{answers_as}
use Rattle.decl_rules.specs.Definitions.{name_rule, names_behind, names_by}
use Rattle.decl_parts.proofs.names.take_all.Goals as goal

pub returns-in-Some-clause-answers : goal.returns-in-Some-clause-answers
returns-in-Some-clause-answers c = λ st fits h e.
    let name = c.in-Some.name.now in
    let by = λ (k : Bool). and_then (name_rule st [] k name) (λ _. names_behind st (normal name.text ∷ []) c.args.whole c.in-Some.rest.now) in
    answers_as (λ (_ : Unit {0}). tt) (names_by st c.args.whole fits c.args.names.now) (by c.args.first) c.take_first.result
    (ap (λ (l : List Declared). names_by st c.args.whole fits l) c.in-Some.ensures.cases.0 ∙ ap by e) (c.take_first.ensures.answers st h)

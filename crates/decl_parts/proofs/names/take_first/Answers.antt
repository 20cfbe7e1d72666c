use Rattle.std.proofs.Common.{◌∷◌, [], List, length, ap, length-append, arith}
use Rattle.indent_scanner.specs.Words.{normal}
use Rattle.expr_parts.specs.declared.scope.Decl.{Decl}
use Rattle.decl_rules.specs.Definitions.{name_rule, names_behind}
use Rattle.expr_parts.proofs.ForCallers.{goes, stops}
use Rattle.decl_parts.proofs.Naming.{begins_on}
use Rattle.decl_parts.proofs.names.take_first.Goals as goal

pub returns-in-Ok-clause-answers : goal.returns-in-Ok-clause-answers
returns-in-Ok-clause-answers c = λ st h.
    let x = normal c.args.name.now.text in
    goes (λ (_ : Unit {0}). tt) (λ (_ : Unit {0}). tt) (name_rule st [] c.args.first c.args.name.now)
    (λ (_ : Unit {0}). names_behind st (x ∷ []) c.args.whole c.args.rest.now) tt c.take_names.result
    (c.in-Ok.ensures.answers st [] h) (c.take_names.ensures.answers st (x ∷ []) (c.in-Ok.ensures.names st [] h))

pub returns-in-Ok-clause-begins : goal.returns-in-Ok-clause-begins
returns-in-Ok-clause-begins c = begins_on c.args.scope.now.decls c.take_names.new.scope.decls c.take_names.result c.in-Ok.ensures.begins
    c.take_names.ensures.begins

pub returns-in-Err-clause-answers : goal.returns-in-Err-clause-answers
returns-in-Err-clause-answers c = λ st h.
    stops (λ (_ : Unit {0}). tt) (λ (_ : Unit {0}). tt) (name_rule st [] c.args.first c.args.name.now)
    (λ (_ : Unit {0}). names_behind st (normal c.args.name.now.text ∷ []) c.args.whole c.args.rest.now) c.in-Err.stop (c.in-Err.ensures.answers st [] h)

pub take_names-requires : goal.take_names-requires
take_names-requires c =
    let b = c.in-Ok.ensures.begins in
    let e = ap (λ (l : List Decl). length l) b.1 in
    record { outside = omega (arith, c.requires.outside, e, length-append c.args.scope.now.decls b.0) }

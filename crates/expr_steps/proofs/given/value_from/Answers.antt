use Rattle.std.proofs.Common.{subst, ap, length}
use Rattle.nim_tree.specs.Terms.{term_of}
use Rattle.nim_types.specs.Table.{IsBelow}
use Rattle.nim_program.specs.View.{expr_of}
use Rattle.expr_rules.specs.Paths.{can_be_written}
use Rattle.expr_rules.specs.Typed.{accepted}
use Rattle.expr_parts.specs.View.{env_of, valued_of}
use Rattle.expr_parts.proofs.ForCallers.{answers_as}
use Rattle.expr_steps.specs.ViewTyping.{asks_of}
use Rattle.expr_steps.proofs.given.value_from.Goals as goal

pub accepted-requires-clause-expr : goal.accepted-requires-clause-expr
accepted-requires-clause-expr c = subst (IsBelow (length c.args.types.now)) c.requires.typed.0 c.requires.typed.1

pub returns-clause-answers : goal.returns-clause-answers
returns-clause-answers c = λ ts facts u.
    let e = expr_of ts c.args.typed.expr in
    let g = asks_of ts c.args.left.now c.args.asks in
    let said = accepted g (can_be_written (env_of ts facts c.args.scope.now) (term_of c.args.tree.now) e) e in
    c.given_from.ensures.answers ts said
    (answers_as (valued_of ts) said (accepted g c.in-Ok.writable e) c.accepted.result
    (ap (λ w. accepted g w e) (c.in-Ok.ensures.is ts facts))
    (c.accepted.ensures.answers ts facts u))

pub returns-clause-within : goal.returns-clause-within
returns-clause-within c = c.given_from.ensures.within (length c.args.types.now) c.accepted.ensures.within

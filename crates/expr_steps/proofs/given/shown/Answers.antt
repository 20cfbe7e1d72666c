use Rattle.std.proofs.Common.{sym, ap, length}
use Rattle.nim_types.specs.Table.{type_at}
use Rattle.nim_types.specs.Types as type
use Rattle.expr_rules.specs.Names.{dollar_call}
use Rattle.expr_parts.specs.View.{env_of, valued_of}
use Rattle.expr_parts.proofs.ForCallers.{answers_as, text_below, text_under}
use Rattle.expr_steps.specs.ViewTyping.{part_of, text_part}
use Rattle.expr_steps.proofs.given.shown.Goals as goal

pub returns-clause-answers : goal.returns-clause-answers
returns-clause-answers c = λ ts facts u.
    let said = dollar_call (env_of ts facts c.args.scope.now) c.args.number (valued_of ts c.args.given.value) in
    let k = c.args.scope.now.kinds in
    answers_as (part_of ts) (text_part said type.text c.args.given.next) (text_part said (type_at ts k.text) c.args.given.next) c.shown_from.result
    (ap (λ t. text_part said t c.args.given.next) (sym (text_under {k = k} u c.requires.ready.kinds)))
    (c.shown_from.ensures.answers ts said (c.dollar_call-answer.ensures.answers ts facts u))

pub returns-clause-within : goal.returns-clause-within
returns-clause-within c =
    c.shown_from.ensures.within (length c.args.types.now) (text_below {k = c.args.scope.now.kinds} c.requires.ready.kinds)

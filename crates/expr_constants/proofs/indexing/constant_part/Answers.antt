use Rattle.nim_types.specs.Table.{types_at}
use Rattle.nim_program.specs.View.{expr_of, literal_of}
use Rattle.expr_rules.specs.Constants.{if_comes, value_in}
use Rattle.expr_rules.specs.Constructions.{numbered_part}
use Rattle.expr_parts.specs.View.{valued_of}
use Rattle.expr_parts.proofs.ForCallers.{goes, stops}
use Rattle.expr_constants.proofs.indexing.constant_part.Goals as goal

pub returns-in-Ok-clause-answers : goal.returns-in-Ok-clause-answers
returns-in-Ok-clause-answers c = λ ts facts u.
    let go = numbered_part c.args.number c.args.at (valued_of ts c.args.value) (types_at ts c.args.parts.now) in
    goes (expr_of ts) literal_of (if_comes c.args.at (value_in facts (expr_of ts c.args.index.now))) go c.in-Ok.literal c.numbered_part.result
    (c.in-Ok.ensures ts facts u) (c.numbered_part.ensures.answers ts)

pub returns-in-Err-clause-answers : goal.returns-in-Err-clause-answers
returns-in-Err-clause-answers c = λ ts facts u.
    let go = numbered_part c.args.number c.args.at (valued_of ts c.args.value) (types_at ts c.args.parts.now) in
    stops (expr_of ts) literal_of (if_comes c.args.at (value_in facts (expr_of ts c.args.index.now))) go c.in-Err.stop (c.in-Err.ensures ts facts u)

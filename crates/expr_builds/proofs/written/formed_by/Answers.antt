use Rattle.std.proofs.Common.{ap}
use Rattle.std.specs.Prelude.{map}
use Rattle.nim_types.specs.Table.{type_at}
use Rattle.expr_rules.specs.Demands.{of_sequences}
use Rattle.expr_rules.specs.Names.{formed_by}
use Rattle.expr_parts.specs.View.{former_in}
use Rattle.expr_parts.proofs.ForCallers.{answers_as}
use Rattle.expr_builds.proofs.written.formed_by.Goals as goal

pub returns-in-Sequences-clause-answers : goal.returns-in-Sequences-clause-answers
returns-in-Sequences-clause-answers c = λ ts facts u.
    let is = map (type_at ts) c.args.given.now in
    answers_as (type_at ts) (formed_by c.args.at (former_in c.args.former) is) (formed_by c.args.at of_sequences is) c.sequence_type.result
    (ap (λ f. formed_by c.args.at (former_in f) is) c.in-Sequences.is) (c.sequence_type.ensures.answers ts facts u)

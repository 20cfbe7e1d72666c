use Rattle.std.proofs.Common.{ap, ◌∙◌}
use Rattle.std.specs.Prelude.{map, Ok}
use Rattle.nim_types.specs.Types.{sequence}
use Rattle.nim_types.specs.Table.{type_at}
use Rattle.nim_program.specs.Nodes as nodes
use Rattle.nim_program.specs.View.{expr_of, operands_of}
use Rattle.expr_rules.specs.Answers.{node}
use Rattle.expr_rules.specs.Constructions.{sequence_rule}
use Rattle.expr_parts.specs.View.{valued_of, handed_on}
use Rattle.arc_base.proofs.ForCallers.{answers_as}
use Rattle.expr_parts.proofs.Settling.{sequence_from}
use Rattle.expr_parts.proofs.elements.sequence_of.Goals as goal

pub returns-clause-answers : goal.returns-clause-answers
returns-clause-answers c = λ ts facts u want v vs is ty.
    let n = c.args.number in
    let at = c.args.at in
    let es = c.in_ok-parts.parts.items in
    answers_as (expr_of ts) (sequence_rule want n at (map (valued_of ts) c.args.values.items))
    (Ok (nodes.sequence (node n at) (sequence (type_at ts c.args.of)) (operands_of ts es))) c.sequence.result
    (ap (λ all. sequence_rule want n at (map (valued_of ts) all)) is
    ∙ sequence_from ts want n at v vs es (c.in_ok-parts.ensures.operands ∙ ap (map handed_on) is)
    ∙ ap (λ i. Ok (nodes.sequence (node n at) (sequence (type_at ts i)) (operands_of ts es))) ty)
    (c.sequence.ensures.answers ts facts u)

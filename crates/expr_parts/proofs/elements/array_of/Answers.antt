use Rattle.std.proofs.Common.{ap, ◌∙◌, length}
use Rattle.std.specs.Prelude.{map}
use Rattle.nim_types.specs.Table.{type_at}
use Rattle.nim_program.specs.View.{expr_of, operands_of}
use Rattle.expr_rules.specs.Constructions.{array_rule}
use Rattle.expr_parts.specs.View.{valued_of, array_by, handed_on}
use Rattle.arc_base.proofs.ForCallers.{answers_as}
use Rattle.expr_parts.proofs.Settling.{array_from}
use Rattle.expr_parts.proofs.elements.array_of.Goals as goal

pub returns-clause-answers : goal.returns-clause-answers
returns-clause-answers c = λ ts env u v vs is ty.
    let n = c.args.number in
    let at = c.args.at in
    let es = c.in_ok-parts.parts.items in
    answers_as (expr_of ts) (array_rule env n at (map (valued_of ts) c.args.values.items))
    (array_by env.facts n at (length es) (type_at ts c.args.of) (operands_of ts es)) c.array.result
    (ap (λ all. array_rule env n at (map (valued_of ts) all)) is
    ∙ array_from ts env n at v vs es (c.in_ok-parts.ensures.operands ∙ ap (map handed_on) is)
    ∙ ap (λ i. array_by env.facts n at (length es) (type_at ts i) (operands_of ts es)) ty)
    (c.array.ensures.answers ts env.facts u)

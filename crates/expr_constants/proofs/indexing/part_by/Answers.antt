use Rattle.std.proofs.Common.{ap, sym, ◌∙◌, to_z-of_z}
use Rattle.arc_base.specs.declared.place.Code.TheVariants.{NotTyped}
use Rattle.nim_types.specs.Table.{types_at}
use Rattle.nim_program.specs.Program.{Number}
use Rattle.nim_program.specs.View.{expr_of}
use Rattle.expr_rules.specs.Constructions.{nth_type, numbered_part, read_part}
use Rattle.expr_parts.specs.View.{valued_of}
use Rattle.expr_parts.proofs.ForCallers.{answers_as, refuses}
use Rattle.expr_constants.specs.ViewConstants.{natural}
use Rattle.expr_constants.proofs.ConstantSteps.{numbered_none, numbered_some}
use Rattle.expr_constants.proofs.indexing.part_by.Goals as goal

pub returns-in-Some-clause-answers : goal.returns-in-Some-clause-answers
returns-in-Some-clause-answers c = λ ts.
    let n = c.args.number in
    let at = c.args.at in
    let us = types_at ts c.args.parts.now in
    let v = valued_of ts c.args.value in
    answers_as (expr_of ts) (numbered_part n at v us (Number c.args.i)) (read_part n at v c.in-Some.i (nth_type c.in-Some.i us)) c.part_at.result
    (numbered_some n at v us c.args.i c.in-Some.i (sym (c.natural.ensures ∙ ap natural (to_z-of_z c.ranges.i)) ∙ c.in-Some.is))
    (c.part_at.ensures.answers ts)

pub returns-in-None-clause-answers : goal.returns-in-None-clause-answers
returns-in-None-clause-answers c = λ ts.
    let n = c.args.number in
    let at = c.args.at in
    let us = types_at ts c.args.parts.now in
    let v = valued_of ts c.args.value in
    refuses (expr_of ts) (numbered_part n at v us (Number c.args.i)) NotTyped at c.refusal.result c.refusal.ensures
    (numbered_none n at v us c.args.i (sym (c.natural.ensures ∙ ap natural (to_z-of_z c.ranges.i)) ∙ c.in-None.is))

use Rattle.std.proofs.Common.{ap, sym, ◌∙◌, to_z, of_z, w32, rules}
use Rattle.std.proofs.lemmas.Int.{to_z-of_z}
use Rattle.nim_types.specs.Table.{types_at}
use Rattle.nim_program.specs.Program.{Number}
use Rattle.nim_program.specs.View.{expr_of, literal_of}
use Rattle.expr_rules.specs.Constructions.{numbered_part}
use Rattle.expr_parts.specs.View.{valued_of}
use Rattle.expr_parts.proofs.ForCallers.{answers_as}
use Rattle.expr_constants.proofs.indexing.numbered_part.Goals as goal

pub returns-in-Ordinal-clause-answers : goal.returns-in-Ordinal-clause-answers
returns-in-Ordinal-clause-answers c = λ ts.
    let n = c.args.number in
    let us = types_at ts c.args.parts.now in
    let v = valued_of ts c.args.value in
    let i = c.in-Ordinal.i in
    let e = to_z-of_z w32 i (search rules) in
    answers_as (expr_of ts) (numbered_part n c.args.at v us (literal_of c.args.literal.now))
    (numbered_part n c.args.at v us (Number (to_z w32 (of_z w32 i)))) c.part_by.result
    (ap (λ l. numbered_part n c.args.at v us (literal_of l)) c.in-Ordinal.is ∙ sym (ap (λ z. numbered_part n c.args.at v us (Number z)) e))
    (c.part_by.ensures.answers ts)

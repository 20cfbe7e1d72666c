use Rattle.std.proofs.Common.{◌∙◌, refl, sym, ap, get_or, arith}
use Rattle.std.proofs.lemmas.List.{at_drop_all}
use Rattle.nim_program.specs.declared.text_sizes.TheConstants.{MOST_DATA}
use Rattle.nim_program.specs.Folds.{capped}
use Rattle.nim_program.specs.View.{literal_of, literals_of}
use Rattle.nim_program.proofs.ForCallers.{parts_of, elements_of}
use Rattle.program_limits.specs.Data.{linked_part_bytes, linked_parts_bytes}
use Rattle.program_limits.proofs.Capping.{sum_two, sums_next, sums_ended, drop_next}
use Rattle.program_limits.proofs.links.+linked_bytes.Goals as goal

pub linked_part_bytes-returns-in-Parts : goal.linked_part_bytes-returns-in-Parts
linked_part_bytes-returns-in-Parts t c =
    let whole = ap literal_of c.in-Parts.is ∙ parts_of c.in-Parts.all in
    c.or_word.ensures (linked_parts_bytes (literals_of c.in-Parts.all.items)) c.linked_parts_bytes.ensures
    ∙ ap (λ l. capped MOST_DATA (linked_part_bytes l)) (sym whole)

pub linked_part_bytes-returns-in-Elements : goal.linked_part_bytes-returns-in-Elements
linked_part_bytes-returns-in-Elements t c =
    let whole = ap literal_of c.in-Elements.is ∙ elements_of c.in-Elements.all in
    sum_two _ _ _ 16 (linked_parts_bytes (literals_of c.in-Elements.all.items)) _ c.plus.ensures refl c.linked_parts_bytes-in-Elements.ensures refl
    ∙ ap (λ l. capped MOST_DATA (linked_part_bytes l)) (sym whole)

pub linked_parts_bytes-loop-part-preserved : goal.linked_parts_bytes-loop-part-preserved
linked_parts_bytes-loop-part-preserved t c =
    let at = c.loop-part in
    let next = ap (λ xs. linked_parts_bytes (literals_of xs))
    (drop_next c.args.all.now.items at.part-index c.part-item.result (omega (arith, c.loop-part-test.true, c.deref-part-items.ensures.len))
    (c.part-item.is ∙ ap (λ xs. get_or xs at.part-index c.part-item.result) c.deref-part-items.ensures.value)) in
    sums_next _ _ _ _ _ _ _ at.invariant.0 at.invariant.1 c.plus-sum.ensures c.linked_part_bytes.ensures next

pub linked_parts_bytes-returns : goal.linked_parts_bytes-returns
linked_parts_bytes-returns t c =
    let at = c.loop-part in
    sums_ended _ _ _ at.invariant.0 at.invariant.1
    (at_drop_all (λ xs. linked_parts_bytes (literals_of xs)) c.args.all.now.items at.part-index
    (omega (arith, c.loop-part-test.false, c.deref-part-items.ensures.len)))

use Rattle.std.proofs.Common.{below_more, sym, ap, ◌∙◌, arith}
use Rattle.nim_types.specs.Types.{int, same}
use Rattle.nim_types.specs.Table.{types_in}
use Rattle.nim_types.proofs.ForCallers.{at_entry, count}
use Rattle.flattening.proofs.TypeNumbers.{first_number, no_number}
use Rattle.flattening.proofs.known.int_number.Goals as goal

pub returns-then-is_int : goal.returns-then-is_int
returns-then-is_int c =
    let ds = c.args.types.now in
    let same_length = count ds in
    let here = ap (λ t. same t int) (at_entry ds c.loop-id.id c.get.result.now c.count-id-end.ensures.table c.get.ensures.entry)
    ∙ c.is_int.ensures (types_in ds) in
    sym (first_number (types_in ds) int c.loop-id.id (omega arith) (here ∙ c.if-is_int.true) c.loop-id.invariant)

pub loop-id-preserved : goal.loop-id-preserved
loop-id-preserved c =
    let ds = c.args.types.now in
    let here = ap (λ t. same t int) (at_entry ds c.loop-id.id c.get.result.now c.count-id-end.ensures.table c.get.ensures.entry)
    ∙ c.is_int.ensures (types_in ds) in
    below_more _ _ c.loop-id.invariant (here ∙ c.if-is_int.false)

pub returns : goal.returns
returns c =
    let ds = c.args.types.now in
    let same_length = count ds in
    c.count.ensures.count ∙ sym same_length
    ∙ sym (no_number (types_in ds) int
    (λ j m. c.loop-id.invariant j (omega (arith, m, same_length, c.count-id-end.ensures.count, c.loop-id-test.false))))

use Rattle.std.proofs.Common.{◌<◌, ◌≤◌, ◌∙◌, length, sym, arith}
use Rattle.flattening.proofs.TypeNumbers.{number_is, number_beyond}
use Rattle.flattening.proofs.known.type_number.Goals as goal

pub returns : goal.returns
returns c =
    let ds = c.args.around.now.types.now in
    let lt : c.args.ty < length ds = omega (arith, c.if-ty-count.false, c.count.ensures.count) in
    sym (number_is ds c.count.ensures.table c.args.ty lt)

pub returns-then-ty-count : goal.returns-then-ty-count
returns-then-ty-count c =
    let ds = c.args.around.now.types.now in
    let le : length ds ≤ c.args.ty = omega (arith, c.if-ty-count.true, c.count.ensures.count) in
    c.int_number.ensures ∙ sym (number_beyond ds c.args.ty le)

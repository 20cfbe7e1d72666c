use Rattle.std.proofs.Common.{arith}
use Rattle.word_lowering.proofs.NamesRoom.{names_first}
use Rattle.word_lowering.proofs.writing.ends_of.Goals as goal

-- names end at a number of 32 bits
pub overflow_mul-result : goal.overflow_mul-result
overflow_mul-result c =
    let most = names_first c.args.x.now.types.now c.base_at.result in
    let room = c.requires.names in
    omega (arith, most, room, c.names_before.ensures)

pub overflow_add-result : goal.overflow_add-result
overflow_add-result c =
    let most = names_first c.args.x.now.types.now c.base_at.result in
    let room = c.requires.names in
    omega (arith, most, room, c.names_before.ensures)

use Rattle.std.proofs.Common.{◌+◌, arith}
use Rattle.word_lowering.specs.Scope.{around_of}
use Rattle.word_lowering.proofs.TextRoom.{literal_within}
use Rattle.word_lowering.proofs.scope.Scope.literal_at.Goals as goal

-- texts end at a number of 32 bits
pub overflow_cast-result : goal.overflow_cast-result
overflow_cast-result c =
    let x = around_of c.args.self.now in
    let within = literal_within x.from x.procs (x.setting.literals + c.args.behind) c.args.bytes in
    let room = c.requires.texts in
    omega (arith, within, room, c.in_ok-place.ensures)

pub overflow_add-result : goal.overflow_add-result
overflow_add-result c =
    let x = around_of c.args.self.now in
    let within = literal_within x.from x.procs (x.setting.literals + c.args.behind) c.args.bytes in
    let room = c.requires.texts in
    omega (arith, within, room, c.in_ok-place.ensures)

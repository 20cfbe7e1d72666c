use Rattle.std.proofs.Common.{arith}
use Rattle.word_lowering.specs.Scope.{around_of}
use Rattle.word_lowering.proofs.TextRoom.{text_within}
use Rattle.word_lowering.proofs.scope.Scope.text_at.Goals as goal

-- texts end at a number of 32 bits
pub overflow_cast-result : goal.overflow_cast-result
overflow_cast-result c =
    let within = text_within (around_of c.args.self.now).from (around_of c.args.self.now).procs c.args.text.now in
    let room = c.requires.texts in
    omega (arith, within, room, c.in_ok-place.ensures)

pub overflow_add-result : goal.overflow_add-result
overflow_add-result c =
    let within = text_within (around_of c.args.self.now).from (around_of c.args.self.now).procs c.args.text.now in
    let room = c.requires.texts in
    omega (arith, within, room, c.in_ok-place.ensures)

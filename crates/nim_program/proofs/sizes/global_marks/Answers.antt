use Rattle.std.proofs.Common.{◌∙◌, arith}
use Rattle.nim_program.proofs.GlobalMarks.{next_marked}
use Rattle.nim_program.proofs.sizes.global_marks.Goals as goal

pub loop-place-preserved : goal.loop-place-preserved
loop-place-preserved c ts n =
    let at = c.loop-place in
    let x = c.place-item.result in
    let marks = c.make_room.new.marks.items in
    next_marked ts c.args.globals.now at.place-index x marks n c.loop-place-test.true c.place-item.is (omega (arith, c.in_ok-make_room.ensures.enough))
    (c.make_room.ensures.kept n ∙ at.invariant ts n)

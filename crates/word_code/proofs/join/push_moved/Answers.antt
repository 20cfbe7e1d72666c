use Rattle.std.proofs.Common.{◌+◌, ◌≤◌, sym, subst}
use Rattle.word_code.specs.declared.word.WordProc.{WordProc}
use Rattle.word_code.proofs.DataRoom.{room_of_one}
use Rattle.word_code.proofs.join.push_moved.Goals as goal

pub moved_proc-requires : goal.moved_proc-requires
moved_proc-requires c =
    subst (λ (p : WordProc). c.args.before + p.data_from ≤ 4294967295) (sym c.proc-item.is)
    (room_of_one c.args.before c.args.others.now c.loop-proc.proc-index c.proc-item.result c.requires c.loop-proc-test.true)

use Rattle.std.proofs.Common.{◌<◌, List, length, subst, arith}
use Rattle.word_code.specs.declared.word.WordInstr.{WordInstr}
use Rattle.word_runner.specs.Books.{AreLabels}
use Rattle.word_runner.proofs.BookRows.{got, one_more}
use Rattle.word_runner.proofs.books.all_labels_of.Goals as goal

pub loop-proc-preserved : goal.loop-proc-preserved
loop-proc-preserved c =
    let procs = c.args.procs.now in
    let k = c.loop-proc.proc-index in
    let p = c.proc-item.result in
    let lt : k < length procs = omega (arith, c.loop-proc-test.true, c.loop-proc.auto.proc-index-end) in
    one_more procs k p _ c.loop-proc.labels.items c.in_ok-one.one (got procs k p lt c.proc-item.is) c.in_ok-push.ensures.items c.loop-proc.invariant
    (subst (λ (l : List WordInstr). AreLabels l c.in_ok-one.one.items) c.as_slice.ensures c.in_ok-one.ensures)

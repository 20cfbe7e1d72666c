use Rattle.std.proofs.Common.{length, map, sym, ap, subst, ◌∙◌}
use Rattle.word_lowering.specs.Layouts.{AreCounted}
use Rattle.word_lowering.specs.Scope.{around_of, HasRoom}
use Rattle.word_lowering.specs.Texts.{texts_of}
use Rattle.flat_code.specs.Codes.{block_plain}
use Rattle.word_lowering.proofs.TextRoom.{own_room}
use Rattle.word_lowering.proofs.WholeCode.{next_proc}
use Rattle.word_lowering.proofs.lowering.push_procs.Goals as goal

pub push_proc-requires : goal.push_proc-requires
push_proc-requires c =
    subst HasRoom (sym c.in_ok-y.ensures)
    (own_room (around_of c.args.x.now) c.in-Some-split_first.own.now _ c.requires
    (subst AreCounted c.in-Some-split_first.ensures.cases.0 c.loop-proc.invariant.2).0)

pub loop-proc-preserved : goal.loop-proc-preserved
loop-proc-preserved c =
    let next = next_proc (around_of c.args.x.now) (around_of c.in_ok-y.y) c.loop-proc.index c.in_ok-index.index c.loop-proc.behind
    c.in_ok-behind-2.field-0
    c.loop-proc.owns.now c.in-Some-split_first.more.now c.in-Some-split_first.own.now c.loop-proc.left.now c.in-Some.rest.now c.in-Some.proc.now
    c.loop-proc.all c.push_proc.new.all _ c.in-Some.ensures.cases.0 c.in-Some-split_first.ensures.cases.0
    (sym c.is_empty.ensures ∙ c.if-is_empty.false) (c.in_ok-behind-2.ensures ∙ ap (λ ls. length (texts_of (map block_plain ls))) c.as_slice.ensures)
    c.in_ok-y.ensures c.in_ok-index.ensures c.in_ok-push_proc.ensures
    c.loop-proc.invariant.0 c.loop-proc.invariant.1 in
    (next.0, next.1, (subst AreCounted c.in-Some-split_first.ensures.cases.0 c.loop-proc.invariant.2).1)

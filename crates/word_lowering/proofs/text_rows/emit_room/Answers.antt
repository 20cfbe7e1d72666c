use Rattle.word_lowering.proofs.text_rows.emit_room.Goals as goal

pub returns : goal.returns
returns c =
    rw (
      c.address.ensures,
      c.load.ensures,
      c.sum_with.ensures,
      c.load-2.ensures,
      c.constant.ensures,
      c.branch-label.ensures,
      c.sum_with-2.ensures,
      c.load-3.ensures,
      c.compute.ensures,
      c.sum_with-3.ensures,
      c.branch-label-2.ensures,
    ) at c.emit.ensures

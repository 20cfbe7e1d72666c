use Rattle.word_lowering.proofs.text_rows.emit_letter_put.Goals as goal

pub returns : goal.returns
returns c =
    rw (c.in_ok-behind.ensures, c.compute.ensures, c.sum_with.ensures, c.store.ensures, c.sum_with-2.ensures, c.store-2.ensures) at c.emit.ensures

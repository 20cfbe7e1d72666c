use Rattle.word_lowering.proofs.line_code.emit_owned_line.Goals as goal

pub returns-in-Take : goal.returns-in-Take
returns-in-Take c = rw c.in-Take.is c.emit_got_for.ensures

use Rattle.word_lowering.proofs.line_code.emit_item_in.Goals as goal

pub element_bytes-requires : goal.element_bytes-requires
element_bytes-requires c = c.requires.forms

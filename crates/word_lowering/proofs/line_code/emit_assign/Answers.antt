use Rattle.word_lowering.proofs.line_code.emit_assign.Goals as goal

-- types have forms
pub gives_hooked-hooked-requires : goal.gives_hooked-hooked-requires
gives_hooked-hooked-requires c = c.requires.forms

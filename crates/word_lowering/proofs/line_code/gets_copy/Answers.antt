use Rattle.word_lowering.proofs.line_code.gets_copy.Goals as goal

-- types have forms
pub gives_hooked-requires : goal.gives_hooked-requires
gives_hooked-requires c = c.requires.forms

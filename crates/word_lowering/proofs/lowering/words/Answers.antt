use Rattle.std.proofs.Common.{List, sym, ap, subst, ◌∙◌}
use Rattle.flat_code.specs.declared.block.BlockLine.{BlockLine}
use Rattle.flat_code.specs.declared.code.CodeProc.{CodeProc}
use Rattle.word_lowering.specs.Lowered.{all_layouts}
use Rattle.word_lowering.specs.Layouts.{AreCounted}
use Rattle.word_lowering.proofs.CountedLayouts.{layouts_counted}
use Rattle.word_lowering.proofs.lowering.words.Goals as goal

pub words_of-requires-clause-layouts : goal.words_of-requires-clause-layouts
words_of-requires-clause-layouts c =
    c.as_slice-2.ensures ∙ c.in_ok-all.ensures ∙ ap (λ (ps : List (CodeProc BlockLine)). all_layouts c.args.types.now ps) c.as_slice.ensures

pub layouts-requires-clause-counted : goal.layouts-requires-clause-counted
layouts-requires-clause-counted c =
    subst (λ (ps : List (CodeProc BlockLine)). AreCounted (all_layouts c.args.types.now ps)) (sym c.as_slice.ensures)
    (layouts_counted c.args.types.now c.args.blocks.now c.requires.may)

use Rattle.std.proofs.Common.{[], ◌++◌, ap, ◌∙◌}
use Rattle.word_lowering.specs.Texts.{texts_in}
use Rattle.word_lowering.proofs.LayingTexts.{all_laid, bytes_laid}
use Rattle.word_lowering.proofs.laid_texts.laid_texts.Goals as goal

pub invariant_of-texts : goal.invariant_of-texts
invariant_of-texts c =
    let procs = c.args.procs.now in
    all_laid c.args.from procs c.put_procs.new.laying (c.put_procs.ensures [] (c.no_text-laying.ensures c.args.from)) c.if-laying.false
    c.push_texts_in.new.bytes (c.in_ok-push_texts_in.ensures ∙ ap (λ l. l ++ texts_in procs) c.new-all.ensures)

pub returns-clause-bytes : goal.returns-clause-bytes
returns-clause-bytes c =
    bytes_laid c.args.from c.args.procs.now c.put_procs.new.laying (c.put_procs.ensures [] (c.no_text-laying.ensures c.args.from)) c.if-laying.false

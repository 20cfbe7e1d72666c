use Rattle.std.proofs.Common.{◌≡◌, ◌-◌, ◌∙◌, ℕ, List, length, take, drop, min, ap, ap₂}
use Rattle.word_lowering.proofs.StackedWords.{last_are}
use Rattle.word_lowering.proofs.linked.last_words.Goals as goal

pub returns : goal.returns
returns c values h =
    last_are c.as_slice-words.result.now values c.args.n c.begin_of.result c.min-at.result (c.as_slice-words.ensures.value ∙ h.words)
    (c.begin_of.ensures values h) c.min-at.ensures

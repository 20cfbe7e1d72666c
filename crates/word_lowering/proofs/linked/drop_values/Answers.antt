use Rattle.std.proofs.Common.{◌≡◌, ◌-◌, ◌++◌, ◌∙◌, ℕ, length, take, drop, ap, ap₂}
use Rattle.word_lowering.specs.LaidTexts.{begins, stacked}
use Rattle.word_lowering.specs.Linked.{last_words}
use Rattle.word_lowering.proofs.StackedWords.{begins_left, stacked_split, take_past}
use Rattle.word_lowering.proofs.linked.drop_values.Goals as goal

pub returns : goal.returns
returns c values h =
    let n : ℕ = c.args.n in
    record {
      words = c.truncate-2.ensures.items ∙ ap₂ (λ m ws. take m ws) (c.begin_of-at.ensures values h) (h.words ∙ stacked_split values n)
          ∙ take_past (stacked (drop n values)) (last_words n values);
      begins = c.truncate.ensures.items ∙ ap₂ (λ m ns. take m ns) (c.first_of-first.ensures ∙ ap (λ ns. length ns - n) h.begins) h.begins
          ∙ begins_left values n;
    }
